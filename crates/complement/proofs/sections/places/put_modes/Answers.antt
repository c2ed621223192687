use borrow.Author.Rules.{rules}
use mathlib.Core.Path.{sym, ap}
use Rattle.sheets.specs.written.Written.{bytes16}
use Rattle.sheets.proofs.written.Puts.{put_length, room_as, puts_as, count_fits, puts_none, room-more, puts-more, puts-end}
use Rattle.complement.proofs.sections.PlaceHalves.{mode-parts}
use Rattle.complement.proofs.sections.places.put_modes.Goals as goal

pub loop-transition-init : goal.loop-transition-init
loop-transition-init c = puts_none _

pub put_count-next-requires : goal.put_count-next-requires
put_count-next-requires c =
    let l = c.loop-transition in
    let pre = c.requires in
    let room = room-more _ l.transition l.invariant _ (room_as (mode-parts c.args.net.now.is_open) pre.room) c.loop-transition-test.true in
    (count_fits _ room, search rules)

pub loop-transition-preserved : goal.loop-transition-preserved
loop-transition-preserved c =
    let l = c.loop-transition in
    puts-more _ l.transition l.invariant (puts_as (ap bytes16 c.modes_of.ensures.0) (put_length c.put_count-next.ensures))

pub returns : goal.returns
returns c =
    let l = c.loop-transition in
    puts_as (sym (mode-parts c.args.net.now.is_open)) (puts-end _ l.transition l.invariant _ l.auto.transition-end c.loop-transition-test.false)
