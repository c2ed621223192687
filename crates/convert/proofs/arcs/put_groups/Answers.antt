use mathlib.Core.Path.{sym, ap}
use native.Mathlib.Omega.{arith}
use Rattle.sheets.specs.Decoded.{net_of}
use Rattle.opened.proofs.Shapes.{sizes}
use Rattle.sheets.proofs.written.Puts.{room_as, puts_as, puts_none, room-more, puts-more, puts-end}
use Rattle.convert.specs.Parts.{mode_group}
use Rattle.convert.proofs.arcs.put_groups.Goals as goal

pub put_group-next-requires : goal.put_group-next-requires
put_group-next-requires c = let l = c.loop-t in
    let segment = c.arcs_of-arcs.ensures in
    let group = ap (λ m. mode_group c.args.version (net_of c.args.net.now.sheet.now) m.0) (sym segment.mode) in record { mode_arcs = segment.own; room = room_as group (room-more _ l.t l.invariant _ c.requires.room c.loop-t-test.true) }

pub loop-t-preserved : goal.loop-t-preserved
loop-t-preserved c =
    let l = c.loop-t in
    let group = ap (λ m. mode_group c.args.version (net_of c.args.net.now.sheet.now) m.0) c.arcs_of-arcs.ensures.mode in
    puts-more _ l.t l.invariant (puts_as group c.put_group-next.ensures)

pub loop-t-init : goal.loop-t-init
loop-t-init c = puts_none _

pub overflow_cast-t : goal.overflow_cast-t
overflow_cast-t c = omega (arith, (sizes c.args.net.now.is_open).modes_within)

pub returns : goal.returns
returns c = puts-end _ c.loop-t.t c.loop-t.invariant _ c.loop-t.auto.t-end c.loop-t-test.false
