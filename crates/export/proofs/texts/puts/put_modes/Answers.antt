use mathlib.Core.Path.{sym, ap}
use native.Mathlib.Omega.{arith}
use Rattle.sheets.specs.Decoded.{net_of}
use Rattle.opened.proofs.Shapes.{sizes}
use Rattle.sheets.proofs.written.Puts.{puts_as, puts_none, puts-more}
use Rattle.pnml.specs.Pnml.{mode_text}
use Rattle.export.proofs.texts.Texts.{for_as, for_more}
use Rattle.export.proofs.texts.puts.put_modes.Goals as goal

pub put_mode-next-requires : goal.put_mode-next-requires
put_mode-next-requires c = let l = c.loop-t in
    let start = c.args in
    let pre = c.requires in
    let segment = c.arcs_of-arcs.ensures in
    let below = c.loop-t-test.true in
    let text = ap (λ m. mode_text (net_of start.net.now.sheet.now).arcs m.0) (sym segment.mode) in
    let room = for_as text (for_more _ l.t l.invariant _ pre.room_for below) in record { mode_bound = omega (arith, below, (sizes c.args.net.now.is_open).modes_within, ap (λ m. m.0) segment.mode); mode_arcs = segment.own; room_for = room }

pub loop-t-preserved : goal.loop-t-preserved
loop-t-preserved c =
    let l = c.loop-t in
    let text = ap (λ m. mode_text (net_of c.args.net.now.sheet.now).arcs m.0) c.arcs_of-arcs.ensures.mode in
    puts-more _ l.t l.invariant (puts_as text c.put_mode-next.ensures)

pub loop-t-init : goal.loop-t-init
loop-t-init c = puts_none _

pub overflow_cast-t : goal.overflow_cast-t
overflow_cast-t c = omega (arith, (sizes c.args.net.now.is_open).modes_within)
