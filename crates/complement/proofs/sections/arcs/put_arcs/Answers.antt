use mathlib.Core.Path.{sym, ap}
use native.Mathlib.Omega.{arith}
use Rattle.sheets.specs.Decoded.{net_of}
use Rattle.opened.proofs.Shapes.{sizes}
use Rattle.complement.specs.sections.Arcs.{row_bytes}
use Rattle.complement.proofs.sections.Read.{entry-dead}
use Rattle.sheets.proofs.written.Puts.{room_as, puts_as, puts_none, room-more, puts-more, puts-end}
use Rattle.complement.proofs.sections.arcs.put_arcs.Goals as goal

pub put_mode-next-requires : goal.put_mode-next-requires
put_mode-next-requires c = let l = c.loop-t in
    let segment = c.arcs_of.ensures in
    let row = ap (λ m. row_bytes (net_of c.args.bounded.now.net.now.sheet.now) c.args.bounded.now.net.now.shape.version m.0) (sym segment.mode) in
    let room = room-more _ l.t l.invariant _ c.requires.room c.loop-t-test.true in record { mode_arcs = segment.own; dead_value = entry-dead c.args.bounded.now.net.now.is_open c.requires.dead_are l.t c.loop-t-test.true segment; room = room_as row room }

pub loop-t-preserved : goal.loop-t-preserved
loop-t-preserved c =
    let l = c.loop-t in
    let row = ap (λ m. row_bytes (net_of c.args.bounded.now.net.now.sheet.now) c.args.bounded.now.net.now.shape.version m.0) c.arcs_of.ensures.mode in
    puts-more _ l.t l.invariant (puts_as row c.put_mode-next.ensures)

pub returns : goal.returns
returns c =
    let l = c.loop-t in
    puts-end _ l.t l.invariant _ l.auto.t-end c.loop-t-test.false

pub loop-t-init : goal.loop-t-init
loop-t-init c = puts_none _

pub bounds-dead-t : goal.bounds-dead-t
bounds-dead-t c = omega (arith, (sizes c.args.bounded.now.net.now.is_open).modes_within)

pub overflow_cast-t : goal.overflow_cast-t
overflow_cast-t c = omega (arith, (sizes c.args.bounded.now.net.now.is_open).modes_within)
