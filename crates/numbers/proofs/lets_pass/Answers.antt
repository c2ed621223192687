-- All four tests; below Pre; or tested by the arc's number.
use mathlib.Core.Path.{sym}
use borrow.Author.Tests.{lt-leb}
use native.Mathlib.Omega.{arith}
use Rattle.sheets.specs.Decoded.{net_of}
use Rattle.opened.proofs.Shapes.{sizes}
use Rattle.opened.proofs.Segments.{own-there}
use Rattle.numbers.proofs.ByNumbers.{below-pre, below-number, numbers_there}
use Rattle.numbers.proofs.lets_pass.Goals as goal

pub room_at-requires : goal.room_at-requires
room_at-requires c = let pre = c.requires in
    let read = pre.arc_is in record { pair_lt_pairs = (read.pair, omega (arith, read.pre)) }

pub returns-then-is_empty : goal.returns-then-is_empty
returns-then-is_empty c = rw c.room_at.ensures at c.is_free.ensures

pub returns-else-arc-count : goal.returns-else-arc-count
returns-else-arc-count c =
    let read = c.requires.arc_is in
    rw (lt-leb _ _ c.if-arc-count.false) (below-pre (net_of c.args.net.now.sheet.now) _ _ read.is read.post _ c.if-arc-count.false)

pub bounds-numbers-slot : goal.bounds-numbers-slot
bounds-numbers-slot c =
    let numbers = numbers_there c.requires.numbered (sym c.if-is_empty.ensures) in
    omega (arith, c.slot.ensures.1, (sizes c.requires.numbered.opened).arcs, numbers.long)

pub returns-then-arc-count : goal.returns-then-arc-count
returns-then-arc-count c =
    let numbers = numbers_there c.requires.numbered (sym c.if-is_empty.ensures) in
    let read = c.requires.arc_is in
    rw c.slot.ensures.0 (below-number (net_of c.args.net.now.sheet.now) _ _ read.is read.post _ _ (numbers.each _ (own-there c.requires.own_arc)) c.if-arc-count.true)
