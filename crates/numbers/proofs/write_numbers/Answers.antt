use borrow.Author.Rules.{rules}
use mathlib.Core.Path.{sym, ◌∙◌}
use native.Mathlib.Omega.{arith}
use Rattle.opened.proofs.Shapes.{sizes}
use Rattle.numbers.proofs.ByNumbers.{numbers-none, numbers-all}
use Rattle.numbers.proofs.write_numbers.Goals as goal

pub loop-t-init : goal.loop-t-init
loop-t-init c = numbers-none _ _ c.requires.numbers_len

pub arcs_of-requires : goal.arcs_of-requires
arcs_of-requires c = let pre = c.requires in record { starts_are = pre.starts_are; mode_lt_modes = c.loop-t-test.true }

pub write_mode-requires : goal.write_mode-requires
write_mode-requires c = let segment = c.arcs_of.ensures in record { mode_arcs = segment.own; numbers_below = rw segment.mode c.loop-t.invariant }

pub loop-t-preserved : goal.loop-t-preserved
loop-t-preserved c =
    rw c.arcs_of.ensures.mode at c.write_mode.ensures

pub shape_of-numbers : goal.shape_of-numbers
shape_of-numbers c = c.loop-t.invariant.long ∙ sym c.requires.numbers_len

pub returns : goal.returns
returns c =
    let z = sizes c.args.net.now.is_open in
    numbers-all _ _ z.well_formed c.loop-t.t (omega (arith, z.modes)) (omega (arith, z.arcs, z.arcs_within)) c.loop-t.invariant

pub overflow_cast-t : goal.overflow_cast-t
overflow_cast-t c = omega (arith, (sizes c.args.net.now.is_open).modes_within)
