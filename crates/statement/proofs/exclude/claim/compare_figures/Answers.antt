-- The figures are equal exactly when their bits are.
use mathlib.Core.Path.{◌∙◌, ap}
use Rattle.movement.specs.Exclusion.{same_figure}
use Rattle.movement.specs.Figures.{figure}
use Rattle.model.proofs.Refusals.{answer-last_fails, answer-last-passes}
use Rattle.opened.proofs.Shapes.{sizes}
use Rattle.statement.proofs.exclude.Bits.{bits_equal, bits_differ}
use Rattle.statement.proofs.exclude.claim.compare_figures.Goals as goal

pub figure_of-first-requires : goal.figure_of-first-requires
figure_of-first-requires c = let pre = c.requires in record { weights_value = pre.weights_value; marking = rw c.write_start.ensures (sizes c.args.net.now.is_open).well_formed.start }

pub figure_of-claimed-requires : goal.figure_of-claimed-requires
figure_of-claimed-requires c = let pre = c.requires in record { weights_value = pre.weights_value; marking = pre.marking }

pub returns-then-claimed-first : goal.returns-then-claimed-first
unfolding same_figure
returns-then-claimed-first c =
    answer-last_fails
    (bits_equal c.figure_of-claimed.type_inv c.figure_of-first.type_inv c.figure_of-claimed.ensures (c.figure_of-first.ensures ∙ ap (figure _ _) c.write_start.ensures) c.if-claimed-first.true)
    c.refused.ensures

pub returns : goal.returns
unfolding same_figure
returns c =
    answer-last-passes _
    (bits_differ c.figure_of-claimed.type_inv c.figure_of-first.type_inv c.figure_of-claimed.ensures (c.figure_of-first.ensures ∙ ap (figure _ _) c.write_start.ensures) c.if-claimed-first.false)
