-- The weights, then 6, then the sum over the mode's own arcs.
use borrow.Author.Rules.{rules}
use mathlib.Core.Path.{refl, ◌∙◌}
use Rattle.model.specs.declared.Thing.TheVariants.{Argument}
use Rattle.opened.proofs.Segments.{segment-own}
use Rattle.opened.proofs.Modes.{open_there, open_missing}
use Rattle.statement.proofs.weigh.Answers.{figured-stops, figured-goes-on, figured-refused, figured-is, weights-refused, weights-pass, weights-accepted}
use Rattle.model.proofs.Asking.{handed_on}
use Rattle.statement.proofs.weigh.Terms.{gains-change}
use Rattle.statement.proofs.weigh.change_answer.Goals as goal

pub returns-in_err-whole_weights : goal.returns-in_err-whole_weights
returns-in_err-whole_weights c =
    figured-stops _ _ _ (weights-refused c.args.net.now.is_open _ c.in_err-whole_weights.ensures) (handed_on c.from_residual.ensures)

pub returns-then-net-mode : goal.returns-then-net-mode
returns-then-net-mode c =
    figured-goes-on _ _ _ (weights-pass c.args.net.now.is_open _ c.in_ok-whole_weights.ensures)
    (figured-refused _ (open_missing c.args.net.now.is_open Argument c.args.mode c.if-net-mode.true) refl)

pub gains-requires : goal.gains-requires
gains-requires c = record { weights_value = weights-accepted c.args.net.now.is_open _ c.in_ok-whole_weights.ensures; mode_arcs = c.find_arcs.ensures.own }

pub returns : goal.returns
returns c =
    figured-goes-on _ _ _ (weights-pass c.args.net.now.is_open _ c.in_ok-whole_weights.ensures)
    (figured-is c.gains.type_inv (c.gains.ensures ∙ gains-change c.args.net.now.is_open _ _ _ _ (segment-own c.find_arcs.ensures))
    (open_there c.args.net.now.is_open Argument c.args.mode c.if-net-mode.false))
