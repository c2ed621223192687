-- The examples of the weak capacity rule.
use mathlib.Core.Path.{refl}
use mathlib.Core.List.{[], ◌∷◌}
use Rattle.model.specs.declared.CapacityRule.TheVariants.{Weak}
use Rattle.model.specs.First.{◌▸◌, first}
use Rattle.model.specs.Lists.{joined}
use Rattle.model.specs.Nets.{entry_at}
use Rattle.model.specs.Markings.{marking_refusal}
use Rattle.model.specs.Firing.{rule_refusal, row_refusal, mode_refusal}
use Rattle.second_form.specs.Dead.{dead_pair, is_dead}
use Rattle.second_form.specs.Complement.{bounded, complement_row, new_places, arcs_of, complement, refusal15, sheet_limits, complement_refusal, Corresponds}
use Rattle.both_forms.specs.Steps.{together, step_refusal}
use Rattle.both_forms.specs.WeakExamples.{exchange, WeakExamples, WeakSteps}
use Rattle.movement.proofs.Markings.{marking-test}
use Rattle.second_form.proofs.ComplementNet.{first-corresponds}

pub weak_examples_lem : WeakExamples
unfolding mode_refusal row_refusal rule_refusal ◌▸◌ first marking_refusal is_dead dead_pair complement arcs_of new_places complement_row bounded joined entry_at
weak_examples_lem = record { swap = (refl, refl); over = (refl, refl); dead = (refl, refl); within_capacity = (refl, refl, refl); beside = (refl, refl) }

full-corresponds : Corresponds (exchange Weak) (5 ∷ []) (5 ∷ 0 ∷ [])
unfolding complement bounded joined marking_refusal ◌▸◌ first
full-corresponds = first-corresponds (exchange Weak) ((marking-test (exchange Weak) (5 ∷ [])).0 refl)

pub weak_steps_lem : WeakSteps
unfolding step_refusal row_refusal rule_refusal together ◌▸◌ first complement_refusal refusal15 sheet_limits is_dead dead_pair complement arcs_of new_places complement_row bounded joined entry_at
weak_steps_lem = record { accepted = refl; corresponds = full-corresponds; in_net = refl; refused = refl; strongly = refl }
