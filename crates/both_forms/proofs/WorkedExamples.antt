-- Complementing accepts each worked example, and its complement is the printed one.
use mathlib.Core.Path.{refl}
use Rattle.model.specs.First.{◌▸◌, first}
use Rattle.model.specs.Nets.{entry_at}
use Rattle.second_form.specs.Dead.{dead_pair, is_dead}
use Rattle.second_form.specs.Complement.{bounded, complement_row, new_places, arcs_of, complement, refusal15, sheet_limits, complement_refusal}
use Rattle.model.specs.Lists.{joined}
use Rattle.both_forms.specs.WorkedExamples.{WorkedExamples}

pub worked_examples_lem : WorkedExamples
unfolding complement_refusal refusal15 dead_pair is_dead sheet_limits ◌▸◌ first complement arcs_of new_places complement_row bounded joined entry_at
worked_examples_lem = record { accepted = refl; complemented = refl }
