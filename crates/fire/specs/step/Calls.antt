-- test_step and fire_step over a net sheet, a lent marking and the modes of a step: what each answers, and what it leaves in the marking.
-- "Refusals: net and marking, 4 for an empty or too long step, then 6, 11, 12, 13, 14 over the sums."
use Rattle.std.specs.Prelude.{ℕ, List, map}
use Rattle.std.proofs.Math.Option.{Option}
use Rattle.model.specs.declared.Mode.{Mode}
use Rattle.model.specs.declared.Refusal.{Refusal}
use Rattle.model.specs.First.{◌▸◌}
use Rattle.model.specs.Nets.{mode_no}
use Rattle.model.specs.Markings.{marking_refusal}
use Rattle.both_forms.specs.Steps.{step_refusal, fired_together}
use Rattle.sheets.specs.Whole.{whole_net}
use Rattle.sheets.specs.Decoded.{net_of}
use Rattle.leaving.specs.Leaving.{written}

-- the modes, lent as their numbers
abbrev pub step_modes : List ℕ → List Mode
step_modes modes = map mode_no modes

unfoldable pub test_step_refusal : List ℕ → List ℕ → List ℕ → Option Refusal
test_step_refusal net marking modes = whole_net net ▸ marking_refusal (net_of net) marking ▸ step_refusal (net_of net) (step_modes modes) marking

abbrev pub stepped_by : List ℕ → List ℕ → List ℕ → List ℕ
stepped_by net marking modes = written (test_step_refusal net marking modes) (fired_together (net_of net) (step_modes modes) marking) marking
