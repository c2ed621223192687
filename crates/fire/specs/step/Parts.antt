-- What the private functions of this crate say of a step's members.
-- A reader of the promises may skip this file.
use Rattle.std.specs.Prelude.{ℕ, ◌≤◌, ◌<◌, List, length, get_or}
use Rattle.std.proofs.Math.Option.{Option}
use Rattle.model.specs.declared.Thing.TheVariants.{Argument}
use Rattle.model.specs.declared.Refusal.{Refusal}
use Rattle.model.specs.First.{◌▸◌, first}
use Rattle.model.specs.Nets.{PNet, mode_no}
use Rattle.model.specs.Markings.{marking_refusal}
use Rattle.model.specs.Firing.{absent}
use Rattle.both_forms.specs.Steps.{together, step_outside, step_refusal}
use Rattle.fire.specs.step.Calls.{step_modes}
use Rattle.fire.specs.step.Sums.{refusal_of}

-- 6 for the i-th member, where a net has n modes; 4, then 6 for any
abbrev pub member_absent : ℕ → List ℕ → ℕ → Option Refusal
member_absent n modes i = absent Argument n (mode_no (get_or modes i 0))

unfoldable pub members_refusal : ℕ → List ℕ → Option Refusal
members_refusal n modes = step_outside (step_modes modes) ▸ first (length modes) (member_absent n modes)

-- what has then been met
pub record Members (n : ℕ) (modes : List ℕ) : Type 0 where
  pub few : length modes ≤ 64
  pub each : (i : ℕ) → i < length modes → get_or modes i 0 < n

-- then 11 to 14 over the sums
unfoldable pub sums_refusal : PNet → List ℕ → List ℕ → Option Refusal
sums_refusal net modes m = refusal_of net (together net (step_modes modes)) m

-- the marking, then the step, of a call that takes both
abbrev pub argument_refusal : PNet → List ℕ → List ℕ → Option Refusal
argument_refusal net m modes = marking_refusal net m ▸ step_refusal net (step_modes modes) m
