-- Demand 3 of the calls: the run call over a net sheet and over its complement's, as the complementing call wrote it. One movement sheet, any bytes; two
-- lent markings that correspond, so that what one pair of runs leaves may be lent to the next: a list of any length is run sheet after sheet, or movement by movement.
use Rattle.std.specs.Prelude.{ℕ, ◌≡◌, List, get_or}
use Rattle.std.proofs.Math.Option.{none, some}
use Rattle.model.specs.declared.Mode.{Mode}
use Rattle.model.specs.declared.Thing.TheVariants.{Movements}
use Rattle.model.specs.declared.Refusal.{Refusal}
use Rattle.model.specs.Nets.{mode_no}
use Rattle.movement.specs.Runs.{Outcome}
use Rattle.model.specs.Replies.{yields}
use Rattle.model.specs.Markings.{marking_refusal}
use Rattle.second_form.specs.Complement.{Corresponds}
use Rattle.second_form.specs.DemandThree.{becomes}
use Rattle.sheets.specs.Whole.{whole_movements}
use Rattle.sheets.specs.Decoded.{net_of, movements_of}
use Rattle.sheets.specs.Emitted.{told}
use Rattle.fire.specs.Calls.{begin_refusal, begun}
use Rattle.run.specs.Calls.{run_of}
use Rattle.complement.specs.Complemented.{complement_of}
use Rattle.promises.specs.DemandThree.{as_written}

module _ (net complement movements marking marking' : List ℕ) where
  abbrev in_net : Outcome
  in_net = run_of net movements marking

  abbrev in_complement : Outcome
  in_complement = run_of complement movements marking'

  abbrev next_mode : Mode
  next_mode = get_or (movements_of movements) in_net.accepted (mode_no 0)

  pub record RunsAgree : Type 0 where
    -- "both accept the same movements and stop at the same one", or run whole
    pub accepted : in_complement.accepted ≡ in_net.accepted
    -- a movement sheet that is refused is refused alike, before the first movement
    pub sheet_refused : (r : Refusal) → whole_movements movements ≡ some r
        → (in_net.refusal ≡ some r) × (in_complement.refusal ≡ some r) × (in_net.accepted ≡ 0)
    -- "11, 12 and 13 in the net become 11 in its complement; 6 and 14 stay"
    pub refusal : whole_movements movements ≡ none → in_complement.refusal ≡ becomes Movements (net_of net) next_mode in_net.marking in_net.refusal
    pub at_end : Corresponds (net_of net) in_net.marking in_complement.marking

-- a marking that begin wrote is accepted (`MarkingStays`), and so is one that a run leaves (`RunsKeep`)
pub record RunAlike (net complement : List ℕ) : Type 0 where
  pub at_start : (marking marking' : List ℕ) → begin_refusal net marking ≡ none → begin_refusal complement marking' ≡ none
      → Corresponds (net_of net) (begun net marking) (begun complement marking')
  pub onwards : (movements marking marking' : List ℕ) → marking_refusal (net_of net) marking ≡ none → Corresponds (net_of net) marking marking'
      → RunsAgree net complement movements marking marking'

abbrev pub TwoRuns : Type 0
TwoRuns = (net out : List ℕ) (n : ℕ) → told (complement_of net out) ≡ yields n → RunAlike net (as_written net out n)
