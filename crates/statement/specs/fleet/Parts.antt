-- What the private functions of this crate speak of: how heavy a ship's run can be, and one ship into a record by value. A reader of the promises may skip this file.
use Rattle.std.specs.Prelude.{ℕ, ◌≤◌, nat_abs, Result, Ok, Err}
use Rattle.std.proofs.Math.Option.{Option, none, some}
use Rattle.model.specs.declared.Refusal.{Refusal}
use Rattle.ships.specs.declared.Fleet.{Fleet}
use Rattle.ships.specs.declared.Voyage.{Voyage}
use Rattle.ships.specs.Ships.{Ship, voyage_of, with_voyage}
use Rattle.ships.specs.Entered.{ship_refusal}

-- 256 pairs of a weight and a number within 1,000,000 each; and 8,192 movements
abbrev pub heaviest_mode : ℕ
heaviest_mode = 256000000000000

abbrev pub heaviest : ℕ
heaviest = 2097152000000000000

pub record Light (v : Voyage) : Type 0 where
  pub accepted : v.accepted ≤ 8192
  pub added : nat_abs v.added ≤ heaviest
  pub removed : nat_abs v.removed ≤ heaviest

-- the record with one ship more, or the refusal
abbrev pub raised_by : Option Refusal → Fleet → Ship → Result Fleet Refusal
raised_by none f s = Ok (with_voyage f (voyage_of s))
raised_by (some r) f s = Err r

abbrev pub raised : Fleet → Ship → Result Fleet Refusal
raised f s = raised_by (ship_refusal f s) f s
