-- 4, then 10, or none, of the export of a net.
use Prim.Native.Nat.{ℕ, ◌≤◌, ◌<◌}
use mathlib.Core.Path.{◌≡◌, refl}
use mathlib.Core.Bool.{Bool, true, false, ◌||◌}
use mathlib.Core.Logic.{◌⊎◌, inl, inr, ⊎_elim}
use mathlib.Core.Option.{none, some}
use lib.Dec.{ltb}
use lib.ListN.{length}
use borrow.Author.Tests.{lt-ltb, le-ltb}
use Rattle.model.specs.declared.Thing.TheVariants.{Net, Argument}
use Rattle.model.specs.declared.Fault.TheVariants.{CountOutside, NoRoom}
use Rattle.model.specs.First.{◌▸◌}
use Rattle.model.specs.Nets.{PNet, pairs, modes}
use Rattle.model.specs.Refusals.{wrong}
use Rattle.model.proofs.First.{below_or}
use Rattle.pnml.specs.Singles.{imported_sheet, import_refusal}

or_true : (a : Bool) → a || true ≡ true
or_true true = refl
or_true false = refl

-- 4 whatever the room
pub too_many_lem : (net : PNet) (room : ℕ) → (64 < pairs net) ⊎ (64 < modes net) → import_refusal net room ≡ some (wrong Argument (CountOutside 0))
unfolding import_refusal ◌▸◌
too_many_lem net room (inl h) = rw (lt-ltb 64 (pairs net) h) refl
too_many_lem net room (inr h) = rw (lt-ltb 64 (modes net) h, or_true (ltb 64 (pairs net))) refl

module _ (net : PNet) (room : ℕ) (few : pairs net ≤ 64) (some-modes : modes net ≤ 64) where
  pub short : room < length (imported_sheet net) → import_refusal net room ≡ some (wrong Net NoRoom)
  unfolding import_refusal ◌▸◌
  short h = rw (le-ltb 64 (pairs net) few, le-ltb 64 (modes net) some-modes, lt-ltb room (length (imported_sheet net)) h) refl

  pub roomy : length (imported_sheet net) ≤ room → import_refusal net room ≡ none
  unfolding import_refusal ◌▸◌
  roomy h = rw (le-ltb 64 (pairs net) few, le-ltb 64 (modes net) some-modes, le-ltb room (length (imported_sheet net)) h) refl

-- what an export is refused by, if it is: 4, else 10
pub data Way (net : PNet) (room : ℕ) : Type 0 where
  many : (64 < pairs net) ⊎ (64 < modes net) → import_refusal net room ≡ some (wrong Argument (CountOutside 0)) → Way net room
  full : pairs net ≤ 64 → modes net ≤ 64 → room < length (imported_sheet net) → import_refusal net room ≡ some (wrong Net NoRoom) → Way net room
  whole : pairs net ≤ 64 → modes net ≤ 64 → length (imported_sheet net) ≤ room → import_refusal net room ≡ none → Way net room

pub way : (net : PNet) (room : ℕ) → Way net room
way net room =
    ⊎_elim (λ (l : 64 < pairs net). many (inl l) (too_many_lem net room (inl l)))
    (λ (p : pairs net ≤ 64).
    ⊎_elim (λ (l : 64 < modes net). many (inr l) (too_many_lem net room (inr l)))
    (λ (m : modes net ≤ 64).
    ⊎_elim (λ (l : room < length (imported_sheet net)). full p m l (short net room p m l)) (λ (l : length (imported_sheet net) ≤ room). whole p m l (roomy net room p m l))
    (below_or room (length (imported_sheet net))))
    (below_or 64 (modes net)))
    (below_or 64 (pairs net))
