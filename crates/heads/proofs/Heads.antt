-- What an accepted head says.
use Prim.Native.Nat.{ℕ, ◌≤◌}
use mathlib.Core.Path.{◌≡◌, refl}
use mathlib.Core.Bool.{true, false}
use mathlib.Core.List.{List}
use mathlib.Core.Logic.{◌≢◌}
use mathlib.Core.Option.{none}
use lib.ListN.{length}
use lib.Dec.{ltb, eqb}
use native.Mathlib.Omega.{arith}
use borrow.Author.Tests.{ltb-false, eqb-false, eq-eqb, ne_eqb}
use Rattle.model.specs.declared.Thing.{Thing}
use Rattle.model.specs.declared.Thing.TheVariants.{Net, Weights, Movements, Argument}
use Rattle.model.specs.declared.Version.{Version}
use Rattle.model.specs.declared.Version.TheVariants.{One, Two}
use Rattle.model.proofs.First.{left-none, right-none, only_if_none}
use Rattle.heads.specs.Layout.{body_length, sheet_end, fields_from, fields_at}
use Rattle.heads.specs.Version.{version_of}
use Rattle.heads.specs.Checks.{known, head_refusal}
use Rattle.heads.specs.Held.{Headed}

pub head-holds : (thing : Thing) (s : List ℕ) → head_refusal thing s ≡ none → Headed s
unfolding head_refusal
head-holds thing s e =
    let e₁ = right-none _ _ e in
    let short : ltb (length s) (sheet_end s) ≡ _ = only_if_none _ _ (left-none _ _ e₁) in
    let empty : eqb (body_length s) 0 ≡ _ = only_if_none _ _ (left-none _ _ (right-none _ _ e₁)) in
    record { there = ltb-false _ _ short; versioned = omega (arith, eqb-false (body_length s) 0 empty) }

-- which versions a sheet may have
pub first-known : (thing : Thing) (v : ℕ) → v ≡ 1 → known thing v ≡ true
unfolding known
first-known Net v e = rw (eq-eqb v 1 e)
first-known Weights v e = eq-eqb v 1 e
first-known Movements v e = eq-eqb v 1 e
first-known Argument v e = eq-eqb v 1 e

pub known-net : (v : ℕ) → v ≢ 1 → known Net v ≡ eqb v 2
unfolding known
known-net v d = rw (ne_eqb v 1 d)

pub known-other : (thing : Thing) (v : ℕ) → v ≢ 1 → thing ≢ Net → false ≡ known thing v
unfolding known
known-other Net v d n = absurd (n refl)
known-other Weights v d n = rw (ne_eqb v 1 d)
known-other Movements v d n = rw (ne_eqb v 1 d)
known-other Argument v d n = rw (ne_eqb v 1 d)

pub known-neither : (thing : Thing) (v : ℕ) → v ≢ 1 → v ≢ 2 → false ≡ known thing v
unfolding known
known-neither Net v d n = rw (ne_eqb v 1 d, ne_eqb v 2 n)
known-neither Weights v d n = rw (ne_eqb v 1 d)
known-neither Movements v d n = rw (ne_eqb v 1 d)
known-neither Argument v d n = rw (ne_eqb v 1 d)

-- where the fields begin
pub fields-at-most : (s : List ℕ) → fields_at s ≤ 6
unfolding fields_at
fields-at-most s = go (version_of s)
  where
    go : (v : Version) → fields_from v ≤ 6
    go One = omega arith
    go Two = omega arith
