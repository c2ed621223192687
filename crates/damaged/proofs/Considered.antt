-- Bytes that are not refused, and how many modes of them are considered.
use Prim.Native.Nat.{ℕ, ◌-◌, ◌/◌, min}
use mathlib.Core.Path.{◌≡◌}
use mathlib.Core.List.{List}
use mathlib.Core.Option.{none}
use lib.ListN.{length}
use borrow.Author.Tests.{ltb-false, eqb-false, eqb-true, not-false}
use native.Mathlib.Omega.{arith}
use Rattle.model.proofs.First.{left-none, right-none, only_if_none}
use Rattle.heads.specs.Layout.{body_length, sheet_end, version}
use Rattle.damaged.specs.Damaged.{damaged_refusal, considered}
use Rattle.damaged.specs.Parts.{Legible}

-- bytes that are not refused
pub legible : (s : List ℕ) → damaged_refusal s ≡ none → Legible s
unfolding damaged_refusal
legible s e =
    let e₁ = right-none _ _ e in
    record {
      there = ltb-false _ _ (only_if_none _ _ (left-none _ _ e));
      versioned = let some-body = eqb-false (body_length s) 0 (only_if_none _ _ (left-none _ _ e₁)) in omega arith;
      version = eqb-true (version s) 1 (not-false _ (only_if_none _ _ (right-none _ _ e₁)));
    }

pub considered-are : (s : List ℕ) (end n : ℕ) → end ≡ min (sheet_end s) (length s) → n ≡ min ((end - 5) / 2) 8192 → n ≡ considered s
unfolding considered
considered-are s end n e q = omega arith
