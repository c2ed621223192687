-- A list that is filled from its first place on.
use Prim.Native.Nat.{ℕ, ◌+◌, ◌<◌}
use mathlib.Core.List.{List}
use lib.ListN.{length, get_or, set}
use lib.Seq.{get_or-set_same, get_or-set_other}
use native.Mathlib.Omega.{arith}
use borrow.Author.Count.{below_more}

-- P holds of what stands at each place below n
pub record Filled (P : ℕ → ℕ → Type 0) (l : List ℕ) (n : ℕ) : Type 0 where
  pub each : (i : ℕ) → i < n → P i (get_or l i 0)

module _ {P : ℕ → ℕ → Type 0} {l : List ℕ} where
  pub fill_none : Filled P l 0
  fill_none = record { each = λ i h. absurd (omega arith) }

  pub fill_more : {n x : ℕ} → n < length l → Filled P l n → P n x → Filled P (set l n x) (n + 1)
  fill_more {n} {x} h filled p =
      record {
        each =
            below_more (λ i. P i (get_or (set l n x) i 0)) n (λ i b. rw (get_or-set_other l n i x 0 (λ e. omega arith)) (filled.each i b))
            (rw (get_or-set_same l n x 0 h) p);
      }
