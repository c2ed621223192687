-- The modes considered: where they stand, how many they are, and the first of them.
use Prim.Native.Nat.{ℕ, ◌≤◌, ◌<◌}
use mathlib.Core.Path.{◌≡◌, refl, sym, ◌∙◌, ap}
use mathlib.Core.List.{List}
use lib.ListN.{length, take}
use lib.Seq.{length-take-le, get_or-take, ext_get_or}
use native.Mathlib.Omega.{arith}
use Rattle.model.specs.Nets.{mode_no}
use Rattle.model.specs.Lists.{table}
use Rattle.model.proofs.Tables.{table-length, table_at}
use Rattle.heads.specs.Layout.{movements_at}
use Rattle.sheets.specs.lists.Movements.{most_movements}
use Rattle.sheets.specs.Listed.{mode_at, modes_from, ModesStand}
use Rattle.sheets.proofs.Listed.{modes_from_length}
use Rattle.damaged.specs.Damaged.{considered, modes_in}

-- the first of a table
take-table : {A : Type 0} (d : A) (k n : ℕ) (f : ℕ → A) → k ≤ n → take k (table n f) ≡ table k f
take-table d k n f h =
    let l : length (take k (table n f)) ≡ k = length-take-le k (table n f) (rw table-length h) in
    ext_get_or d (take k (table n f)) (table k f) (l ∙ sym (table-length k f))
    (λ i b. let i<k : i < k = omega arith in get_or-take k (table n f) i d i<k ∙ table_at n f d i (omega arith) ∙ sym (table_at k f d i i<k))

module _ (s : List ℕ) where
  pub modes-are : modes_in s ≡ modes_from s movements_at (considered s)
  unfolding modes_in modes_from mode_at
  modes-are = refl

  pub modes-length : length (modes_in s) ≡ considered s
  modes-length = ap length modes-are ∙ modes_from_length s movements_at (considered s)

  pub first-long : (k : ℕ) → k ≤ considered s → length (take k (modes_in s)) ≡ k
  first-long k h = length-take-le k (modes_in s) (rw modes-length h)

  pub first-modes : (k : ℕ) → k ≤ considered s → take k (modes_in s) ≡ modes_from s movements_at k
  unfolding modes_in modes_from mode_at
  first-modes k h = take-table (mode_no 0) k (considered s) _ h

  pub most-considered : considered s ≤ most_movements
  unfolding considered
  most-considered = omega arith

  pub modes-there : 5 ≤ length s → ModesStand s movements_at (considered s)
  unfolding considered
  modes-there h = omega arith
