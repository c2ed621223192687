-- A weight from its 4 bytes, and its size.
use Prim.Native.Nat.{ℕ, ◌-◌, ◌≤◌, ◌<◌}
use mathlib.Core.Path.{◌≡◌, refl, sym, ◌∙◌}
use mathlib.Core.Bool.{Bool, true, false}
use lib.Dec.{ltb}
use lib.IntN.{nat_abs}
use native.Mathlib.Omega.{arith}
use borrow.Author.Tests.{ltb-true, lt-ltb, le-ltb}
use Rattle.sheets.specs.lists.Weights.{signed}
use Rattle.sheets.specs.lists.Promises.{SignedWeights}

pub signed-weights : SignedWeights
unfolding signed
signed-weights =
    record {
      positive = λ x h. simp (lt-ltb x 2147483648 h);
      negative = λ x h l. simp (le-ltb x 2147483648 h, lt-ltb x 4294967296 l);
    }

pub size_below : (x : ℕ) → x < 2147483648 → nat_abs (signed x) ≡ x
unfolding signed
size_below x h = simp (lt-ltb x 2147483648 h)

pub size_above : (x : ℕ) → 2147483648 ≤ x → x < 4294967296 → nat_abs (signed x) ≡ 4294967296 - x
unfolding signed
size_above x h l = simp (le-ltb x 2147483648 h) (omega arith)

pub same_test : (a b c d : ℕ) → (a < b → c < d) → (c < d → a < b) → ltb a b ≡ ltb c d
same_test a b c d f g = go (ltb a b) refl (ltb c d) refl
  where
    go : (t : Bool) → ltb a b ≡ t → (u : Bool) → ltb c d ≡ u → ltb a b ≡ ltb c d
    go true e true h = e ∙ sym h
    go false e false h = e ∙ sym h
    go true e false h = sym (lt-ltb c d (f (ltb-true a b e)) ∙ sym e)
    go false e true h = lt-ltb a b (g (ltb-true c d h)) ∙ sym h
