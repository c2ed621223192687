-- What the accepted numbers of an arc say.
use Prim.Native.Nat.{ℕ, ◌≤◌}
use mathlib.Core.Path.{◌≡◌}
use mathlib.Core.Bool.{Bool, true, false, ◌&&◌}
use mathlib.Core.List.{List}
use mathlib.Core.Option.{none}
use native.Mathlib.Omega.{arith}
use borrow.Author.Tests.{ltb-false}
use Rattle.model.specs.Numbers.{limit}
use Rattle.model.proofs.First.{left-none, right-none, only_if_none}
use Rattle.heads.specs.Bytes.{u32_at}
use Rattle.heads.specs.Layout.{tail_pre_at, tail_post_at, tail_inhibitor_at}
use Rattle.fields.specs.Numbers.{bound, outside}
use Rattle.sheets.specs.nets.Tails.{tail_blank, tail_numbers}

pub record TailRead (s : List ℕ) (tail : ℕ) : Type 0 where
  pub pre : u32_at s (tail_pre_at tail) ≤ limit
  pub post : u32_at s (tail_post_at tail) ≤ limit
  pub inhibitor : outside (bound (u32_at s (tail_inhibitor_at tail))) ≡ false
  pub not_blank : tail_blank s tail ≡ false

pub tail-read : (s : List ℕ) (arc tail : ℕ) → tail_numbers s arc tail ≡ none → TailRead s tail
unfolding tail_numbers
tail-read s arc tail e =
    let e₁ = right-none _ _ e in
    let e₂ = right-none _ _ e₁ in
    record {
      pre = ltb-false _ _ (only_if_none _ _ (left-none _ _ e));
      post = ltb-false _ _ (only_if_none _ _ (left-none _ _ e₁));
      inhibitor = only_if_none _ _ (left-none _ _ e₂);
      not_blank = only_if_none _ _ (right-none _ _ e₂);
    }

-- of "not the first, and not above the one before": an arc that is not the first is above
pub and_false : (a b : Bool) → a && b ≡ false → a ≡ true → b ≡ false
and_false true b e h = e
and_false false b e h = let z : ◌≡◌ {A = ℕ} 0 1 = cc in absurd (omega arith)
