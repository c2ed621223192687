-- Numbers of a net sheet: which are in range, and the one that means unbounded.
use Rattle.std.specs.Prelude.{ℕ, Bool, false, cond, List, ltb, eqb}
use Rattle.std.proofs.Math.Option.{Option}
use Rattle.model.specs.declared.Thing.TheVariants.{Net}
use Rattle.model.specs.declared.Fault.TheVariants.{NumberOutside}
use Rattle.model.specs.declared.Refusal.{Refusal}
use Rattle.model.specs.First.{only_if}
use Rattle.model.specs.Numbers.{ℕ∞, fin, ∞, limit}
use Rattle.heads.specs.Bytes.{u32_at}
use Rattle.model.specs.Refusals.{wrong}

-- "The value 4,294,967,295 means unbounded and is legal for K and I only."
abbrev pub unbounded : ℕ
unbounded = 4294967295

unfoldable pub bound : ℕ → ℕ∞
bound x = cond (eqb x unbounded) ∞ (fin x)

-- "Numbers in net sheets and markings are 0..1,000,000."
abbrev pub outside : ℕ∞ → Bool
outside (fin n) = ltb limit n
outside ∞ = false

-- 5: "a number outside its range": one that must be finite, or a K or I
abbrev pub number_refusal : List ℕ → ℕ → Option Refusal
number_refusal s at = only_if (outside (fin (u32_at s at))) (wrong Net (NumberOutside at))

abbrev pub bound_refusal : List ℕ → ℕ → Option Refusal
bound_refusal s at = only_if (outside (bound (u32_at s at))) (wrong Net (NumberOutside at))
