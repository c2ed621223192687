-- What stands at a complement pair, by the numbers of a sheet.
use Prim.Native.Nat.{ℕ, ◌-◌, ◌≤◌}
use mathlib.Core.Path.{◌≡◌, sym}
use native.Mathlib.Omega.{arith}
use Rattle.second_form.specs.Complement.{reserve}
use Rattle.second_form.proofs.ComplementRow.{reserve-is}
use Rattle.fields.specs.Numbers.{unbounded, bound}
use Rattle.fields.proofs.Bounds.{by-bound}

-- "0 where I ≥ K or unbounded": K less I
pub reserve-less : (k i : ℕ) → k ≤ unbounded → k - i ≡ reserve k (bound i)
reserve-less k i h = by-bound (λ b. k - i ≡ reserve k b) i (λ u. omega arith) (sym (reserve-is k i))
