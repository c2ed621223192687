-- Two answers are the same field by field.
use Prim.Native.Nat.{ℕ}
use mathlib.Core.Path.{◌≡◌}
use Rattle.answers.specs.declared.Answered.{Answered}

pub same-fields : {n m t u p q a b : ℕ} → n ≡ m → t ≡ u → p ≡ q → a ≡ b
    → ◌≡◌ {A = Answered} (record { number = n; thing = t; position = p; amount = a }) (record { number = m; thing = u; position = q; amount = b })
same-fields e f g h = rw (e, f, g, h)
