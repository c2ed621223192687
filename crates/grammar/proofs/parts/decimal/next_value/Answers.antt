-- The tests in turn.
use borrow.Author.Tests.{lt-ltb, le-ltb, ne_eqb}
use Prim.Native.Nat.{◌+◌, ◌-◌, ◌*◌, ◌<◌}
use mathlib.Core.Path.{◌≡◌}
use mathlib.Core.Logic.{⊎_elim, ◌≢◌}
use native.Mathlib.Omega.{arith}
use Rattle.std.proofs.lemmas.Bool.Decides.{nat_tests}
use Rattle.model.specs.Numbers.{limit}
use Rattle.grammar.specs.parts.Numbers.{next_value}
use Rattle.grammar.proofs.parts.decimal.next_value.Goals as goal

pub returns-then-not-is_ascii_digit : goal.returns-then-not-is_ascii_digit
unfolding next_value
returns-then-not-is_ascii_digit c = let h = c.if-not-is_ascii_digit.ensures.cases in grind (arith, nat_tests, h)

pub returns-then-digit-low : goal.returns-then-digit-low
unfolding next_value
returns-then-digit-low c =
    let a = c.args in
    let h = c.if-not-is_ascii_digit.ensures.cases in
    simp (le-ltb a.b 48 (omega arith), le-ltb 57 a.b (omega arith), c.if-not-begun.true, lt-ltb (a.b - 48) a.low (omega arith))

pub returns-else-digit-low : goal.returns-else-digit-low
unfolding next_value
returns-else-digit-low c =
    let a = c.args in
    let h = c.if-not-is_ascii_digit.ensures.cases in
    simp (le-ltb a.b 48 (omega arith), le-ltb 57 a.b (omega arith), c.if-not-begun.true, le-ltb (a.b - 48) a.low (omega arith), c.from-digit.ensures)

pub returns-then-next-gt1000000 : goal.returns-then-next-gt1000000
unfolding next_value
returns-then-next-gt1000000 c =
    let a = c.args in
    let h = c.if-not-is_ascii_digit.ensures.cases in
    let d = c.from-digit.ensures in
    ⊎_elim (λ (z : a.value ≡ 0). simp (le-ltb a.b 48 (omega arith), le-ltb 57 a.b (omega arith), c.if-not-begun.false, z))
    (λ (z : (a.value ≢ 0) × (limit < a.value * 10 + c.from-digit.result)). simp (le-ltb a.b 48 (omega arith), le-ltb 57 a.b (omega arith), c.if-not-begun.false, ne_eqb a.value 0 z.0, lt-ltb limit (a.value * 10 + (a.b - 48)) (omega arith)))
    c.if-next-gt1000000.either

pub returns-else-next-gt1000000 : goal.returns-else-next-gt1000000
unfolding next_value
returns-else-next-gt1000000 c =
    let a = c.args in
    let h = c.if-not-is_ascii_digit.ensures.cases in
    let d = c.from-digit.ensures in
    simp (le-ltb a.b 48 (omega arith), le-ltb 57 a.b (omega arith), c.if-not-begun.false, ne_eqb a.value 0 (omega arith), le-ltb limit (a.value * 10 + (a.b - 48)) (omega arith), d)
