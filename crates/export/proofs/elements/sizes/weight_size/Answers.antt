-- None, or the words and the weight's digits.
use mathlib.Core.Path.{sym, ◌∙◌, ap}
use Prim.Native.Nat.{◌+◌}
use native.Mathlib.Omega.{arith}
use Rattle.export.proofs.elements.Lengths.{digits-most, weight-none, weight-some}
use Rattle.export.proofs.elements.sizes.weight_size.Goals as goal

pub returns-then-weight-eq0 : goal.returns-then-weight-eq0
returns-then-weight-eq0 c = (sym (weight-none c.args.weight c.if-weight-eq0.true), omega arith)

pub overflow_add-result : goal.overflow_add-result
overflow_add-result c = omega (arith, rw c.from.ensures at c.digit_count.ensures, digits-most c.args.weight c.requires)

pub returns-else-weight-eq0 : goal.returns-else-weight-eq0
returns-else-weight-eq0 c =
    let digits = rw c.from.ensures at c.digit_count.ensures in
    (ap (λ n. 100 + n) digits ∙ sym (weight-some c.args.weight c.if-weight-eq0.false), omega (arith, digits, digits-most c.args.weight c.requires))
