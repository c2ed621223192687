use mathlib.Core.Path.{refl, sym, ◌∙◌}
use native.Mathlib.Omega.{arith}
use borrow.Author.Rules.{rules}
use Rattle.text.proofs.LastDigits.{none_written, one_written, all-written}
use Rattle.text.proofs.digits.write_digits.Goals as goal

pub loop-left-init : goal.loop-left-init
loop-left-init c = (refl, none_written _ _ _ _ c.requires.count_value c.requires.count_in_bounds)

pub loop-left-preserved : goal.loop-left-preserved
loop-left-preserved c =
    let l = c.loop-left in
    let e = one_written l.out c.args.at l.left l.rest c.loop-left-test.true (omega arith) in
    (search rules, e ∙ l.invariant.1)

pub returns : goal.returns
returns c = sym (all-written _ c.args.at c.loop-left.left c.loop-left.rest c.loop-left-test.false) ∙ c.loop-left.invariant.1
