use borrow.Author.Tests.{eq-eqb, ne_eqb}
use Rattle.heads.specs.Bytes.{byte_at}
use Rattle.heads.specs.Layout.{rule_at}
use Rattle.heads.specs.Rule.{rule_of}
use Rattle.opened.proofs.rule.named_rule.Goals as goal

pub returns-then-s-eq1 : goal.returns-then-s-eq1
unfolding rule_of
returns-then-s-eq1 c = simp (eq-eqb (byte_at c.args.s.now rule_at) 1 c.if-s-eq1.true)

pub returns : goal.returns
unfolding rule_of
returns c = simp (ne_eqb (byte_at c.args.s.now rule_at) 1 c.if-s-eq1.false)
