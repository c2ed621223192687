use borrow.Author.Tests.{eq-eqb, ne_eqb}
use Rattle.heads.specs.Layout.{version}
use Rattle.heads.specs.Version.{version_of}
use Rattle.heads.proofs.version.version_of.Goals as goal

pub returns-then-s-eq2 : goal.returns-then-s-eq2
unfolding version_of
returns-then-s-eq2 c = simp (eq-eqb (version c.args.s.now) 2 c.if-s-eq2.true)

pub returns : goal.returns
unfolding version_of
returns c = simp (ne_eqb (version c.args.s.now) 2 c.if-s-eq2.false)
