-- 1 for every sheet, 2 for a net.
use mathlib.Core.Path.{sym, ◌∙◌}
use borrow.Author.Tests.{eq-eqb, ne_eqb}
use Rattle.heads.proofs.Heads.{first-known, known-net, known-other, known-neither}
use Rattle.heads.proofs.head.is_known.Goals as goal

pub returns-then-version-eq1 : goal.returns-then-version-eq1
returns-then-version-eq1 c = eq-eqb _ _ c.if-version-eq1.true ∙ sym (first-known c.args.thing _ c.if-version-eq1.true)

pub returns-in-Net : goal.returns-in-Net
returns-in-Net c = rw c.in-Net.is (sym (known-net _ c.if-version-eq1.false ∙ eq-eqb _ _ c.if-version-eq2.true))

pub returns-in_default : goal.returns-in_default
returns-in_default c = known-other _ _ c.if-version-eq1.false c.in_default.not-Net

pub returns-else-version-eq2 : goal.returns-else-version-eq2
returns-else-version-eq2 c = ne_eqb _ _ c.if-version-eq2.false ∙ known-neither c.args.thing _ c.if-version-eq1.false c.if-version-eq2.false
