-- The test as the definition has it.
use borrow.Author.Tests.{le-leb, lt-leb}
use Rattle.fire.proofs.advance.mode_answer.Goals as goal

pub returns-then-net-mode : goal.returns-then-net-mode
returns-then-net-mode c = rw (le-leb _ _ c.if-net-mode.true) c.refused.ensures

pub returns : goal.returns
returns c = rw (lt-leb _ _ c.if-net-mode.false)
