-- Five constants, in either direction.
use Rattle.grammar.proofs.parts.Literals.{◌and◌}
use Rattle.import.specs.scan.Kinds.{ends_text}
use Rattle.import.proofs.scan.arc.compare_ends.Goals as goal

pub returns-then-taking : goal.returns-then-taking
unfolding ends_text
returns-then-taking c = rw c.if-taking.true ((((c.compare-source.ensures and c.then_three-place.ensures) and c.then_bytes-target.ensures) and c.then_three-transition.ensures) and c.then_bytes.ensures)

pub returns : goal.returns
unfolding ends_text
returns c = rw c.if-taking.false ((((c.compare-source-2.ensures and c.then_three-transition-2.ensures) and c.then_bytes-target-2.ensures) and c.then_three-place-2.ensures) and c.then_bytes-2.ensures)
