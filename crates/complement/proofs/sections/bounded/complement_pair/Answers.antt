-- Both numbers are at most 256.
use native.Mathlib.Omega.{arith}
use Rattle.opened.proofs.Shapes.{sizes}
use Rattle.complement.proofs.sections.bounded.complement_pair.Goals as goal

pub overflow_cast-result : goal.overflow_cast-result
overflow_cast-result c = omega (arith, (sizes c.args.bounded.now.net.now.is_open).pairs_within)

pub overflow_add-result : goal.overflow_add-result
overflow_add-result c = omega (arith, c.requires, (sizes c.args.bounded.now.net.now.is_open).pairs_within)
