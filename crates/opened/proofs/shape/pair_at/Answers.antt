-- The pair is in the sheet.
use native.Mathlib.Omega.{arith}
use Rattle.opened.proofs.Shapes.{shaped, pair-there}
use Rattle.opened.proofs.shape.pair_at.Goals as goal

pub overflow_add-result : goal.overflow_add-result
overflow_add-result c =
    omega (arith, shaped c.args.net.now.is_open, pair-there c.args.net.now.is_open c.args.pair.0 c.requires.pair_lt_pairs)

pub returns : goal.returns
returns c =
    omega (arith, shaped c.args.net.now.is_open, pair-there c.args.net.now.is_open c.args.pair.0 c.requires.pair_lt_pairs)
