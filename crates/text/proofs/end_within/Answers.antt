-- The two tests say whether the end lies within the length.
use native.Mathlib.Omega.{arith}
use Rattle.std.proofs.lemmas.Grind.{common_steps}
use Rattle.text.proofs.Puts.{end-within, end_beyond}
use Rattle.text.proofs.end_within.Goals as goal

pub returns : goal.returns
returns c = grind (arith, common_steps, end-within, end_beyond)
