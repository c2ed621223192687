-- The change is 0 exactly when its bits are.
use mathlib.Core.Path.{refl, ap}
use mathlib.Core.Bool.{not}
use lib.IntN.{pos}
use native.Mathlib.Omega.{arith}
use Rattle.model.proofs.Refusals.{answer-last_fails, answer-last-passes}
use Rattle.opened.proofs.Shapes.{sizes}
use Rattle.statement.proofs.exclude.Bits.{bits_equal, bits_differ}
use Rattle.statement.proofs.exclude.claim.mode_answer.Goals as goal

pub overflow_cast-mode : goal.overflow_cast-mode
overflow_cast-mode c = let pre = c.requires in record { fits = omega (arith, pre.t_lt_modes, (sizes c.args.net.now.is_open).modes_within) }

pub returns-then-change_of-ne0 : goal.returns-then-change_of-ne0
returns-then-change_of-ne0 c =
    answer-last_fails (ap not (bits_differ {b = pos 0} c.change_of.type_inv (omega arith) c.change_of.ensures refl c.if-change_of-ne0.true)) c.refused.ensures

pub returns : goal.returns
returns c =
    answer-last-passes _ (ap not (bits_equal {b = pos 0} c.change_of.type_inv (omega arith) c.change_of.ensures refl c.if-change_of-ne0.false))
