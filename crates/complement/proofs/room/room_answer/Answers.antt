-- The sheet's limits, then the output slice.
use borrow.Author.Tests.{lt-ltb, le-ltb}
use mathlib.Core.Path.{sym, ◌∙◌, ap}
use mathlib.Core.Bool.{not}
use native.Mathlib.Omega.{arith}
use Rattle.model.proofs.Refusals.{answer_fails, answer-passes, answer-last_fails, answer-last-passes}
use Rattle.complement.specs.Sizes.{sizes_refusal}
use Rattle.complement.proofs.room.room_answer.Goals as goal

pub returns-then-not-within_limits : goal.returns-then-not-within_limits
unfolding sizes_refusal
returns-then-not-within_limits c = answer_fails _ (ap not (sym c.within_limits.ensures ∙ c.if-not-within_limits.true)) c.refused.ensures

pub returns-then-room-size : goal.returns-then-room-size
unfolding sizes_refusal
returns-then-room-size c =
    answer-passes _ _ (ap not (sym c.within_limits.ensures ∙ c.if-not-within_limits.false))
    (answer-last_fails (lt-ltb _ _ (omega (arith, c.sheet_size-size.ensures))) c.refused-then-room-size.ensures)

pub returns : goal.returns
unfolding sizes_refusal
returns c =
    answer-passes _ _ (ap not (sym c.within_limits.ensures ∙ c.if-not-within_limits.false))
    (answer-last-passes _ (le-ltb _ _ (omega (arith, c.sheet_size-size.ensures))))
