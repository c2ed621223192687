-- The limits, then the output slice.
use borrow.Author.Tests.{lt-ltb, le-ltb}
use Prim.Native.Nat.{◌<◌, ◌≤◌}
use mathlib.Core.Path.{sym, ◌∙◌, ap}
use mathlib.Core.Bool.{not}
use native.Mathlib.Omega.{arith}
use Rattle.model.proofs.Refusals.{answer_fails, answer-passes, answer-last_fails, answer-last-passes}
use Rattle.convert.specs.strip.Parts.{new_size, sizes_refusal}
use Rattle.convert.proofs.strip.room.room_answer.Goals as goal
use Rattle.convert.proofs.strip.room.room_answer.Goals.{then-not-within_limits-via-then-not-within_limits, then-not-within_limits-via-else-not-within_limits+then-room-new_size}

pub returns-then-not-within_limits : goal.returns-then-not-within_limits
unfolding sizes_refusal
returns-then-not-within_limits c =
    let a = c.args in
    elim c.then-not-within_limits.branch [
      | then-not-within_limits-via-then-not-within_limits w ↦
          answer_fails _ (ap not (sym c.within_limits.ensures ∙ w.if-not-within_limits.true)) c.refused.ensures
      | then-not-within_limits-via-else-not-within_limits+then-room-new_size w ↦
          let l : a.room < new_size a.net a.k = omega (arith, w.if-room-new_size.true, w.new_size.ensures) in
          answer-passes _ _ (ap not (sym c.within_limits.ensures ∙ w.if-not-within_limits.false)) (answer-last_fails (lt-ltb _ _ l) c.refused.ensures)
    ]

pub returns : goal.returns
unfolding sizes_refusal
returns c =
    let a = c.args in
    let l : new_size a.net a.k ≤ a.room = omega (arith, c.if-room-new_size.false, c.new_size.ensures) in
    answer-passes _ _ (ap not (sym c.within_limits.ensures ∙ c.if-not-within_limits.false)) (answer-last-passes _ (le-ltb _ _ l))
