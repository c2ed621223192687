-- 19, then 10.
use lib.ListN.{length}
use native.Mathlib.Omega.{arith}
use borrow.Author.Tests.{lt-ltb, le-ltb}
use Rattle.model.proofs.Refusals.{answer-last-passes, answer-last_fails}
use Rattle.model.proofs.Asking.{goes_on, stops}
use Rattle.export.specs.Exports.{export_text, room_refusal}
use Rattle.export.proofs.room_answer.Goals as goal

pub returns-in_err-bounds_answer : goal.returns-in_err-bounds_answer
unfolding room_refusal
returns-in_err-bounds_answer c = stops _ _ c.in_err-bounds_answer.ensures c.from_residual.ensures

pub returns-then-room-text_length : goal.returns-then-room-text_length
unfolding room_refusal
returns-then-room-text_length c =
    goes_on _ _ c.in_ok-bounds_answer.ensures
    (answer-last_fails (lt-ltb c.args.room (length (export_text c.args.net.now.sheet.now)) (omega (arith, c.text_length.ensures, c.if-room-text_length.true))) c.refused.ensures)

pub returns : goal.returns
unfolding room_refusal
returns c =
    goes_on _ _ c.in_ok-bounds_answer.ensures
    (answer-last-passes _ (le-ltb c.args.room (length (export_text c.args.net.now.sheet.now)) (omega (arith, c.text_length.ensures, c.if-room-text_length.false))))
