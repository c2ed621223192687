-- A refusal, or the text from the first byte on.
use mathlib.Core.Path.{sym}
use lib.ListN.{length}
use native.Mathlib.Omega.{arith}
use Rattle.model.proofs.Refusals.{answer-refused}
use Rattle.model.proofs.Asking.{handed_on, no_refusal}
use Rattle.sheets.proofs.Emits.{refused, written}
use Rattle.export.specs.Exports.{export_text, room_refusal}
use Rattle.export.proofs.Answers.{room-enough}
use Rattle.export.proofs.export_open.Goals as goal

pub put_text-requires : goal.put_text-requires
put_text-requires c =
    let start = c.args in
    let accepted = no_refusal (room_refusal start.net.now.sheet.now (length start.out.now)) c.in_ok-room_answer.ensures in
    record { starts_are = c.starts-starts.ensures; room = record { fits = omega (arith, room-enough start.net.now.sheet.now _ accepted) } }

pub returns : goal.returns
returns c =
    let a = c.args in
    let accepted = no_refusal (room_refusal a.net.now.sheet.now (length a.out.now)) c.in_ok-room_answer.ensures in
    let w = written (export_text a.net.now.sheet.now) accepted (room-enough _ _ accepted) c.put_text.ensures in
    record { value = w.0; out_after = w.1 }
