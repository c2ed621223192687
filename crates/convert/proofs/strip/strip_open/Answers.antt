-- A refusal, or the sheet from the first byte on.
use mathlib.Core.Path.{sym}
use lib.ListN.{length}
use native.Mathlib.Omega.{arith}
use Rattle.model.proofs.Refusals.{answer-refused}
use Rattle.model.proofs.Asking.{handed_on, no_refusal}
use Rattle.sheets.proofs.written.Puts.{room_as, puts_as}
use Rattle.sheets.proofs.Emits.{refused, written}
use Rattle.convert.specs.strip.Stripped.{stripped_sheet, room_refusal}
use Rattle.convert.proofs.strip.Parts.{sheet-is}
use Rattle.convert.proofs.strip.Answers.{pair-there, strips, room-enough}
use Rattle.convert.proofs.strip.strip_open.Goals as goal

pub returns-in_err-strip_answer : goal.returns-in_err-strip_answer
returns-in_err-strip_answer c =
    let a = c.args in
    let sheet = stripped_sheet a.net.now.sheet.now a.pair in
    let r = refused (length sheet) sheet a.out.now (answer-refused (room_refusal a.net.now.sheet.now a.pair (length a.out.now)) (sym c.in_err-strip_answer.ensures)) in
    record { value = rw (handed_on c.from_residual.ensures) r.0; out_after = r.1 }

pub capacity-k-requires : goal.capacity-k-requires
capacity-k-requires c =
    let a = c.args in
    let accepted = no_refusal (room_refusal a.net.now.sheet.now a.pair (length a.out.now)) c.in_ok-strip_answer.ensures in
    record { pair_lt_pairs = pair-there c.args.net.now.is_open a.pair _ accepted }

pub put_sheet-requires : goal.put_sheet-requires
put_sheet-requires c =
    let a = c.args in
    let accepted = no_refusal (room_refusal a.net.now.sheet.now a.pair (length a.out.now)) c.in_ok-strip_answer.ensures in
    let strip = strips c.args.net.now.is_open a.pair _ accepted _ c.capacity-k.ensures in
    record {
      strips = strip;
      room = room_as (sym (sheet-is c.args.net.now.is_open a.pair _ strip.bound)) (record { fits = omega (arith, room-enough c.args.net.now.is_open a.pair _ accepted) });
    }

pub returns : goal.returns
returns c =
    let a = c.args in
    let accepted = no_refusal (room_refusal a.net.now.sheet.now a.pair (length a.out.now)) c.in_ok-strip_answer.ensures in
    let strip = strips c.args.net.now.is_open a.pair _ accepted _ c.capacity-k.ensures in
    let r = written (stripped_sheet a.net.now.sheet.now a.pair) accepted (room-enough c.args.net.now.is_open a.pair _ accepted) (puts_as (sheet-is c.args.net.now.is_open a.pair _ strip.bound) c.put_sheet.ensures) in
    record { value = r.0; out_after = r.1 }
