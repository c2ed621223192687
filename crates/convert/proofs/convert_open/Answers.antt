-- 23, then 10, or the sheet from the first byte on.
use mathlib.Core.Path.{sym}
use lib.ListN.{length}
use native.Mathlib.Omega.{arith}
use Rattle.model.proofs.First.{some_then}
use Rattle.model.proofs.Refusals.{answer-refused}
use Rattle.model.proofs.Asking.{handed_on, no_refusal}
use Rattle.sheets.specs.Emitted.{too_short}
use Rattle.sheets.proofs.Emits.{refused, written}
use Rattle.opened.proofs.Shapes.{shaped, sizes}
use Rattle.convert.specs.Converted.{lost_rule, converted_sheet, open_refusal}
use Rattle.convert.proofs.Parts.{size_is}
use Rattle.convert.proofs.Answers.{short, roomy}
use Rattle.convert.proofs.convert_open.Goals as goal

pub returns-in_err-keep_rule : goal.returns-in_err-keep_rule
unfolding open_refusal
returns-in_err-keep_rule c =
    let a = c.args in
    let sheet = converted_sheet a.target a.net.now.sheet.now in
    let lost = rw (shaped c.args.net.now.is_open).rule at (answer-refused (lost_rule a.target a.net.now.shape.rule) (sym c.in_err-keep_rule.ensures)) in
    let r = refused (length sheet) sheet a.out.now (some_then (too_short sheet (length a.out.now)) lost) in
    record { value = rw (handed_on c.from_residual.ensures) r.0; out_after = r.1 }

pub sheet_size-size-requires : goal.sheet_size-size-requires
sheet_size-size-requires c =
    let z = sizes c.args.net.now.is_open in
    omega (arith, z.places, z.transitions, z.well_formed.places.many, z.well_formed.transitions.many, z.pairs_within, z.modes_within, z.arcs_within)

pub returns-then-out-size : goal.returns-then-out-size
returns-then-out-size c =
    let a = c.args in
    let kept = rw (shaped c.args.net.now.is_open).rule at (no_refusal (lost_rule a.target a.net.now.shape.rule) c.in_ok-keep_rule.ensures) in
    let size = size_is c.args.net.now.is_open a.target c.sheet_size-size.ensures in
    let sheet = converted_sheet a.target a.net.now.sheet.now in
    let r = refused (length sheet) sheet a.out.now (short a.target a.net.now.sheet.now kept (omega (arith, size, c.if-out-size.true))) in
    record { value = r.0; out_after = r.1 }

pub put_sheet-requires : goal.put_sheet-requires
put_sheet-requires c =
    let size = size_is c.args.net.now.is_open c.args.target c.sheet_size-size.ensures in
    record { size_value = size; room = record { fits = omega (arith, size, c.if-out-size.false) } }

pub returns : goal.returns
returns c =
    let a = c.args in
    let kept = rw (shaped c.args.net.now.is_open).rule at (no_refusal (lost_rule a.target a.net.now.shape.rule) c.in_ok-keep_rule.ensures) in
    let size = size_is c.args.net.now.is_open a.target c.sheet_size-size.ensures in
    let left = c.if-out-size.false in
    let r = written (converted_sheet a.target a.net.now.sheet.now) (roomy a.target a.net.now.sheet.now kept (omega (arith, size, left))) (omega (arith, size, left)) c.put_sheet.ensures in
    record { value = r.0; out_after = r.1 }
