-- Three parts in turn.
use mathlib.Core.Path.{sym, ap₂}
use native.Mathlib.Omega.{arith}
use Rattle.sheets.specs.written.Written.{head_bytes}
use Rattle.sheets.proofs.written.Puts.{room_as, puts_as, room-first, room_next, puts-both}
use Rattle.convert.proofs.Parts.{sheet-parts, rule-is, length-is, size_small}
use Rattle.convert.proofs.sheet.put_sheet.Goals as goal

pub put_head-at_fields-requires : goal.put_head-at_fields-requires
put_head-at_fields-requires c = let o = c.args.net.now.is_open in
    let v = c.args.version in
    let head = ap₂ (head_bytes v) (rule-is o) (length-is o v c.requires.size_value) in
    let small = size_small o v in record { room = room_as (sym head) (room-first _ _ (room_as (sheet-parts _ _) c.requires.room)); le_size = (omega (arith, c.requires.size_value, small.0), omega (arith, c.requires.size_value, small.1)) }

pub put_common-at_arcs-requires : goal.put_common-at_arcs-requires
put_common-at_arcs-requires c = let o = c.args.net.now.is_open in
    let v = c.args.version in
    let head = puts_as (ap₂ (head_bytes v) (rule-is o) (length-is o v c.requires.size_value)) c.put_head-at_fields.ensures in record { room = room-first _ _ (room_next _ _ (room_as (sheet-parts _ _) c.requires.room) head) }

pub put_section-requires : goal.put_section-requires
put_section-requires c = let o = c.args.net.now.is_open in
    let v = c.args.version in
    let head = puts_as (ap₂ (head_bytes v) (rule-is o) (length-is o v c.requires.size_value)) c.put_head-at_fields.ensures in record { room = room_next _ _ (room_next _ _ (room_as (sheet-parts _ _) c.requires.room) head) c.put_common-at_arcs.ensures }

pub returns : goal.returns
returns c =
    let o = c.args.net.now.is_open in
    let v = c.args.version in
    let head = puts_as (ap₂ (head_bytes v) (rule-is o) (length-is o v c.requires.size_value)) c.put_head-at_fields.ensures in
    puts_as (sym (sheet-parts _ _)) (puts-both head (puts-both c.put_common-at_arcs.ensures c.put_section.ensures))

pub shape_of-out : goal.shape_of-out
shape_of-out c = (returns c).kept
