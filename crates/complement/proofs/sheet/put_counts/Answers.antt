-- The head, the place count, the transition count.
use Prim.Native.Nat.{ℕ, ◌-◌}
use mathlib.Core.Path.{◌≡◌, sym, ap, ap₂}
use mathlib.Core.List.{List}
use lib.ListN.{length}
use native.Mathlib.Omega.{arith}
use Rattle.model.specs.Nets.{rule_number}
use Rattle.second_form.specs.Complement.{complement}
use Rattle.sheets.specs.Decoded.{net_of}
use Rattle.sheets.specs.written.Written.{bytes16, head_bytes, length_of, sheet_of}
use Rattle.sheets.proofs.written.Puts.{put_length, room_as, puts_as, count_fits, room-first, room_next, puts-both}
use Rattle.opened.specs.declared.shape.NetShape.{NetShape}
use Rattle.opened.specs.Shape.{Open}
use Rattle.opened.proofs.Shapes.{sizes}
use Rattle.complement.proofs.SheetParts.{transitions-are, length-is, rule-is}
use Rattle.complement.proofs.sheet.put_counts.Goals as goal

head_is : {s : List ℕ} {net : NetShape} → Open s net → {size : ℕ} → size ≡ length (sheet_of net.version (complement (net_of s)))
    → head_bytes net.version (rule_number net.rule) (size - 4) ≡ head_bytes net.version (rule_number (complement (net_of s)).rule) (length_of net.version (complement (net_of s)))
head_is {s} {net} o e = ap₂ (head_bytes net.version) (rule-is o) (length-is net.version (complement (net_of s)) e).0

pub put_head-at_places-requires : goal.put_head-at_places-requires
put_head-at_places-requires c =
    let pre = c.requires in
    record {
      room = room_as (sym (head_is c.args.net.now.is_open pre.size_value.0)) (room-first _ _ pre.room);
      le_size = ((length-is _ _ pre.size_value.0).1, pre.size_value.1);
    }

pub put_count-at_transitions-requires : goal.put_count-at_transitions-requires
put_count-at_transitions-requires c =
    let pre = c.requires in
    let head = puts_as (head_is c.args.net.now.is_open pre.size_value.0) c.put_head-at_places.ensures in
    (count_fits _ (room-first _ _ (room_next _ _ pre.room head)), omega (arith, pre.places_value.1))

pub put_count-requires : goal.put_count-requires
put_count-requires c =
    let pre = c.requires in
    let z = sizes c.args.net.now.is_open in
    let head = puts_as (head_is c.args.net.now.is_open pre.size_value.0) c.put_head-at_places.ensures in
    let places = puts_as (ap bytes16 pre.places_value.0) (put_length c.put_count-at_transitions.ensures) in
    (count_fits _ (room_next _ _ (room_next _ _ pre.room head) places), omega (arith, z.transitions, z.well_formed.transitions.many))

pub returns : goal.returns
returns c =
    let pre = c.requires in
    let head = puts_as (head_is c.args.net.now.is_open pre.size_value.0) c.put_head-at_places.ensures in
    let places = puts_as (ap bytes16 pre.places_value.0) (put_length c.put_count-at_transitions.ensures) in
    puts-both head (puts-both places (puts_as (ap bytes16 (transitions-are c.args.net.now.is_open)) (put_length c.put_count.ensures)))
