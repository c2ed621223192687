-- The order of the refusals, and what an accepted call has room for.
use Prim.Native.Nat.{ℕ, ◌*◌, ◌≤◌}
use mathlib.Core.Path.{◌≡◌, refl, sym, ◌∙◌, ap, ap₂}
use mathlib.Core.Bool.{true, false, not, ◌&&◌}
use mathlib.Core.List.{List}
use mathlib.Core.Option.{none}
use lib.Dec.{leb, ltb}
use lib.ListN.{length}
use borrow.Author.Tests.{leb-true, le-leb, ltb-false, le-ltb, not-true, not-false}
use native.Mathlib.Omega.{arith}
use Rattle.model.specs.declared.Thing.TheVariants.{Net}
use Rattle.model.specs.declared.Fault.TheVariants.{NoRoom, InhibitedUnbounded}
use Rattle.model.specs.declared.Refusal.{Refusal}
use Rattle.model.specs.Refusals.{Answer}
use Rattle.std.specs.Prelude.{Ok, Err}
use Rattle.model.specs.declared.Version.{Version}
use Rattle.model.specs.declared.Version.TheVariants.{One, Two}
use Rattle.model.specs.Nets.{PNet, arc_no}
use Rattle.model.specs.First.{◌▸◌, first, only_if}
use Rattle.model.specs.Refusals.{answer, wrong}
use Rattle.second_form.specs.Complement.{complement, inhibits_unbounded, refusal15, sheet_limits, complement_refusal}
use Rattle.model.proofs.Refusals.{answer-refused}
use Rattle.model.proofs.Asking.{no_refusal}
use Rattle.model.proofs.First.{then_assoc, none_then, left-none, right-none, first-all, only_if_none}
use Rattle.opened.specs.declared.shape.NetShape.{NetShape}
use Rattle.sheets.specs.Decoded.{net_of}
use Rattle.opened.specs.Shape.{Open, arc_offset}
use Rattle.opened.specs.Starts.{StartsAre}
use Rattle.complement.specs.sections.Arcs.{clear_at, every}
use Rattle.complement.proofs.sections.Every.{and_left, and_right, every-each}
use Rattle.complement.specs.declared.sheet.Sizes.{Sizes}
use Rattle.complement.specs.ArcRefusals.{inhibited_at}
use Rattle.complement.specs.Complemented.{complement_sheet, room_refusal}
use Rattle.sheets.specs.Emitted.{emitted, output, too_short}
use Rattle.sheets.specs.written.Puts.{Puts, Room, sheet_size}
use Rattle.sheets.specs.written.Written.{sheet_of}
use Rattle.sheets.proofs.written.Puts.{room_as, puts_as}
use Rattle.sheets.proofs.Emits.{refused, written}
use Rattle.complement.specs.Sizes.{sizes_of, SizesWith, in_limits, sizes_refusal}
use Rattle.complement.proofs.SheetParts.{sizes-are, arcs-at-most, size_is, sheet-is}

-- 15 is the first of its arcs
pub each-arc : (s : List ℕ) → first (length (net_of s).arcs) (inhibited_at s) ≡ refusal15 (arc_offset s) (net_of s)
unfolding refusal15
each-arc s = refl

-- what the survey finds clear
pub clear_none : (s : List ℕ) → every (length (net_of s).arcs) (clear_at (net_of s)) ≡ true → refusal15 (arc_offset s) (net_of s) ≡ none
unfolding clear_at
clear_none s e =
    sym (each-arc s)
    ∙ first-all (length (net_of s).arcs) (inhibited_at s)
    (λ k h.
    ap (λ b. only_if b (wrong Net (InhibitedUnbounded (arc_offset s k))))
    (not-true (inhibits_unbounded (net_of s) (arc_no (net_of s).arcs k)) (every-each (clear_at (net_of s)) _ e k h)))

limits-are : (net : PNet) → in_limits (sizes_of net) ≡ sheet_limits net
unfolding sheet_limits sizes_of
limits-are net = refl

-- a sheet with fewer arcs fits where one with more does
fewer-arcs : (v : Version) (places transitions pairs modes arcs most : ℕ) → arcs ≤ most → sheet_size v places transitions pairs modes arcs ≤ sheet_size v places transitions pairs modes most
fewer-arcs One n t p m k l h = omega arith
fewer-arcs Two n t p m k l h = omega arith

limits-kept : (places pairs arcs most : ℕ) → arcs ≤ most → leb places 64 && leb pairs 256 && leb most 2048 ≡ true → leb places 64 && leb pairs 256 && leb arcs 2048 ≡ true
limits-kept places pairs arcs most h e =
    let both = and_left (leb places 64 && leb pairs 256) (leb most 2048) e in
    let many = leb-true most 2048 (and_right (leb places 64 && leb pairs 256) (leb most 2048) e) in
    rw (and_left (leb places 64) (leb pairs 256) both, and_right (leb places 64) (leb pairs 256) both, le-leb arcs 2048 (omega arith))

fits-with : (net : NetShape) (room : ℕ) (of most : Sizes) → of.places ≡ most.places → of.pairs ≡ most.pairs → of.arcs ≤ most.arcs
    → sizes_refusal net most room ≡ none → sizes_refusal net of room ≡ none
unfolding sizes_refusal
fits-with net room of most p q h e =
    let size : Sizes → ℕ = λ sizes. sheet_size net.version sizes.places net.transitions sizes.pairs net.modes sizes.arcs in
    let limits : in_limits most ≡ true = not-false (in_limits most) (only_if_none _ _ (left-none _ _ e)) in
    let fits : size most ≤ room = ltb-false room (size most) (only_if_none _ _ (right-none _ _ e)) in
    let within : in_limits of ≡ true = rw (p, q) (limits-kept most.places most.pairs of.arcs most.arcs h limits) in
    let fewer : size of ≤ size most = rw (p, q) (fewer-arcs net.version most.places net.transitions most.pairs net.modes of.arcs most.arcs h) in
    let long : ltb room (size of) ≡ false = le-ltb room (size of) (omega (arith, fewer, fits)) in
    none_then (ap (λ b. only_if (not b) (wrong Net NoRoom)) within) (ap (λ b. only_if b (wrong Net NoRoom)) long)

module _ {s : List ℕ} {net : NetShape} (o : Open s net) (room : ℕ) where
  sizes-refusal : sizes_refusal net (sizes_of (net_of s)) room ≡ only_if (not (sheet_limits (net_of s))) (wrong Net NoRoom) ▸ too_short (complement_sheet s) room
  unfolding sizes_refusal
  sizes-refusal =
      ap₂ (λ limits size. only_if (not limits) (wrong Net NoRoom) ▸ only_if (ltb room size) (wrong Net NoRoom)) (limits-are (net_of s)) (size_is o (sizes-are (net_of s)) ∙ ap length (sheet-is o))

  pub still-fits : {starts : List ℕ} {most : Sizes} → StartsAre (net_of s).arcs starts → SizesWith (net_of s) (2 * net.arcs) most
      → sizes_refusal net most room ≡ none → sizes_refusal net (sizes_of (net_of s)) room ≡ none
  unfolding sizes_of
  still-fits {most = most} are with e = fits-with net room (sizes_of (net_of s)) most (sym with.places) (sym with.pairs) (omega (arith, arcs-at-most o are, with.arcs)) e

  -- 15, then 10
  pub in_order_lem : refusal15 (arc_offset s) (net_of s) ▸ sizes_refusal net (sizes_of (net_of s)) room ≡ room_refusal s room
  unfolding room_refusal complement_refusal
  in_order_lem = rw (then_assoc, sizes-refusal)

  -- without 15, 10
  pub only_room : {a : Answer} → refusal15 (arc_offset s) (net_of s) ≡ none → a ≡ answer (sizes_refusal net (sizes_of (net_of s)) room) → a ≡ answer (room_refusal s room)
  only_room e f = f ∙ ap answer (sym (none_then e refl) ∙ in_order_lem)

room-enough : (s : List ℕ) (room : ℕ) → room_refusal s room ≡ none → length (complement_sheet s) ≤ room
unfolding room_refusal
room-enough s room e = ltb-false _ _ (only_if_none _ _ (right-none _ _ e))

-- what an open net's call leaves, by the answer that it had
module _ {s : List ℕ} {net : NetShape} (o : Open s net) (found : List ℕ) where
  pub open-refused : {r : Refusal} → Err r ≡ answer (room_refusal s (length found))
      → (Err r ≡ emitted (room_refusal s (length found)) (length (complement_sheet s))) × (found ≡ output (room_refusal s (length found)) (complement_sheet s) found)
  open-refused e = refused (length (complement_sheet s)) (complement_sheet s) found (answer-refused (room_refusal s (length found)) (sym e))

  module _ (e : Ok tt ≡ answer (room_refusal s (length found))) where
    enough : length (complement_sheet s) ≤ length found
    enough = room-enough s (length found) (no_refusal _ e)

    pub open-room : Room found 0 (sheet_of net.version (complement (net_of s)))
    open-room = room_as (sym (sheet-is o)) (record { fits = omega (arith, enough) })

    pub open-written : {now : List ℕ} {after : ℕ} → Puts found 0 (sheet_of net.version (complement (net_of s))) now after
        → (Ok after ≡ emitted (room_refusal s (length found)) (length (complement_sheet s))) × (now ≡ output (room_refusal s (length found)) (complement_sheet s) found)
    open-written p = written (complement_sheet s) (no_refusal (room_refusal s (length found)) e) enough (puts_as (sheet-is o) p)
