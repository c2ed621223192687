-- What is read at an offset is what stands there.
use Prim.Native.Nat.{ℕ, ◌+◌, ◌≤◌, ◌<◌}
use mathlib.Core.Path.{◌≡◌, refl, sym, ◌∙◌, ap, subst}
use mathlib.Core.List.{List}
use mathlib.Core.Option.{none}
use lib.ListN.{length, take, drop, length-drop}
use lib.Seq.{length-take-le, get_or-take, get_or-drop, ext_get_or}
use native.Mathlib.Omega.{arith}
use Rattle.model.specs.declared.Version.{Version}
use Rattle.model.specs.declared.Version.TheVariants.{One, Two}
use Rattle.model.specs.Nets.{NetArc, pairs, K, arc_no}
use Rattle.model.proofs.First.{left-none}
use Rattle.heads.specs.Bytes.{byte_at, u32_at}
use Rattle.heads.specs.Layout.{pair_count, tail_size}
use Rattle.heads.specs.Version.{version_of}
use Rattle.sheets.specs.nets.Nets.{net_refusal}
use Rattle.sheets.proofs.nets.Valid.{headed, start-holds}
use Rattle.sheets.specs.Whole.{whole_net}
use Rattle.sheets.specs.Decoded.{net_arc_in, net_of}
use Rattle.sheets.proofs.Meaning.{pairs-are, capacity-at, arcs-length, arc-at}
use Rattle.opened.specs.Shape.{arc_offset, inhibitor_offset, tail_at}
use Rattle.opened.proofs.Versions.{tail-arc, tail-there, offset-one, offset-two, inhibitor-there}
use Rattle.sheets.specs.written.Written.{bytes32, bound_number, tail_bytes, mode_bytes, arc_bytes}
use Rattle.sheets.proofs.written.Stands.{Stands, moved}
use Rattle.sheets.proofs.written.BigEndian.{length32, every_byte, stand32}
use Rattle.sheets.proofs.written.Records.{number_bound, arc-length, stand_tail, stand_arc}
use Rattle.export.specs.Exports.{capacity_offset}
use Rattle.sentences.specs.Bytes.{Bytes}
use Rattle.sentences.specs.Demand1.{BytesAt, Positions}

-- bytes that stand in a sheet are cut from it there
cut : {s bytes : List ℕ} (at : ℕ) → Stands s at bytes → at + length bytes ≤ length s → BytesAt s at bytes
cut {s} {bytes} at h l =
    let n = length bytes in
    let long : length (take n (drop at s)) ≡ n = length-take-le n (drop at s) (omega (arith, length-drop at s)) in
    ext_get_or 0 (take n (drop at s)) bytes long
    (λ i b.
    let below : i < n = omega arith in
    get_or-take n (drop at s) i 0 below ∙ get_or-drop at s i 0 ∙ h.each i (at + i) below refl)

module _ (s : List ℕ) (bytes : Bytes s) (whole : whole_net s ≡ none) where
  accepted : net_refusal s ≡ none
  unfolding whole_net
  accepted = left-none _ _ whole

  byte : (i : ℕ) → byte_at s i < 256
  byte = every_byte s bytes

  -- a field of 4 bytes that holds a bound
  field_at : (at : ℕ) {n : ℕ} → n ≡ u32_at s at → at + 4 ≤ length s → BytesAt s at (bytes32 n)
  field_at at {n} e l = rw e (cut at (stand32 s byte at) (omega (arith, length32 (u32_at s at))))

  capacity-there : (p : ℕ) → p < pairs (net_of s) → BytesAt s (capacity_offset s p) (bytes32 (bound_number (K (net_of s) p)))
  capacity-there p h =
      let l : p < pair_count s = rw (← pairs-are s) h in
      field_at (capacity_offset s p) (ap bound_number (capacity-at s p l) ∙ number_bound _) (omega (arith, headed s accepted, (start-holds s accepted p l).there))

  module _ (k : ℕ) (h : k < length (net_of s).arcs) where
    abbrev a : NetArc
    a = arc_no (net_of s).arcs k

    abbrev tail : ℕ
    tail = tail_at s a.mode.0 k

    arc_in : net_arc_in s a.mode.0 tail ≡ a
    arc_in = tail-arc s accepted a.mode.0 k h refl

    there : tail + tail_size ≤ length s
    there = tail-there s accepted a.mode.0 k h refl

    arc-there : (v : Version) → version_of s ≡ v → BytesAt s (arc_offset s k) (arc_bytes v a)
    unfolding arc_offset arc_bytes mode_bytes
    arc-there One v =
        let at = offset-one s accepted a.mode.0 k h refl v in
        cut (arc_offset s k) (rw (v, arc-at s v k (rw (← arcs-length s v) h)) (stand_arc s _ byte)) (omega (arith, there, arc-length One a, at))
    arc-there Two v =
        let at = offset-two s accepted a.mode.0 k h refl v in
        let stands = subst (λ b. Stands s tail (tail_bytes b)) arc_in (stand_tail s tail byte a.mode.0) in
        cut (arc_offset s k) (moved (arc_offset s k) (sym at) stands) (omega (arith, there, arc-length Two a, at))

    inhibitor-at : BytesAt s (inhibitor_offset s k) (bytes32 (bound_number a.entry.inhibitor))
    unfolding net_arc_in
    inhibitor-at =
        let at = inhibitor-there s accepted a.mode.0 k h refl in
        field_at (inhibitor_offset s k) (ap (λ b. bound_number b.entry.inhibitor) (sym arc_in) ∙ number_bound _ ∙ ap (u32_at s) at) (omega (arith, there))

pub positions : Positions
positions s bytes whole =
    record {
      arc = λ k h. arc-there s bytes whole k h (version_of s) refl;
      capacity = capacity-there s bytes whole;
      inhibitor = inhibitor-at s bytes whole;
    }
