-- Document 01: "The position of a field, an arc or a byte is the offset of its first byte, counted from 0 at the first byte of its sheet's length". Which bytes of
-- an accepted net sheet stand at the offsets that 15 and 19 name, in each version.
use Rattle.std.specs.Prelude.{ℕ, ◌<◌, ◌≡◌, List, length, take, drop}
use Rattle.std.proofs.Math.Option.{none}
use Rattle.model.specs.Nets.{pairs, K, arc_no}
use Rattle.heads.specs.Version.{version_of}
use Rattle.sheets.specs.Whole.{whole_net}
use Rattle.sheets.specs.Decoded.{net_of}
use Rattle.opened.specs.Shape.{arc_offset, inhibitor_offset}
use Rattle.sheets.specs.written.Written.{bytes32, bound_number, arc_bytes}
use Rattle.export.specs.Exports.{capacity_offset}
use Rattle.promises.specs.EqualNets.{Bytes}

-- the sheet has these bytes, the first of them at that offset
abbrev pub BytesAt : List ℕ → ℕ → List ℕ → Type 0
BytesAt s at bytes = take (length bytes) (drop at s) ≡ bytes

pub record OffsetsOf (s : List ℕ) : Type 0 where
  -- 15, at the arc: the 16 bytes of the k-th arc of the net read, in version 2 its 14 without the mode
  pub arc : (k : ℕ) → k < length (net_of s).arcs → BytesAt s (arc_offset s k) (arc_bytes (version_of s) (arc_no (net_of s).arcs k))
  -- 19, at the K of a pair or at the I of an arc: its 4 bytes
  pub capacity : (p : ℕ) → p < pairs (net_of s) → BytesAt s (capacity_offset s p) (bytes32 (bound_number (K (net_of s) p)))
  pub inhibitor : (k : ℕ) → k < length (net_of s).arcs
      → BytesAt s (inhibitor_offset s k) (bytes32 (bound_number (arc_no (net_of s).arcs k).entry.inhibitor))

abbrev pub Positions : Type 0
Positions = (s : List ℕ) → Bytes s → whole_net s ≡ none → OffsetsOf s
