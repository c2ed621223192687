-- What is worked out once of a net sheet that has been accepted, and what a look into it gives.
-- A reader of the promises needs `arc_offset` and `inhibitor_offset` alone.
use Rattle.std.specs.Prelude.{ℕ, ◌+◌, ◌*◌, ◌≤◌, ◌<◌, ◌≡◌, List, length}
use Rattle.std.proofs.Math.Option.{none}
use Rattle.model.specs.declared.Arc.{Arc}
use Rattle.model.specs.declared.Version.{Version}
use Rattle.model.specs.declared.Version.TheVariants.{One, Two}
use Rattle.model.specs.Numbers.{limit}
use Rattle.model.specs.Nets.{arc_no}
use Rattle.model.specs.WellFormed.{InRange}
use Rattle.opened.specs.declared.shape.NetShape.{NetShape}
use Rattle.heads.specs.Layout.{place_count, transition_count, pair_count, mode_count, pairs_offset, arc_count_at, arcs_after, arcs_offset, arc_at, arc_tail_at, group_arc_at, tail_inhibitor_at, arcs_before}
use Rattle.heads.specs.Version.{version_of}
use Rattle.fields.specs.Numbers.{bound}
use Rattle.sheets.specs.nets.Nets.{net_refusal}
use Rattle.sheets.specs.Decoded.{net_of, net_arc}

unfoldable pub shape_of : List ℕ → NetShape
shape_of s =
    record {
      version = version_of s;
      rule = (net_of s).rule;
      places = place_count s;
      transitions = transition_count s;
      pairs = pair_count s;
      modes = mode_count s;
      arcs = length (net_of s).arcs;
      pairs_at = pairs_offset s;
      arcs_at = arc_count_at s;
    }

-- the one record that every look into a net requires
pub record Open (s : List ℕ) (net : NetShape) : Type 0 where
  pub accepted : net_refusal s ≡ none
  pub shape : net ≡ shape_of s

-- the k-th arc of the net that a sheet means; its mode and its pair are there, and its numbers in range
pub record ArcIs (s : List ℕ) (net : NetShape) (k : ℕ) (a : Arc) : Type 0 where
  pub is : net_arc a ≡ arc_no (net_of s).arcs k
  pub mode : a.mode.0 < net.modes
  pub pair : a.pair.0 < net.pairs
  pub pre : a.pre ≤ limit
  pub post : a.post ≤ limit
  pub inhibitor : InRange (bound a.inhibitor)

-- "the position of a field, an arc or a byte is the offset of its first byte": of the k-th arc, which in version 2 stands after the arc counts of its mode and
-- of those below it, and after k arcs
abbrev pub offset_by : Version → List ℕ → ℕ → ℕ
offset_by One s k = arc_at (arcs_offset s) k
offset_by Two s k = group_arc_at (arcs_after (arc_count_at s + 2 * (arc_no (net_of s).arcs k).mode.0)) k

unfoldable pub arc_offset : List ℕ → ℕ → ℕ
arc_offset s k = offset_by (version_of s) s k

-- and of its I: "mode (2 bytes), pair (2), Pre, Post, I (4 each)", in version 2 "without the mode"
abbrev pub inhibitor_by : Version → ℕ → ℕ
inhibitor_by One at = tail_inhibitor_at (arc_tail_at at)
inhibitor_by Two at = tail_inhibitor_at at

unfoldable pub inhibitor_offset : List ℕ → ℕ → ℕ
inhibitor_offset s k = inhibitor_by (version_of s) (arc_offset s k)

-- where the 14 bytes of the k-th arc stand, which is one of mode t's
abbrev pub lead_of : Version → ℕ → ℕ
lead_of One t = 4
lead_of Two t = 2 + 2 * t

abbrev pub stride_of : Version → ℕ
stride_of One = 16
stride_of Two = 14

unfoldable pub tail_at : List ℕ → ℕ → ℕ → ℕ
tail_at s t k = arc_count_at s + lead_of (version_of s) t + stride_of (version_of s) * k

-- version 2: k arcs stand before those of mode t, which begin after `base`
pub record Before (s : List ℕ) (base t k : ℕ) : Type 0 where
  pub accepted : net_refusal s ≡ none
  pub version : version_of s ≡ Two
  pub place : base ≡ arc_count_at s
  pub many : k ≡ arcs_before s base t
