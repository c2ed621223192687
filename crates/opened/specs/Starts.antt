-- Where the arcs of each mode stand among a net's arcs, which rise by mode.
-- A reader of the promises may skip this file.
use Rattle.std.specs.Prelude.{ℕ, ◌+◌, ◌-◌, ◌≤◌, ◌<◌, ◌≡◌, List, length, get_or}
use Rattle.model.specs.declared.Mode.{Mode}
use Rattle.model.specs.Nets.{NetArc, arc_no}
use Rattle.opened.specs.declared.starts.Segment.{Segment}
use Rattle.opened.specs.declared.starts.Span.{Span}

-- the first k arcs have modes below t
pub record ModesBelow (arcs : List NetArc) (t k : ℕ) : Type 0 where
  pub each : (j : ℕ) → j < k → (arc_no arcs j).mode.0 < t

-- the k-th arc is the first whose mode is at least t, or there is none and k is the arc count
pub record FirstFrom (arcs : List NetArc) (t k : ℕ) : Type 0 where
  pub inside : k ≤ length arcs
  pub before : ModesBelow arcs t k
  pub after : (j : ℕ) → k ≤ j → j < length arcs → t ≤ (arc_no arcs j).mode.0

-- a span in which that arc stands
pub record FirstBetween (arcs : List NetArc) (t : ℕ) (span : Span) : Type 0 where
  pub inside : (span.low ≤ span.high) × (span.high ≤ length arcs)
  pub before : ModesBelow arcs t span.low
  pub after : (j : ℕ) → span.high ≤ j → j < length arcs → t ≤ (arc_no arcs j).mode.0

pub record Narrower (arcs : List NetArc) (t : ℕ) (span part : Span) : Type 0 where
  pub between : FirstBetween arcs t part
  pub narrower : part.high - part.low < span.high - span.low

-- a table with such an entry for each t from 0 to 256
pub record StartsAre (arcs : List NetArc) (starts : List ℕ) : Type 0 where
  pub each : (t : ℕ) → t < 257 → FirstFrom arcs t (get_or starts t 0)

-- the arcs of a mode: `count` of them from `start` on, and no other
pub record ModeArcs (arcs : List NetArc) (t : Mode) (start count : ℕ) : Type 0 where
  pub fits : start + count ≤ length arcs
  pub own : (k : ℕ) → k < count → (arc_no arcs (start + k)).mode.0 ≡ t.0
  pub all : (k : ℕ) → k < length arcs → (arc_no arcs k).mode.0 ≡ t.0 → (start ≤ k) × (k < start + count)

-- the segment of a mode: it knows its mode, has the mode's arcs, and the next mode's stand after it
pub record SegmentOf (arcs : List NetArc) (t : Mode) (segment : Segment) : Type 0 where
  pub mode : segment.mode ≡ t
  pub own : ModeArcs arcs segment.mode segment.start segment.count
  pub starts : FirstFrom arcs t.0 segment.start
  pub ends : FirstFrom arcs (t.0 + 1) (segment.start + segment.count)

-- the i-th arc of a mode's segment
pub record OwnArc (arcs : List NetArc) (segment : Segment) (i : ℕ) : Type 0 where
  pub own : ModeArcs arcs segment.mode segment.start segment.count
  pub there : i < segment.count
