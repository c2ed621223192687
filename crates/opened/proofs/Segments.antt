-- The arcs of a mode stand together, since arcs rise by mode.
use Prim.Native.Nat.{ℕ, ◌+◌, ◌-◌, ◌≤◌, ◌<◌}
use mathlib.Core.Path.{◌≡◌, refl}
use mathlib.Core.List.{List}
use mathlib.Core.Logic.{◌⊎◌, inl, inr, ⊎_elim}
use lib.ListN.{length}
use native.Mathlib.Omega.{arith}
use native.Mathlib.Nat.{eq-or-lt_of_le}
use Rattle.model.specs.declared.Mode.{Mode}
use Rattle.model.specs.Nets.{NetArc, PNet, pairs, arc_no, row}
use Rattle.model.specs.WellFormed.{Rises, WellFormed}
use Rattle.model.proofs.First.{below_or}
use Rattle.movement.proofs.Nets.{Rising, rises-all}
use Rattle.movement.proofs.ByArcs.{Listing, segment_lists}
use Rattle.opened.specs.declared.starts.Segment.{Segment}
use Rattle.opened.specs.declared.starts.Span.{Span}
use Rattle.opened.specs.Starts.{ModesBelow, FirstBetween, Narrower, FirstFrom, ModeArcs, SegmentOf, OwnArc}

-- i is the next number below i + 1, the others are below i
below_next : (i j : ℕ) → j < i + 1 → (j < i) ⊎ (j ≡ i)
below_next i j h = ⊎_elim (λ (q : j ≡ i). inr q) (λ (l : j < i). inl l) (eq-or-lt_of_le (omega arith))

mode-rises : (a b : NetArc) → Rises a b → a.mode.0 ≤ b.mode.0
mode-rises a b (inl h) = omega arith
mode-rises a b (inr h) = omega arith

module _ (arcs : List NetArc) where
  pub below_none : (t : ℕ) → ModesBelow arcs t 0
  below_none t = record { each = λ j h. absurd (omega arith) }

  pub below_more : (t i : ℕ) → ModesBelow arcs t i → (arc_no arcs i).mode.0 < t → ModesBelow arcs t (i + 1)
  below_more t i below h =
      record { each = λ j l. ⊎_elim (λ (b : j < i). below.each j b) (λ (q : j ≡ i). rw q h) (below_next i j l) }

  pub below_up : (t k : ℕ) → ModesBelow arcs t k → ModesBelow arcs (t + 1) k
  below_up t k below = record { each = λ j l. omega (arith, below.each j l) }

  -- arcs rise, so what is at least t stays so
  from_there : Rising arcs → (t k : ℕ) → t ≤ (arc_no arcs k).mode.0 → (j : ℕ) → k ≤ j → j < length arcs → t ≤ (arc_no arcs j).mode.0
  from_there rising t k l j b i =
      ⊎_elim (λ (q : k ≡ j). rw (← q) l) (λ (g : k < j). omega (arith, mode-rises (arc_no arcs k) (arc_no arcs j) (rises-all arcs rising k j g i)))
      (eq-or-lt_of_le b)

  -- a search that stops at k, and one that comes to the end
  pub first_stops : Rising arcs → (t k : ℕ) → k < length arcs → ModesBelow arcs t k → t ≤ (arc_no arcs k).mode.0 → FirstFrom arcs t k
  first_stops rising t k h below l = record { inside = omega arith; before = below; after = from_there rising t k l }

  pub first_ends : (t k : ℕ) → k ≡ length arcs → ModesBelow arcs t k → FirstFrom arcs t k
  first_ends t k e below = record { inside = omega arith; before = below; after = λ j b i. absurd (omega arith) }

  -- the middle arc of a span says in which half of it the first arc from t on stands
  module _ (rising : Rising arcs) (t : ℕ) (span : Span) (between : FirstBetween arcs t span) (middle : ℕ) (l : span.low ≤ middle) (h : middle < span.high) where
    pub upper_half : (arc_no arcs middle).mode.0 < t → Narrower arcs t span (record { low = middle + 1; high = span.high })
    upper_half below =
        record {
          between = record {
            inside = (omega arith, between.inside.1);
            before = record {
              each =
                  λ j b.
                  ⊎_elim
                  (λ (g : j < middle).
                  omega (arith, mode-rises (arc_no arcs j) (arc_no arcs middle) (rises-all arcs rising j middle g (omega (arith, between.inside.1)))))
                  (λ (q : j ≡ middle). rw q below) (below_next middle j b);
            };
            after = between.after;
          };
          narrower = omega arith;
        }

    pub lower_half : t ≤ (arc_no arcs middle).mode.0 → Narrower arcs t span (record { low = span.low; high = middle })
    lower_half from-t =
        record {
          between = record {
            inside = (l, omega (arith, between.inside.1));
            before = between.before;
            after = from_there rising t middle from-t;
          };
          narrower = omega arith;
        }

  module _ (t : Mode) (start end : ℕ) (starts : FirstFrom arcs t.0 start) (ends : FirstFrom arcs (t.0 + 1) end) where
    pub in_turn : start ≤ end
    in_turn =
        ⊎_elim (λ (l : end < start). absurd (omega (arith, starts.before.each end l, ends.after end (omega arith) (omega arith)))) (λ (l : start ≤ end). l)
        (below_or end start)

    -- from the first arc of the mode to the first of a later one
    pub mode-arcs : ModeArcs arcs t start (end - start)
    mode-arcs =
        let l = in_turn in
        record {
          fits = omega arith;
          own = λ k h. omega (arith, starts.after (start + k) (omega arith) (omega arith), ends.before.each (start + k) (omega arith));
          all =
              λ k h e. (
                ⊎_elim (λ (b : k < start). absurd (omega (arith, starts.before.each k b))) (λ (b : start ≤ k). b) (below_or k start),
                ⊎_elim (λ (b : k < end). omega arith) (λ (b : end ≤ k). absurd (omega (arith, ends.after k b h))) (below_or k end),
              );
        }

-- the segment from the first arc of a mode to the first of a later one
pub segment-of : (arcs : List NetArc) (t : Mode) (start end : ℕ) → FirstFrom arcs t.0 start → FirstFrom arcs (t.0 + 1) end
    → SegmentOf arcs t (record { mode = t; start = start; count = end - start })
segment-of arcs t start end starts ends =
    let l = in_turn arcs t start end starts ends in
    let e : start + (end - start) ≡ end = omega arith in
    record { mode = refl; own = mode-arcs arcs t start end starts ends; starts = starts; ends = rw e ends }

pub segment-own : {arcs : List NetArc} {t : Mode} {segment : Segment} → SegmentOf arcs t segment → ModeArcs arcs t segment.start segment.count
segment-own is = rw is.mode at is.own

-- the i-th arc of a mode's segment is one of the net's, and has that mode
module _ {arcs : List NetArc} {segment : Segment} {i : ℕ} (arc : OwnArc arcs segment i) where
  pub own-there : segment.start + i < length arcs
  own-there = omega (arith, arc.own.fits, arc.there)

  pub own-mode : (arc_no arcs (segment.start + i)).mode.0 ≡ segment.mode.0
  own-mode = arc.own.own i arc.there

-- the span of all arcs, and one that is down to a single place
pub first-of-all : (arcs : List NetArc) (t : ℕ) → FirstBetween arcs t (record { low = 0; high = length arcs })
first-of-all arcs t = record { inside = (omega arith, omega arith); before = below_none arcs t; after = λ j h l. absurd (omega arith) }

pub first_found : (arcs : List NetArc) (t : ℕ) (span : Span) → FirstBetween arcs t span → span.high ≤ span.low → FirstFrom arcs t span.low
first_found arcs t span between h =
    record { inside = omega (arith, between.inside); before = between.before; after = λ j b i. between.after j (omega arith) i }

pub first-arc : (arcs : List NetArc) → FirstFrom arcs 0 0
first-arc arcs = record { inside = omega arith; before = below_none arcs 0; after = λ j h l. omega arith }

-- only one arc is the first of a mode or a later one
pub first-same : (arcs : List NetArc) (t j k : ℕ) → FirstFrom arcs t j → FirstFrom arcs t k → j ≡ k
first-same arcs t j k f g =
    let below : (j k : ℕ) → FirstFrom arcs t j → FirstFrom arcs t k → k ≤ j = λ j k f g.
    ⊎_elim (λ (l : j < k). absurd (omega (arith, g.before.each j l, f.after j (omega arith) (omega (arith, g.inside))))) (λ (l : k ≤ j). l) (below_or j k) in
    omega (arith, below j k f g, below k j g f)

-- the arcs of a mode write its row
pub mode_lists : (net : PNet) → WellFormed net → (t : Mode) (start count : ℕ) → ModeArcs net.arcs t start count
    → Listing (pairs net) (row net t) count (λ k. arc_no net.arcs (start + k))
mode_lists net well t start count m = segment_lists net well t start count m.fits m.own m.all
