-- One movement of a list: the arcs of its mode are as many as its segment has, and it is made where its mode is there and none of 11 to 14 is found.
use Prim.Native.Nat.{ℕ, suc, ◌+◌, ◌-◌, ◌≤◌, ◌<◌}
use mathlib.Core.Path.{◌≡◌, refl, subst⁻¹}
use mathlib.Core.Bool.{Bool, true, false}
use mathlib.Core.List.{List, [], ◌∷◌}
use mathlib.Core.Logic.{⊎_elim}
use mathlib.Core.Option.{none}
use lib.Dec.{eqb}
use lib.ListN.{length}
use native.Mathlib.Omega.{arith}
use borrow.Author.Tests.{eqb-true, eqb-false, lt-ltb, le-ltb, leb-false, lt-leb}
use Rattle.model.specs.declared.Mode.{Mode}
use Rattle.model.specs.declared.Thing.TheVariants.{Movements}
use Rattle.model.specs.Nets.{NetArc, PNet, arc_no}
use Rattle.model.specs.Markings.{Marking}
use Rattle.model.specs.Firing.{mode_refusal, absent}
use Rattle.both_forms.specs.Visits.{arcs_among, arcs_of_mode}
use Rattle.model.proofs.First.{below_or, left-none, only_if_none}
use Rattle.opened.specs.declared.shape.NetShape.{NetShape}
use Rattle.opened.specs.declared.starts.Segment.{Segment}
use Rattle.opened.specs.Shape.{Open}
use Rattle.opened.specs.Starts.{ModeArcs, SegmentOf}
use Rattle.opened.proofs.Shapes.{sizes}
use Rattle.opened.proofs.Segments.{segment-own}
use Rattle.sheets.specs.Decoded.{net_of}
use Rattle.leaving.specs.Leaving.{Makes}
use Rattle.leaving.proofs.Leaving.{makes_not, makes-after}
use Rattle.fire.specs.firing.AtMode.{AtMode, refusal_of}
use Rattle.fire.proofs.firing.ByMode.{mode-refusal}
use Rattle.numbers.specs.Movement.{Tries}

-- the arcs of a mode stand from `low` on and before `high`, and no other does
record Stand (arcs : List NetArc) (t : Mode) (low high : ℕ) : Type 0 where
  fits : high ≤ length arcs
  own : (k : ℕ) → low ≤ k → k < high → (arc_no arcs k).mode.0 ≡ t.0
  all : (k : ℕ) → k < length arcs → (arc_no arcs k).mode.0 ≡ t.0 → (low ≤ k) × (k < high)

stand_after : (a : NetArc) (arcs : List NetArc) (t : Mode) (low high : ℕ) → Stand (a ∷ arcs) t low high → Stand arcs t (low - 1) (high - 1)
stand_after a arcs t low high stand =
    record {
      fits = omega (arith, stand.fits);
      own = λ k l h. stand.own (suc k) (omega arith) (omega arith);
      all = λ k l e. let there = stand.all (suc k) (omega arith) e in (omega arith, omega arith);
    }

stand_count : (arcs : List NetArc) (t : Mode) (low high : ℕ) → Stand arcs t low high → arcs_among arcs t ≡ high - low
unfolding arcs_among
stand_count [] t low high stand = omega (arith, stand.fits)
stand_count (a ∷ arcs) t low high stand = go (eqb a.mode.0 t.0) refl (stand_count arcs t (low - 1) (high - 1) (stand_after a arcs t low high stand))
  where
    go : (b : Bool) → eqb a.mode.0 t.0 ≡ b → arcs_among arcs t ≡ high - 1 - (low - 1) → arcs_among (a ∷ arcs) t ≡ high - low
    go true e rest = let there = stand.all 0 (omega arith) (eqb-true _ _ e) in rw e (omega arith)
    go false e rest =
        rw e
        (⊎_elim (λ (h : 0 < low). omega arith)
        (λ (l : low ≤ 0). ⊎_elim (λ (h : 0 < high). absurd (eqb-false _ _ e (stand.own 0 l h))) (λ (h : high ≤ 0). omega arith) (below_or 0 high))
        (below_or 0 low))

mode-count : (arcs : List NetArc) (t : Mode) (start count : ℕ) → ModeArcs arcs t start count → count ≡ arcs_among arcs t
mode-count arcs t start count is =
    let own : (k : ℕ) → start ≤ k → k < start + count → (arc_no arcs k).mode.0 ≡ t.0 = λ k l h.
    let e : start + (k - start) ≡ k = omega arith in rw e at (is.own (k - start) (omega arith)) in
    omega (arith, stand_count arcs t start (start + count) (record { fits = is.fits; own = own; all = is.all }))

module _ {s : List ℕ} {net : NetShape} (o : Open s net) (t : Mode) where
  pub tries_absent : net.modes ≤ t.0 → Tries (net_of s) t (record { mode = t; start = 0; count = 0 })
  unfolding arcs_of_mode
  tries_absent h =
      let z = sizes o in
      record { mode = refl; visits = rw (le-ltb _ _ (rw z.modes at h)); few = omega arith; segment = λ l. absurd (omega (arith, z.modes)) }

  pub tries_there : {arcs : Segment} → t.0 < net.modes → SegmentOf (net_of s).arcs t arcs → Tries (net_of s) t arcs
  unfolding arcs_of_mode
  tries_there {arcs} h is =
      let z = sizes o in
      let own = segment-own is in
      record {
        mode = is.mode;
        visits = rw (lt-ltb _ _ (rw z.modes at h)) (mode-count (net_of s).arcs t _ _ own);
        few = omega (arith, own.fits, z.arcs, z.arcs_within);
        segment = λ l. own;
      }

pub tries_own : {net : PNet} {t : Mode} {arcs : Segment} → Tries net t arcs → Tries net arcs.mode arcs
tries_own {net} {t} {arcs} is = subst⁻¹ (λ (t : Mode). Tries net t arcs) is.mode is

-- what a movement visits, at a marking: the arcs of its mode, which is there
pub tries_at : {s : List ℕ} {net : NetShape} {arcs : Segment} {m : List ℕ} → Open s net → Tries (net_of s) arcs.mode arcs → Marking (net_of s) m
    → arcs.mode.0 < net.modes → AtMode s net arcs m
tries_at o tries marking h = record { opened = o; marking = marking; own = tries.segment (rw (sizes o).modes at h) }

-- a movement whose mode is not there is not made; one whose mode is there is made where none of 11 to 14 is found
module _ {s : List ℕ} {net : NetShape} (o : Open s net) (t : Mode) {m new : List ℕ} where
  pub absent-makes : net.modes ≤ t.0 → Makes (mode_refusal Movements (net_of s) t m) new m false m
  absent-makes h =
      rw (← mode-refusal o)
      (makes_not _ (λ e. let l = leb-false net.modes t.0 (only_if_none _ _ (left-none (absent Movements net.modes t) _ e)) in absurd (omega arith)))

  pub there-makes : {made : Bool} {left : List ℕ} → t.0 < net.modes → Makes (refusal_of Movements (net_of s) m t) new m made left
      → Makes (mode_refusal Movements (net_of s) t m) new m made left
  there-makes h makes =
      let there : absent Movements net.modes t ≡ none = simp (lt-leb net.modes t.0 h) in
      rw (← mode-refusal o) (makes-after (absent Movements net.modes t) _ there makes)
