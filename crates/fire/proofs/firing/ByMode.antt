-- A mode's own arcs say what its row says, at a marking that was accepted.
use Prim.Native.Nat.{ℕ, ◌+◌, ◌≤◌, ◌<◌}
use mathlib.Core.Path.{◌≡◌, refl, sym, ◌∙◌, ap}
use mathlib.Core.Bool.{Bool, true, false}
use mathlib.Core.Logic.{◌↔◌}
use mathlib.Core.Option.{none}
use native.Mathlib.Omega.{arith}
use mathlib.Core.List.{List}
use Rattle.model.specs.declared.Mode.{Mode}
use Rattle.model.specs.declared.Thing.{Thing}
use Rattle.model.specs.declared.Why.{Why}
use Rattle.model.specs.declared.Why.TheVariants.{Lacking, OverCapacity, Inhibited, OverLimit}
use Rattle.model.specs.Refusals.{Answer}
use Rattle.std.specs.Prelude.{Ok}
use Rattle.model.specs.First.{◌▸◌, first}
use Rattle.model.specs.Refusals.{answer}
use Rattle.model.specs.Numbers.{ℕ∞, ◌≤∞◌}
use Rattle.model.specs.Nets.{NetArc, PNet, pairs, K, count, arc_no, row}
use Rattle.model.specs.Markings.{marking_refusal}
use Rattle.model.specs.Firing.{rule_refusal, row_refusal, mode_refusal, absent, rooms, room_at, fired}
use Rattle.model.proofs.First.{then_assoc}
use Rattle.movement.proofs.Markings.{marking-test}
use Rattle.model.proofs.Asking.{no_refusal}
use Rattle.movement.proofs.Rooms.{within-room}
use Rattle.movement.proofs.ByArcs.{Listing, arcs-stop, arcs_accept, write_arcs, write_next, write_length, write_keeps, fired-by-arcs}
use Rattle.opened.specs.declared.shape.NetShape.{NetShape}
use Rattle.opened.specs.declared.starts.Segment.{Segment}
use Rattle.sheets.specs.Decoded.{net_of}
use Rattle.opened.specs.Shape.{Open}
use Rattle.opened.specs.Starts.{ModeArcs, SegmentOf}
use Rattle.opened.proofs.Shapes.{sizes}
use Rattle.opened.proofs.Segments.{mode_lists}
use Rattle.fire.specs.firing.AtMode.{Free, Writable, written_at, AtMode, stop_at, stop_of, refusal_of, Decides}
use Rattle.leaving.specs.Leaving.{Leaves}
use Rattle.rule.proofs.FourTests.{clash}
use Rattle.leaving.proofs.Leaving.{leaves-some, leaves-written}

module _ {s : List ℕ} {net : NetShape} {arcs : Segment} {m : List ℕ} (h : AtMode s net arcs m) (t : Mode)
    (own : ModeArcs (net_of s).arcs t arcs.start arcs.count) where
  pub listing : Listing (pairs (net_of s)) (row (net_of s) t) arcs.count (λ i. arc_no (net_of s).arcs (arcs.start + i))
  listing = mode_lists (net_of s) (sizes h.opened).well_formed t arcs.start arcs.count own

  abbrev rooms-at : ℕ → ℕ∞
  rooms-at i = room_at (net_of s) (arc_no (net_of s).arcs (arcs.start + i))

  -- a count within K has room at each pair
  within : (p : ℕ) → p < pairs (net_of s) → count m p ≤∞ rooms (net_of s) (row (net_of s) t) p
  within p l = within-room (net_of s).rule (K (net_of s) p) (row (net_of s) t p).pre (count m p) (h.marking.within p l)

  same-room : (i : ℕ) → i < arcs.count → rooms (net_of s) (row (net_of s) t) (arc_no (net_of s).arcs (arcs.start + i)).pair.0 ≡ rooms-at i
  same-room i l = rw (listing.written i l)

  pub stop-by-arcs : (thing : Thing) (why : Why)
      → stop_of thing why (net_of s) m t ≡ first arcs.count (λ i. stop_at thing why (net_of s) m (arcs.start + i))
  unfolding stop_at stop_of
  stop-by-arcs thing why = arcs-stop listing thing _ (count m) h.marking.in_range within rooms-at same-room why

  -- nothing is found exactly when each arc is free
  abbrev Each : Type 0
  Each = (i : ℕ) → i < arcs.count → Free (net_of s) m (arcs.start + i)

  accepts : (thing : Thing) → (refusal_of thing (net_of s) m t ≡ none) ↔ Each
  unfolding Free refusal_of
  accepts thing = arcs_accept listing thing _ (count m) h.marking.in_range within rooms-at same-room

  pub one_not_free : {free : Bool} (i : ℕ) → i < arcs.count → (free ≡ true) ↔ Free (net_of s) m (arcs.start + i) → free ≡ false
      → Decides false (net_of s) m t
  one_not_free i l is e = record { each = λ thing. (λ z. clash (sym z), λ none. clash (sym (is.1 ((accepts thing).0 none i l)) ∙ e)) }

  pub all-free : Each → Decides true (net_of s) m t
  all-free each = record { each = λ thing. (λ _. (accepts thing).1 each, λ _. refl) }

  -- the arcs write one after the other, and in the end the mode has fired
  abbrev arc : ℕ → NetArc
  arc i = arc_no (net_of s).arcs (arcs.start + i)

  pub writable : (i : ℕ) → i < arcs.count → Writable (net_of s) (write_arcs arc i m) (arcs.start + i)
  writable i l =
      record {
        one_each = write_length arc m i ∙ h.marking.one_each;
        in_range =
            rw (write_keeps arc m i (arc i).pair.0 (λ k b e. omega (arith, listing.rising k i b l)))
            (h.marking.in_range (arc i).pair.0 (listing.inside i l));
      }

  pub written_next : (i : ℕ) → written_at (net_of s) (write_arcs arc i m) (arcs.start + i) ≡ write_arcs arc (i + 1) m
  unfolding written_at
  written_next i = sym (write_next arc m i)

  pub fires : (i : ℕ) → i ≤ arcs.count → arcs.count ≤ i → write_arcs arc i m ≡ fired (net_of s) t m
  fires i b l = let e : i ≡ arcs.count = omega arith in rw e (sym (fired-by-arcs (net_of s) t m h.marking listing))

-- the arcs of a mode, once the net is open and the marking accepted
pub at-mode : {s : List ℕ} {net : NetShape} {arcs : Segment} {m : List ℕ} → Open s net → Ok tt ≡ answer (marking_refusal (net_of s) m)
    → {t : Mode} → SegmentOf (net_of s).arcs t arcs → AtMode s net arcs m
at-mode {s} {m = m} o e is = record { opened = o; marking = (marking-test (net_of s) m).0 (no_refusal _ e); own = is.own }

-- "6, 11 over all pairs, 12, 13, 14": what is found is the first of the four in turn
pub in_order_lem : (thing : Thing) (net : PNet) (m : List ℕ) (t : Mode)
    → stop_of thing Lacking net m t ▸ stop_of thing OverCapacity net m t ▸ stop_of thing Inhibited net m t ▸ stop_of thing OverLimit net m t ≡ refusal_of thing net m t
unfolding stop_of refusal_of row_refusal rule_refusal
in_order_lem thing net m t = rw (then_assoc, then_assoc)

-- 6 is met before the arcs of a mode are looked for
pub mode-refusal : {s : List ℕ} {net : NetShape} → Open s net → (thing : Thing) (t : Mode) (m : List ℕ)
    → absent thing net.modes t ▸ refusal_of thing (net_of s) m t ≡ mode_refusal thing (net_of s) t m
unfolding mode_refusal refusal_of
mode-refusal o thing t m = rw (sizes o).modes

-- tested first, then written
module _ {test : Bool} {net : PNet} {m : List ℕ} {t : Mode} (decides : Decides test net m t) (thing : Thing) {new : List ℕ} where
  pub decides_not : {a : Answer} → test ≡ false → a ≡ answer (refusal_of thing net m t) → Leaves (refusal_of thing net m t) new m a m
  decides_not f e = leaves-some _ e (λ none. clash (sym ((decides.each thing).1 none) ∙ f))

  pub decides_so : {left : List ℕ} → test ≡ true → left ≡ new → Leaves (refusal_of thing net m t) new m (Ok tt) left
  decides_so f q = leaves-written _ (ap answer (sym ((decides.each thing).0 f))) refl q
