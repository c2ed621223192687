-- What holds of an arc, K and a count that were read holds of the arc of the net at the marking.
use Prim.Native.Nat.{ℕ}
use mathlib.Core.Path.{◌≡◌, sym, ◌∙◌, ap, subst}
use mathlib.Core.Bool.{Bool, true, false}
use mathlib.Core.List.{List}
use mathlib.Core.Logic.{◌↔◌}
use lib.ListN.{set}
use Rattle.model.specs.declared.Arc.{Arc}
use Rattle.model.specs.declared.Thing.{Thing}
use Rattle.model.specs.declared.Why.{Why}
use Rattle.model.specs.declared.Fault.TheVariants.{Stopped}
use Rattle.model.specs.Refusals.{Answer}
use Rattle.std.specs.Prelude.{Ok, Err}
use Rattle.model.specs.Numbers.{ℕ∞}
use Rattle.model.specs.Rows.{Entry}
use Rattle.model.specs.Refusals.{answer, wrong}
use Rattle.model.specs.Nets.{NetArc, PNet, count, arc_no}
use Rattle.model.specs.Firing.{after, stops, stopped_by, room_at}
use Rattle.fields.specs.Numbers.{bound}
use Rattle.sheets.specs.Decoded.{net_arc}
use Rattle.rule.specs.declared.AtPair.{AtPair}
use Rattle.fire.specs.firing.AtMode.{Meets, Free, written_at, stop_at}
use Rattle.rule.specs.AtPair.{Unstopped}

module _ {net : PNet} {m : List ℕ} {k : ℕ} {at : AtPair} (h : Meets net m k at) where
  abbrev a : NetArc
  a = arc_no net.arcs k

  pub meets_as : (P : Entry → ℕ∞ → ℕ → Type 0) → P (net_arc at.arc).entry (bound at.capacity) at.count
      → P a.entry (room_at net a) (count m a.pair.0)
  meets_as P p =
      subst (λ (x : NetArc). P x.entry (room_at net x) (count m x.pair.0)) h.arc (rw (h.capacity, h.count) at p)

  pub meets_free : {free : Bool} → (free ≡ true) ↔ Unstopped (net_arc at.arc).entry (bound at.capacity) at.count → (free ≡ true) ↔ Free net m k
  unfolding Free
  meets_free {free} is = meets_as (λ e k m. (free ≡ true) ↔ Unstopped e k m) is

  module _ (thing : Thing) (why : Why) {test : Bool} (tested : test ≡ stops why (net_arc at.arc).entry (bound at.capacity) at.count) where
    tests : test ≡ stops why a.entry (room_at net a) (count m a.pair.0)
    tests = meets_as (λ e k m. test ≡ stops why e k m) tested

    pub stop-found : {x : Answer} {n : ℕ} → test ≡ true → n ≡ stopped_by why (net_arc at.arc).entry (bound at.capacity) at.count
        → x ≡ Err (wrong thing (Stopped why at.arc.pair n)) → x ≡ answer (stop_at thing why net m k)
    unfolding stop_at
    stop-found {n = n} e f q =
        rw (sym tests ∙ e, ← meets_as (λ e k m. n ≡ stopped_by why e k m) f)
        (q ∙ ap (λ (x : NetArc). Err (wrong thing (Stopped why x.pair n))) h.arc)

    pub stop-passed : test ≡ false → (Ok tt) ≡ answer (stop_at thing why net m k)
    unfolding stop_at
    stop-passed e = rw (sym tests ∙ e)

-- what is written where the arc was read is written where the net has it
pub written_is : (a : Arc) (net : PNet) (m : List ℕ) (k : ℕ) {x : ℕ} → net_arc a ≡ arc_no net.arcs k → x ≡ after (net_arc a).entry (count m a.pair.0)
    → set m a.pair.0 x ≡ written_at net m k
unfolding written_at
written_is a net m k e q = rw q (ap (λ (x : NetArc). set m x.pair.0 (after x.entry (count m x.pair.0))) e)
