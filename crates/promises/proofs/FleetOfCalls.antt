-- Calls for one ship after another leave what the definition says; and an accepted ship with a movement that takes weight off raises `removed`.
use Prim.Native.Nat.{ℕ, zero, suc, ◌+◌, ◌<◌}
use mathlib.Core.Path.{◌≡◌, refl, sym, ◌∙◌, ap}
use mathlib.Core.List.{List, [], ◌∷◌, map}
use mathlib.Core.Logic.{◌≢◌}
use mathlib.Core.Option.{Option, none, some}
use lib.IntN.{ℤ, pos, negsuc, neg_ℤ, ◌+ℤ◌, +ℤ_assoc, +ℤ_invl, +ℤ_idl}
use lib.ListN.{length, get_or}
use native.Mathlib.Nat.{not-suc-le-zero, le_of_suc-le-suc}
use native.Mathlib.Omega.{arith}
use Rattle.model.specs.declared.Mode.{Mode}
use Rattle.model.specs.declared.Refusal.{Refusal}
use Rattle.model.specs.Refusals.{Answer}
use Rattle.model.specs.Refusals.{number}
use Rattle.model.specs.Nets.{PNet, total, mode_no}
use Rattle.movement.specs.Figures.{change}
use Rattle.ships.specs.declared.Fleet.{Fleet}
use Rattle.ships.specs.Ships.{Ship, lost, removed_by, ship_removed, voyage_of, with_voyage}
use Rattle.ships.specs.Entered.{ship_refusal, entered}
use Rattle.ships.specs.Promises.{after_all, counted as counted_by}
use Rattle.ships.proofs.Totals.{fleet_statement_lem}
use Rattle.statement.specs.fleet.Allowed.{AddShipAllows}
use Rattle.promises.specs.FleetOfCalls.{Calls, none as no_ship, counts, refuses, FleetOfCalls}
use Rattle.promises.specs.Frauds.{FleetFrauds}
use Rattle.promises.proofs.Accepting.{number-none}

module _ (f : Fleet) (s : Ship) {o : Answer × Fleet} (allowed : AddShipAllows f s.net s.weights s.movements o) where
  was_accepted : number o.0 ≡ 0 → ship_refusal f s ≡ none
  unfolding entered
  was_accepted e = number-none (ship_refusal f s) (sym (ap number allowed.0) ∙ e)

  entered-is : number o.0 ≡ 0 → o.1 ≡ with_voyage f (voyage_of s)
  unfolding entered
  entered-is e = allowed.1 ∙ rw (was_accepted e)

-- what the calls have counted and leave is what the definition counts and leaves
record Same (f : Fleet) (ships counted : List Ship) (last : Fleet) : Type 0 where
  counts : counted ≡ counted_by f ships
  leaves : last ≡ after_all f ships

same : {f last : Fleet} {ships counted : List Ship} → Calls f ships counted last → Same f ships counted last
unfolding after_all counted_by entered
same no_ship = record { counts = refl; leaves = refl }
same (counts {f} {last} {s} {ships} o a e c) =
    let rest = rw (entered-is f s a e) at (same c) in
    let accepted = was_accepted f s a e in
    record { counts = rw accepted (ap (λ l. s ∷ l) rest.counts); leaves = rw accepted rest.leaves }
same (refuses {f} {last} {s} {ships} {counted} o a e c) = go (ship_refusal f s) refl (same c)
  where
    go : (r : Option Refusal) → ship_refusal f s ≡ r → Same o.1 ships counted last → Same f (s ∷ ships) counted last
    go none h rest = absurd (e (ap number a.0 ∙ rw h))
    go (some r) h rest =
        let kept : o.1 ≡ f = a.1 ∙ rw h in
        let same = rw kept at rest in
        record { counts = rw h same.counts; leaves = rw h same.leaves }

pub fleet_of-calls : FleetOfCalls
fleet_of-calls ships counted last calls =
    let is = same calls in
    let stated = fleet_statement_lem ships in
    record {
      totalled = rw (is.counts, is.leaves) stated.totalled;
      balances = rw (is.counts, is.leaves) stated.balances;
      few = rw is.counts stated.few;
      within_bounds = rw is.leaves stated.within_bounds;
    }

-- one that loses raises the total
one_raises : (f : Mode → ℕ) (ts : List Mode) (k : ℕ) → k < length ts → 0 < f (get_or ts k (mode_no 0)) → 0 < total (map f ts)
one_raises f [] k h l = absurd (not-suc-le-zero h)
one_raises f (t ∷ ts) zero h l = omega arith
one_raises f (t ∷ ts) (suc k) h l = omega (arith, one_raises f ts k (le_of_suc-le-suc h) l)

removes : (net : PNet) (weights : List ℤ) (ts : List Mode) (k n : ℕ) → k < length ts → change net weights (get_or ts k (mode_no 0)) ≡ negsuc n
    → 0 < removed_by net weights ts
unfolding removed_by
removes net weights ts k n h e = one_raises (λ t. lost (change net weights t)) ts k h (rw e (omega arith))

-- a sum with something more is another
raised : (z : ℤ) (n : ℕ) → 0 < n → z +ℤ pos n ≢ z
raised z n h e =
    let same : pos n ≡ pos 0 = sym (+ℤ_idl (pos n)) ∙ ap (λ x. x +ℤ pos n) (sym (+ℤ_invl z)) ∙ +ℤ_assoc (neg_ℤ z) z (pos n) ∙ ap (λ x. neg_ℤ z +ℤ x) e ∙ +ℤ_invl z in
    let none : n ≡ 0 = cc same in omega arith

pub fleet_frauds : FleetFrauds
unfolding with_voyage voyage_of
fleet_frauds =
    record {
      never_removed = λ found s k n h e o a accepts same.
          raised found.removed (ship_removed s) (removes _ _ _ k n h e) (sym (ap (λ (f : Fleet). f.removed) (entered-is found s a accepts)) ∙ same);
      never_counted = λ found s o a accepts same.
          let more : o.1.ships ≡ found.ships + 1 = ap (λ (f : Fleet). f.ships) (entered-is found s a accepts) in omega arith;
    }
