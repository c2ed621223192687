-- What a record from zeros has grown to, ship by ship: 25 never refuses it.
use Prim.Native.Nat.{ℕ, ◌+◌, ◌*◌, ◌≤◌}
use mathlib.Core.Path.{◌≡◌, refl, ap}
use mathlib.Core.Bool.{Bool, true, false, cond}
use mathlib.Core.List.{List, [], ◌∷◌}
use mathlib.Core.Option.{Option, none, some}
use lib.Dec.{eqb}
use lib.IntN.{ℤ, pos}
use native.Mathlib.Omega.{arith}
use borrow.Author.Tests.{ltb-false}
use Rattle.model.specs.declared.Refusal.{Refusal}
use Rattle.model.proofs.Both.{or_neither}
use Rattle.model.proofs.First.{left-none, right-none, only_if_none}
use Rattle.movement.proofs.Runs.{runs}
use Rattle.sheets.specs.Whole.{whole_movements}
use Rattle.sheets.specs.Decoded.{net_of, movements_of}
use Rattle.sheets.proofs.Listed.{movements-within}
use Rattle.ships.specs.declared.Fleet.{Fleet}
use Rattle.ships.specs.declared.Voyage.{Voyage}
use Rattle.ships.specs.Ships.{Ship, ship_added, ship_removed, voyage_of, refused_by, with_voyage}
use Rattle.ships.specs.Entered.{most_figure, is_past, Figure, InBounds, room_refusal, figure_refusal, ship_refusal, entered}
use Rattle.ships.specs.Promises.{zeros, after_all}

pub record Grown (f : Fleet) : Type 0 where
  pub ships : f.ships ≤ 1000
  pub movements : f.movements ≤ 8192 * f.ships
  pub by6 : f.by6 ≤ f.ships
  pub by11 : f.by11 ≤ f.ships
  pub by12 : f.by12 ≤ f.ships
  pub by13 : f.by13 ≤ f.ships
  pub by14 : f.by14 ≤ f.ships
  pub added : Figure f.added
  pub removed : Figure f.removed

pub grown_zeros : Grown zeros
grown_zeros =
    record {
      ships = omega arith;
      movements = omega arith;
      by6 = omega arith;
      by11 = omega arith;
      by12 = omega arith;
      by13 = omega arith;
      by14 = omega arith;
      added = (0, refl, omega arith);
      removed = (0, refl, omega arith);
    }

at_most_one : (n : ℕ) (v : Voyage) → refused_by n v ≤ 1
at_most_one n v = go (eqb _ n)
  where
    go : (b : Bool) → cond b 1 0 ≤ 1
    go true = omega arith
    go false = omega arith

-- a figure that has grown to n, and is not past 10^18
still_inside : {z : ℤ} (n : ℕ) → z ≡ pos n → is_past z ≡ false → Figure z
still_inside n e p = (n, e, ltb-false most_figure n (rw e at p))

module _ (f : Fleet) (s : Ship) (grown : Grown f) (e : ship_refusal f s ≡ none) where
  grown_more : Grown (with_voyage f (voyage_of s))
  unfolding ship_refusal room_refusal figure_refusal whole_movements with_voyage voyage_of
  grown_more =
      let room = right-none _ _ e in
      let listed = right-none _ _ (right-none _ _ (right-none _ _ room)) in
      let ship1001 = ltb-false 1000 (f.ships + 1) (only_if_none _ _ (left-none _ _ room)) in
      let few = movements-within s.movements (left-none _ _ (left-none _ _ listed)) in
      let heavy = or_neither (is_past (with_voyage f (voyage_of s)).added) (is_past (with_voyage f (voyage_of s)).removed) (only_if_none _ _ (right-none _ _ listed)) in
      record {
        ships = omega (arith, ship1001);
        movements = omega (arith, grown.movements, few, (runs (net_of s.net) (movements_of s.movements) (net_of s.net).start).part);
        by6 = omega (arith, grown.by6, at_most_one 6 (voyage_of s));
        by11 = omega (arith, grown.by11, at_most_one 11 (voyage_of s));
        by12 = omega (arith, grown.by12, at_most_one 12 (voyage_of s));
        by13 = omega (arith, grown.by13, at_most_one 13 (voyage_of s));
        by14 = omega (arith, grown.by14, at_most_one 14 (voyage_of s));
        added = still_inside (grown.added.0 + ship_added s) (rw grown.added.1 (ap pos (omega arith))) heavy.0;
        removed = still_inside (grown.removed.0 + ship_removed s) (rw grown.removed.1 (ap pos (omega arith))) heavy.1;
      }

grown_entered : (f : Fleet) (s : Ship) → Grown f → Grown (entered f s).fleet
unfolding entered
grown_entered f s grown = go (ship_refusal f s) refl
  where
    go : (o : Option Refusal) → ship_refusal f s ≡ o → Grown (entered f s).fleet
    go none e = rw e (grown_more f s grown e)
    go (some r) e = rw e grown

pub grown_after : (f : Fleet) (ships : List Ship) → Grown f → Grown (after_all f ships)
unfolding after_all
grown_after f [] grown = grown
grown_after f (s ∷ ships) grown = grown_after (entered f s).fleet ships (grown_entered f s grown)

pub grown_within : {f : Fleet} → Grown f → InBounds f
grown_within grown =
    record {
      ships = grown.ships;
      movements = omega (arith, grown.movements, grown.ships);
      by6 = omega (arith, grown.by6, grown.ships);
      by11 = omega (arith, grown.by11, grown.ships);
      by12 = omega (arith, grown.by12, grown.ships);
      by13 = omega (arith, grown.by13, grown.ships);
      by14 = omega (arith, grown.by14, grown.ships);
      added = grown.added;
      removed = grown.removed;
    }
