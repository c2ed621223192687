-- The totals after a list of ships, and that their figures add up.
use Prim.Native.Nat.{ℕ, ◌+◌}
use mathlib.Core.Path.{◌≡◌, refl, sym, ◌∙◌, ap, ap₂}
use mathlib.Core.List.{List, [], ◌∷◌, ◌++◌, map, append_assoc, append-nil}
use mathlib.Core.Option.{Option, none, some}
use lib.ListN.{length-append}
use lib.IntN.{ℤ, pos, negsuc, neg_ℤ, ◌+ℤ◌, ◌-ℤ◌, +ℤ_idl, +ℤ_idr, neg_ℤ-+ℤ}
use native.Mathlib.Omega.{arith}
use Rattle.model.specs.declared.Mode.{Mode}
use Rattle.model.specs.declared.Refusal.{Refusal}
use Rattle.model.specs.Nets.{PNet, total}
use Rattle.movement.specs.Figures.{change, changes}
use Rattle.movement.proofs.Figures.{figure-after}
use Rattle.movement.proofs.Integers.{exchange}
use Rattle.sheets.specs.Decoded.{net_of, weights_of, movements_of}
use Rattle.ships.specs.declared.Fleet.{Fleet}
use Rattle.ships.specs.Ships.{Ship, gained, lost, added_by, removed_by, accepted, ship_added, ship_removed, start_figure, last_figure, voyage_of, refused_by, totals, with_voyage}
use Rattle.ships.specs.Entered.{ship_refusal, entered}
use Rattle.ships.specs.Promises.{zeros, after_all, keeping, counted, sum_of, FleetStatement, RefusedShip}
use Rattle.ships.proofs.Growing.{Grown, grown_zeros, grown_after, grown_within}

total-last : {A : Type 0} (f : A → ℕ) (xs : List A) (x : A) → total (map f (xs ++ x ∷ [])) ≡ total (map f xs) + f x
total-last f [] x = omega arith
total-last f (y ∷ xs) x = omega (arith, total-last f xs x)

-- a record is its nine numbers
same_record : {f g : Fleet} → f.ships ≡ g.ships → f.movements ≡ g.movements → f.by6 ≡ g.by6 → f.by11 ≡ g.by11 → f.by12 ≡ g.by12 → f.by13 ≡ g.by13
    → f.by14 ≡ g.by14 → f.added ≡ g.added → f.removed ≡ g.removed → f ≡ g
same_record a b c d e f g h j i = record { ships = a i; movements = b i; by6 = c i; by11 = d i; by12 = e i; by13 = f i; by14 = g i; added = h i; removed = j i }

-- one ship more in the record is one ship more in the list
with_ship : (ships : List Ship) (s : Ship) → with_voyage (totals ships) (voyage_of s) ≡ totals (ships ++ s ∷ [])
unfolding with_voyage totals voyage_of
with_ship ships s =
    same_record
    (omega (arith, length-append ships (s ∷ [])))
    (omega (arith, total-last (λ s. (voyage_of s).accepted) ships s))
    (omega (arith, total-last (λ s. refused_by 6 (voyage_of s)) ships s))
    (omega (arith, total-last (λ s. refused_by 11 (voyage_of s)) ships s))
    (omega (arith, total-last (λ s. refused_by 12 (voyage_of s)) ships s))
    (omega (arith, total-last (λ s. refused_by 13 (voyage_of s)) ships s))
    (omega (arith, total-last (λ s. refused_by 14 (voyage_of s)) ships s))
    (ap pos (omega (arith, total-last ship_added ships s)))
    (ap pos (omega (arith, total-last ship_removed ships s)))

after-totals : (before ships : List Ship) → after_all (totals before) ships ≡ totals (before ++ counted (totals before) ships)
unfolding after_all counted entered
after-totals before [] = rw append-nil
after-totals before (s ∷ ships) = go (ship_refusal (totals before) s) refl (after-totals before ships) (after-totals (before ++ s ∷ []) ships)
  where
    go : (o : Option Refusal) → ship_refusal (totals before) s ≡ o → after_all (totals before) ships ≡ totals (before ++ counted (totals before) ships)
        → after_all (totals (before ++ s ∷ [])) ships ≡ totals ((before ++ s ∷ []) ++ counted (totals (before ++ s ∷ [])) ships)
        → after_all (entered (totals before) s).fleet ships
        ≡ totals (before ++ keeping (ship_refusal (totals before) s) s (counted (entered (totals before) s).fleet ships))
    go none e stays goes = rw (e, with_ship before s) (goes ∙ ap totals (append_assoc before (s ∷ []) _))
    go (some r) e stays goes = rw e stays

-- a change is what it adds less what it removes, and so are changes added up
split : (z : ℤ) → z ≡ pos (gained z) -ℤ pos (lost z)
split (pos n) = sym (+ℤ_idr (pos n))
split (negsuc n) = sym (+ℤ_idl (negsuc n))

differences : (a b c d : ℕ) → (pos a -ℤ pos b) +ℤ (pos c -ℤ pos d) ≡ pos (a + c) -ℤ pos (b + d)
differences a b c d = exchange (pos a) (neg_ℤ (pos b)) (pos c) (neg_ℤ (pos d)) ∙ ap (λ z. pos (a + c) +ℤ z) (sym (neg_ℤ-+ℤ (pos b) (pos d)))

changes-split : (net : PNet) (weights : List ℤ) (ts : List Mode) → changes net weights ts ≡ pos (added_by net weights ts) -ℤ pos (removed_by net weights ts)
unfolding changes added_by removed_by
changes-split net weights [] = refl
changes-split net weights (t ∷ ts) =
    ap₂ ◌+ℤ◌ (split (change net weights t)) (changes-split net weights ts)
    ∙ differences (gained (change net weights t)) (lost (change net weights t)) (added_by net weights ts) (removed_by net weights ts)

last-figure : (s : Ship) → last_figure s ≡ start_figure s +ℤ (pos (ship_added s) -ℤ pos (ship_removed s))
last-figure s =
    figure-after (net_of s.net) (weights_of s.weights) (movements_of s.movements) (net_of s.net).start
    ∙ ap (λ z. start_figure s +ℤ z) (changes-split (net_of s.net) (weights_of s.weights) (accepted s))

figures : (ships : List Ship) → sum_of last_figure ships ≡ sum_of start_figure ships +ℤ (pos (total (map ship_added ships)) -ℤ pos (total (map ship_removed ships)))
unfolding sum_of
figures [] = refl
figures (s ∷ ships) =
    let a = total (map ship_added ships) in
    let b = total (map ship_removed ships) in
    ap₂ ◌+ℤ◌ (last-figure s) (figures ships)
    ∙ exchange (start_figure s) (pos (ship_added s) -ℤ pos (ship_removed s)) (sum_of start_figure ships) (pos a -ℤ pos b)
    ∙ ap (λ z. (start_figure s +ℤ sum_of start_figure ships) +ℤ z) (differences (ship_added s) (ship_removed s) a b)

no_ships : zeros ≡ totals []
unfolding totals
no_ships = refl

pub fleet_statement_lem : FleetStatement
unfolding totals
fleet_statement_lem ships =
    let is : after_all zeros ships ≡ totals (counted zeros ships) = rw no_ships (after-totals [] ships) in
    let grown : Grown (after_all zeros ships) = grown_after zeros ships grown_zeros in
    record {
      totalled = is;
      balances = balance is;
      few = omega (arith, grown.ships, ap (λ (f : Fleet). f.ships) is);
      within_bounds = grown_within grown;
    }
  where
    balance : after_all zeros ships ≡ totals (counted zeros ships)
        → sum_of start_figure (counted zeros ships) +ℤ ((after_all zeros ships).added -ℤ (after_all zeros ships).removed) ≡ sum_of last_figure (counted zeros ships)
    balance e = rw e (sym (figures (counted zeros ships)))

pub refused-ship : RefusedShip
unfolding entered
refused-ship f s r e = rw e
