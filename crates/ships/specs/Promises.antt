-- What is promised of a fleet statement. The terms stand in proofs/Totals.antt.
use Rattle.std.specs.Prelude.{◌≤◌, ◌≡◌, List, [], ◌∷◌, length, ℤ, pos, ◌+ℤ◌, ◌-ℤ◌}
use Rattle.std.proofs.Math.Option.{Option, none, some}
use Rattle.model.specs.declared.Refusal.{Refusal}
use Rattle.ships.specs.declared.Fleet.{Fleet}
use Rattle.ships.specs.Ships.{Ship, start_figure, last_figure, totals}
use Rattle.ships.specs.Entered.{InBounds, ship_refusal, entered}

-- "a record of zeros"
abbrev pub zeros : Fleet
zeros = record { ships = 0; movements = 0; by6 = 0; by11 = 0; by12 = 0; by13 = 0; by14 = 0; added = pos 0; removed = pos 0 }

-- "with each ship given the record as the one before left it"
unfoldable pub after_all : Fleet → List Ship → Fleet
after_all f [] = f
after_all f (s ∷ ships) = after_all (entered f s).fleet ships

-- "the ships counted": those that were not refused
abbrev pub keeping : Option Refusal → Ship → List Ship → List Ship
keeping none s ships = s ∷ ships
keeping (some r) s ships = ships

unfoldable pub counted : Fleet → List Ship → List Ship
counted f [] = []
counted f (s ∷ ships) = keeping (ship_refusal f s) s (counted (entered f s).fleet ships)

-- f of each ship, added up
unfoldable pub sum_of : (Ship → ℤ) → List Ship → ℤ
sum_of f [] = pos 0
sum_of f (s ∷ ships) = f s +ℤ sum_of f ships

-- 1. From a record of zeros, for any list of ships.
pub record Stated (ships : List Ship) : Type 0 where
  -- "each total defined from the lists given"
  pub totalled : after_all zeros ships ≡ totals (counted zeros ships)
  -- "the starting figures of the ships counted plus added less removed equal their last figures"
  pub balances : sum_of start_figure (counted zeros ships) +ℤ ((after_all zeros ships).added -ℤ (after_all zeros ships).removed) ≡ sum_of last_figure (counted zeros ships)
  -- "At most 1,000 ships"
  pub few : length (counted zeros ships) ≤ 1000
  -- no record leaves its bounds, so that no ship finds one that 25 refuses
  pub within_bounds : InBounds (after_all zeros ships)

abbrev pub FleetStatement : Type 0
FleetStatement = (ships : List Ship) → Stated ships

-- 2. "a ship refused by any number below leaves the record as found"
abbrev pub RefusedShip : Type 0
RefusedShip = (f : Fleet) (s : Ship) (r : Refusal) → ship_refusal f s ≡ some r → (entered f s).fleet ≡ f
