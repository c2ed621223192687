-- The fleet statement of the calls (document 02, P13): "from a record of zeros and with each ship given the record as the one before left it".
use Rattle.std.specs.Prelude.{◌≤◌, ◌≡◌, List, [], ◌∷◌, ◌≢◌, ◌+ℤ◌, ◌-ℤ◌, length, ℤ}
use Rattle.model.specs.Refusals.{Answer}
use Rattle.model.specs.Refusals.{number}
use Rattle.ships.specs.declared.Fleet.{Fleet}
use Rattle.ships.specs.Ships.{Ship, start_figure, last_figure, totals}
use Rattle.ships.specs.Entered.{InBounds}
use Rattle.ships.specs.Promises.{zeros, sum_of}
use Rattle.statement.specs.fleet.Allowed.{AddShipAllows}

-- calls for the ships of a list, by outcomes that the contract allows: the record that the first is given, those of the ships that were counted, and the record
-- that the last leaves
pub data Calls : Fleet → List Ship → List Ship → Fleet → Type 0 where
  none : {f : Fleet} → Calls f [] [] f
  counts : {f last : Fleet} {s : Ship} {ships counted : List Ship} (o : Answer × Fleet) → AddShipAllows f s.net s.weights s.movements o
      → number o.0 ≡ 0 → Calls o.1 ships counted last → Calls f (s ∷ ships) (s ∷ counted) last
  refuses : {f last : Fleet} {s : Ship} {ships counted : List Ship} (o : Answer × Fleet) → AddShipAllows f s.net s.weights s.movements o
      → number o.0 ≢ 0 → Calls o.1 ships counted last → Calls f (s ∷ ships) counted last

pub record FleetStated (counted : List Ship) (last : Fleet) : Type 0 where
  -- "each total defined from the lists given"
  pub totalled : last ≡ totals counted
  -- "the starting figures of the ships counted plus added less removed equal their last figures"
  pub balances : sum_of start_figure counted +ℤ (last.added -ℤ last.removed) ≡ sum_of last_figure counted
  -- "At most 1,000 ships"
  pub few : length counted ≤ 1000
  -- what 25 refuses is never lent on
  pub within_bounds : InBounds last

abbrev pub FleetOfCalls : Type 0
FleetOfCalls = (ships counted : List Ship) (last : Fleet) → Calls zeros ships counted last → FleetStated counted last
