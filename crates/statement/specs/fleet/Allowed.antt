-- The contract of the public call, which the source states by this name: what it allows of its answer, and of the record that it leaves.
use Rattle.std.specs.Prelude.{ℕ, ◌≡◌, List}
use Rattle.model.specs.Refusals.{Answer}
use Rattle.ships.specs.declared.Fleet.{Fleet}
use Rattle.ships.specs.Ships.{ship}
use Rattle.ships.specs.Entered.{entered}

abbrev pub AddShipAllows : Fleet → List ℕ → List ℕ → List ℕ → Answer × Fleet → Type 0
AddShipAllows found net weights movements o =
    (o.0 ≡ (entered found (ship net weights movements)).answer) × (o.1 ≡ (entered found (ship net weights movements)).fleet)
