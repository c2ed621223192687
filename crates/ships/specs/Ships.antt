-- The fleet statement (document 02, P13): what a ship is and what its run gives, and what each total is of a list of ships.
use Rattle.std.specs.Prelude.{ℕ, suc, ◌+◌, cond, List, map, eqb, length, take, ℤ, pos, negsuc, ◌+ℤ◌}
use Rattle.model.specs.declared.Mode.{Mode}
use Rattle.model.specs.Refusals.{answer, number}
use Rattle.model.specs.Nets.{PNet, total}
use Rattle.movement.specs.Runs.{Outcome, run}
use Rattle.movement.specs.Figures.{figure, change}
use Rattle.sheets.specs.Decoded.{net_of, weights_of, movements_of}
use Rattle.ships.specs.declared.Fleet.{Fleet}
use Rattle.ships.specs.declared.Voyage.{Voyage}

-- "one ship after another: a net, weights and movements", as sheets
pub record Ship : Type 0 where
  pub net : List ℕ
  pub weights : List ℕ
  pub movements : List ℕ

abbrev pub ship : List ℕ → List ℕ → List ℕ → Ship
ship net weights movements = record { net = net; weights = weights; movements = movements }

-- "the sizes of positive and of negative weight changes"
abbrev pub gained : ℤ → ℕ
gained (pos n) = n
gained (negsuc n) = 0

abbrev pub lost : ℤ → ℕ
lost (pos n) = 0
lost (negsuc n) = suc n

-- "figure added and figure removed", over a list of movements: sums of those sizes
unfoldable pub added_by : PNet → List ℤ → List Mode → ℕ
added_by net weights ts = total (map (λ t. gained (change net weights t)) ts)

unfoldable pub removed_by : PNet → List ℤ → List Mode → ℕ
removed_by net weights ts = total (map (λ t. lost (change net weights t)) ts)

module _ (s : Ship) where
  -- its run from the first marking, which "stops at the first refused movement", and the movements accepted
  abbrev pub outcome : Outcome
  outcome = run (net_of s.net) (movements_of s.movements) (net_of s.net).start

  abbrev pub accepted : List Mode
  accepted = take outcome.accepted (movements_of s.movements)

  abbrev pub ship_added : ℕ
  ship_added = added_by (net_of s.net) (weights_of s.weights) accepted

  abbrev pub ship_removed : ℕ
  ship_removed = removed_by (net_of s.net) (weights_of s.weights) accepted

  -- the figure of its first marking, and of the marking that its run leaves
  abbrev pub start_figure : ℤ
  start_figure = figure (net_of s.net) (weights_of s.weights) (net_of s.net).start

  abbrev pub last_figure : ℤ
  last_figure = figure (net_of s.net) (weights_of s.weights) outcome.marking

  -- what the record takes from it
  unfoldable pub voyage_of : Voyage
  voyage_of = record { accepted = outcome.accepted; answer = answer outcome.refusal; added = pos ship_added; removed = pos ship_removed }

-- 1 where the run ends at a movement refused by that number
abbrev pub refused_by : ℕ → Voyage → ℕ
refused_by n v = cond (eqb (number v.answer) n) 1 0

-- "ships counted, movements accepted, refused movements by number, figure added and figure removed": of the ships of a list
unfoldable pub totals : List Ship → Fleet
totals ships =
    record {
      ships = length ships;
      movements = total (map (λ s. (voyage_of s).accepted) ships);
      by6 = total (map (λ s. refused_by 6 (voyage_of s)) ships);
      by11 = total (map (λ s. refused_by 11 (voyage_of s)) ships);
      by12 = total (map (λ s. refused_by 12 (voyage_of s)) ships);
      by13 = total (map (λ s. refused_by 13 (voyage_of s)) ships);
      by14 = total (map (λ s. refused_by 14 (voyage_of s)) ships);
      added = pos (total (map ship_added ships));
      removed = pos (total (map ship_removed ships));
    }

-- the record with one ship more
unfoldable pub with_voyage : Fleet → Voyage → Fleet
with_voyage f v =
    record {
      ships = f.ships + 1;
      movements = f.movements + v.accepted;
      by6 = f.by6 + refused_by 6 v;
      by11 = f.by11 + refused_by 11 v;
      by12 = f.by12 + refused_by 12 v;
      by13 = f.by13 + refused_by 13 v;
      by14 = f.by14 + refused_by 14 v;
      added = f.added +ℤ v.added;
      removed = f.removed +ℤ v.removed;
    }
