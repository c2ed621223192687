-- The fleet statement (document 02, P13) beside the ships' own calls: each total is made of what run, figure and change say of the ships counted.
use Rattle.model.specs.declared.Refusal.{Refusal}
use Rattle.std.specs.Prelude.{ℕ, ◌<◌, ◌≡◌, cond, eqb, ℤ, pos, ◌+ℤ◌, ◌-ℤ◌, length, get_or, Result}
use mathlib.Core.List.{List, map, Memᴰ}
use Rattle.model.specs.Refusals.{Answer}
use Rattle.model.specs.Refusals.{number}
use Rattle.model.specs.Replies.{yields}
use Rattle.model.specs.Lists.{table}
use Rattle.model.specs.Nets.{total, mode_no}
use Rattle.sheets.specs.Decoded.{net_of, movements_of}
use Rattle.run.specs.declared.Ran.{Ran}
use Rattle.run.specs.Allowed.{RunAllows}
use Rattle.statement.specs.weigh.Calls.{told}
use Rattle.statement.specs.weigh.Allowed.{FigureAllows, ChangeAllows}
use Rattle.ships.specs.declared.Fleet.{Fleet}
use Rattle.ships.specs.Ships.{Ship, gained, lost}
use Rattle.ships.specs.Promises.{zeros, sum_of}
use Rattle.promises.specs.FleetOfCalls.{Calls}

-- a ship's own numbers: movements accepted, the answer, the figures before and after, and the weight change of each accepted movement
pub record Own : Type 0 where
  pub accepted : ℕ
  pub answer : Answer
  pub first : ℤ
  pub last : ℤ
  pub change : ℕ → ℤ

-- its calls say them: a run from its first marking, the figure of that marking and of the one that the run leaves, the change of each movement
pub record Says (s : Ship) (own : Own) : Type 0 where
  pub runs : (o : Ran × List ℕ) → RunAllows s.net s.movements (net_of s.net).start o → (o.0.accepted ≡ own.accepted) × (o.0.answer ≡ own.answer)
  pub starts : (f : Result ℤ Refusal) → FigureAllows s.net s.weights (net_of s.net).start f → told f ≡ yields own.first
  pub ends : (o : Ran × List ℕ) → RunAllows s.net s.movements (net_of s.net).start o
      → (f : Result ℤ Refusal) → FigureAllows s.net s.weights o.1 f → told f ≡ yields own.last
  pub moves : (k : ℕ) → k < own.accepted
      → (f : Result ℤ Refusal) → ChangeAllows s.net s.weights (get_or (movements_of s.movements) k (mode_no 0)) f → told f ≡ yields (own.change k)

-- how many runs ended by that number
abbrev pub ended_by : ℕ → (Ship → Own) → List Ship → ℕ
ended_by n own ships = total (map (λ s. cond (eqb (number (own s).answer) n) 1 0) ships)

-- the sizes of a ship's weight changes, added up
abbrev pub sizes : (ℤ → ℕ) → Own → ℕ
sizes size own = total (table own.accepted (λ k. size (own.change k)))

pub record OwnRuns (counted : List Ship) (last : Fleet) : Type 0 where
  pub own : Ship → Own
  pub says : (s : Ship) → Memᴰ s counted → Says s (own s)
  pub ships : last.ships ≡ length counted
  pub movements : last.movements ≡ total (map (λ s. (own s).accepted) counted)
  pub by6 : last.by6 ≡ ended_by 6 own counted
  pub by11 : last.by11 ≡ ended_by 11 own counted
  pub by12 : last.by12 ≡ ended_by 12 own counted
  pub by13 : last.by13 ≡ ended_by 13 own counted
  pub by14 : last.by14 ≡ ended_by 14 own counted
  pub added : last.added ≡ pos (total (map (λ s. sizes gained (own s)) counted))
  pub removed : last.removed ≡ pos (total (map (λ s. sizes lost (own s)) counted))
  pub balances : sum_of (λ s. (own s).first) counted +ℤ (last.added -ℤ last.removed) ≡ sum_of (λ s. (own s).last) counted

-- from a record of zeros, each ship given the record as the one before left it
abbrev pub FleetOfRuns : Type 0
FleetOfRuns = (ships counted : List Ship) (last : Fleet) → Calls zeros ships counted last → OwnRuns counted last
