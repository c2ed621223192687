-- Document 02, P7. Stripping an area bare.
use Rattle.std.specs.Prelude.{ℕ, ◌≤◌, ◌<◌, ◌≡◌, List, ◌++◌, ◌↔◌, ◌≢◌, length}
use Rattle.std.proofs.Math.Option.{none}
use Rattle.model.specs.declared.Pair.{Pair}
use Rattle.model.specs.declared.Mode.{Mode}
use Rattle.model.specs.Refusals.{Answer}
use Rattle.model.specs.Refusals.{answer, number}
use Rattle.model.specs.Nets.{pairs, modes, K, count}
use Rattle.model.specs.Markings.{Marking}
use Rattle.heads.specs.Version.{version_of}
use Rattle.sheets.specs.lists.Weights.{weights_refusal}
use Rattle.sheets.specs.Whole.{whole_net, rest}
use Rattle.sheets.specs.Decoded.{net_of, movements_of}
use Rattle.fire.specs.Allowed.{TestAllows, FireAllows}
use Rattle.damaged.specs.Damaged.{modes_in}
use Rattle.fire.specs.step.Calls.{step_modes}
use Rattle.ships.specs.declared.Fleet.{Fleet}
use Rattle.bare.specs.Strip.{new_mode, bound_of}
use Rattle.bare.specs.Promises.{Old}
use Rattle.convert.specs.strip.Stripped.{stripped_net}
use Rattle.convert.specs.strip.Allowed.{StripAllows}
use Rattle.sentences.specs.Bytes.{Bytes}
use Rattle.sentences.specs.Calls.{Public, call}
use Rattle.sentences.specs.Wrote.{WritesLength, StripWrote}
use Rattle.sentences.specs.P9.{Within}
use Rattle.sentences.specs.CallTables.{HasTable}

-- "at every marking within capacity exactly one of the new modes is enabled, .. it leaves 0 at that pair, and .. every other pair stays the same": test accepts
-- of new modes 0 to k the one that the count numbers, and fire leaves the pair bare
pub record BareCalls (net sheet : List ℕ) (p : Pair) (k : ℕ) : Type 0 where
  pub test : (m : List ℕ) → Marking (net_of net) m → (n : ℕ) → n ≤ k
      → (told : Answer) → TestAllows sheet m (new_mode (net_of net) n) told → (number told ≡ 0) ↔ (n ≡ count m p.0)
  pub fire : (m : List ℕ) → Marking (net_of net) m
      → (o : Answer × List ℕ) → FireAllows sheet m (new_mode (net_of net) (count m p.0)) o
      → (number o.0 ≡ 0) × (count o.1 p.0 ≡ 0) × ((q : ℕ) → q ≢ p.0 → count o.1 q ≡ count m q)

-- "Old modes keep their numbers and behaviour.": a field for each call that is given a mode or a list of modes, and for begin, figure and first dead, which are
-- given none. The others are of the whole net, and may differ: a size, an exclusion, an audit, and what a sheet or a text is written of.
pub record OldCalls (net sheet : List ℕ) : Type 0 where
  pub begin : (m : List ℕ) → Within (call Public.begin) (net, m) (sheet, m)
  pub test : (m : List ℕ) (t : Mode) → t.0 < modes (net_of net) → Within (call Public.test) (net, m, t) (sheet, m, t)
  pub fire : (m : List ℕ) (t : Mode) → t.0 < modes (net_of net) → Within (call Public.fire) (net, m, t) (sheet, m, t)
  pub test_step : (m ts : List ℕ) → Old (net_of net) (step_modes ts) → Within (call Public.test_step) (net, m, ts) (sheet, m, ts)
  pub fire_step : (m ts : List ℕ) → Old (net_of net) (step_modes ts) → Within (call Public.fire_step) (net, m, ts) (sheet, m, ts)
  pub run : (movements m : List ℕ) → Old (net_of net) (movements_of movements) → Within (call Public.run) (net, movements, m) (sheet, movements, m)
  pub certify : (movements m : List ℕ) → Old (net_of net) (movements_of movements) → Within (call Public.certify) (net, movements, m) (sheet, movements, m)
  -- of the damaged bytes the modes that are considered
  pub salvage : (damaged out : List ℕ) → Old (net_of net) (modes_in damaged) → Within (call Public.salvage) (net, damaged, out) (sheet, damaged, out)
  pub figure : (weights m : List ℕ) → Within (call Public.figure) (net, weights, m) (sheet, weights, m)
  pub change : (weights : List ℕ) (t : Mode) → t.0 < modes (net_of net) → Within (call Public.change) (net, weights, t) (sheet, weights, t)
  pub add_ship : (found : Fleet) (weights movements : List ℕ) → Old (net_of net) (movements_of movements)
      → Within (call Public.fleet_add) (found, net, weights, movements) (found, sheet, weights, movements)
  pub is_dead : (t : Mode) → t.0 < modes (net_of net) → Within (call Public.is_dead) (net, t) (sheet, t)
  pub first_dead : Within (call Public.first_dead) net sheet
  -- `replay`, where the third sheet lists old modes and neither input is long
  pub statement : (more out : List ℕ) → Bytes net → length (net ++ more) ≤ 65536 → length (sheet ++ more) ≤ 65536
      → Old (net_of net) (movements_of (rest (answer (weights_refusal (pairs (net_of net)) more)) more))
      → Within (call Public.statement) (net ++ more, out) (sheet ++ more, out)

pub record Stripped (net : List ℕ) (p : Pair) (sheet : List ℕ) : Type 0 where
  -- a net sheet again, with the transition appended: "its mode n, for n from 0 to K, has Pre n and I n at the chosen pair"
  pub accepted : whole_net sheet ≡ none
  pub same : net_of sheet ≡ stripped_net net p
  -- "writes the version and rule it was given" (document 02, P9)
  pub version : version_of sheet ≡ version_of net
  pub rule : (net_of sheet).rule ≡ (net_of net).rule
  -- what new modes and old ones do
  pub bare_calls : BareCalls net sheet p (bound_of (K (net_of net) p.0))
  pub old_calls : OldCalls net sheet

pub record P7 : Type 0 where
  -- "Add a call that appends a transition to a net sheet: its mode n, for n from 0 to K, has Pre n and I n at the chosen pair."
  pub writes : (net : List ℕ) (p : Pair) → WritesLength (StripAllows net p)
  -- "Prove that at every marking within capacity exactly one of the new modes is enabled, that it leaves 0 at that pair, and that every other pair stays the same.
  -- Old modes keep their numbers and behaviour."
  pub stripped : (net : List ℕ) (p : Pair) (sheet : List ℕ) → StripWrote net p sheet → Stripped net p sheet
  -- "Refusals, in order: the net's, 6 for the pair, 15 for unbounded K, 10 where K is above 63, another limit is passed or the output is short."
  pub strip : HasTable Public.strip
