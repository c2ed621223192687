-- Document 02, P7, over bytes: a net sheet and the sheet that stripping writes of it, call by call.
use Rattle.model.specs.declared.Refusal.{Refusal}
use Rattle.std.specs.Prelude.{ℕ, ◌≤◌, ◌<◌, ◌≡◌, List, ◌++◌, ◌↔◌, ◌≢◌, length, take, drop, Result}
use Rattle.std.proofs.Math.Option.{none}
use Rattle.model.specs.declared.Pair.{Pair}
use Rattle.model.specs.declared.Mode.{Mode}
use Rattle.model.specs.Refusals.{Answer}
use Rattle.model.specs.Refusals.{answer, number}
use Rattle.model.specs.Replies.{yields}
use Rattle.model.specs.Nets.{pairs, modes, K, count}
use Rattle.model.specs.Markings.{marking_refusal}
use Rattle.heads.specs.Version.{version_of}
use Rattle.sheets.specs.lists.Weights.{weights_refusal}
use Rattle.sheets.specs.Whole.{whole_net, rest}
use Rattle.sheets.specs.Decoded.{net_of, movements_of}
use Rattle.sheets.specs.Emitted.{told}
use Rattle.fire.specs.Allowed.{BeginAllows, TestAllows, FireAllows}
use Rattle.run.specs.Allowed.{RunAllows, CertifyAllows}
use Rattle.damaged.specs.Damaged.{modes_in}
use Rattle.run.specs.salvage.Allowed.{SalvageAllows}
use Rattle.fire.specs.step.Calls.{step_modes}
use Rattle.fire.specs.step.Allowed.{TestStepAllows, FireStepAllows}
use Rattle.statement.specs.weigh.Allowed.{FigureAllows, ChangeAllows}
use Rattle.ships.specs.declared.Fleet.{Fleet}
use Rattle.statement.specs.fleet.Allowed.{AddShipAllows}
use Rattle.opened.specs.dead.Allowed.{IsDeadAllows, FirstDeadAllows}
use Rattle.statement.specs.Allowed.{StatementAllows}
use Rattle.bare.specs.Strip.{new_mode, bound_of}
use Rattle.bare.specs.Promises.{Old}
use Rattle.convert.specs.strip.Stripped.{stripped_net}
use Rattle.convert.specs.strip.Allowed.{StripAllows}
use Rattle.promises.specs.EqualNets.{Within, Bytes}

-- "at every marking within capacity exactly one of the new modes is enabled, .. it leaves 0 at that pair, and .. every other pair stays the same": test accepts
-- of new modes 0 to k the one that the count numbers, and fire leaves the pair bare
pub record BareCalls (net sheet : List ℕ) (p : Pair) (k : ℕ) : Type 0 where
  pub test : (m : List ℕ) → marking_refusal (net_of net) m ≡ none → (n : ℕ) → n ≤ k
      → (told : Answer) → TestAllows sheet m (new_mode (net_of net) n) told → (number told ≡ 0) ↔ (n ≡ count m p.0)
  pub fire : (m : List ℕ) → marking_refusal (net_of net) m ≡ none
      → (o : Answer × List ℕ) → FireAllows sheet m (new_mode (net_of net) (count m p.0)) o
      → (number o.0 ≡ 0) × (count o.1 p.0 ≡ 0) × ((q : ℕ) → q ≢ p.0 → count o.1 q ≡ count m q)

-- "Old modes keep their numbers and behaviour.": a field for each call that is given a mode or a list of modes, and for begin, figure and first dead, which are
-- given none. The others are of the whole net, and may differ: a size, an exclusion, an audit, and what a sheet or a text is written of.
pub record OldCalls (net sheet : List ℕ) : Type 0 where
  pub begin : (m : List ℕ) → Within (BeginAllows net m) (BeginAllows sheet m)
  pub test : (m : List ℕ) (t : Mode) → t.0 < modes (net_of net) → Within (TestAllows net m t) (TestAllows sheet m t)
  pub fire : (m : List ℕ) (t : Mode) → t.0 < modes (net_of net) → Within (FireAllows net m t) (FireAllows sheet m t)
  pub test_step : (m ts : List ℕ) → Old (net_of net) (step_modes ts) → Within (TestStepAllows net m ts) (TestStepAllows sheet m ts)
  pub fire_step : (m ts : List ℕ) → Old (net_of net) (step_modes ts) → Within (FireStepAllows net m ts) (FireStepAllows sheet m ts)
  pub run : (movements m : List ℕ) → Old (net_of net) (movements_of movements) → Within (RunAllows net movements m) (RunAllows sheet movements m)
  pub certify : (movements claim : List ℕ) → Old (net_of net) (movements_of movements) → Within (CertifyAllows net movements claim) (CertifyAllows sheet movements claim)
  -- of the damaged bytes the modes that are considered
  pub salvage : (damaged out : List ℕ) → Old (net_of net) (modes_in damaged) → Within (SalvageAllows net damaged out) (SalvageAllows sheet damaged out)
  pub figure : (weights m : List ℕ) → Within (FigureAllows net weights m) (FigureAllows sheet weights m)
  pub change : (weights : List ℕ) (t : Mode) → t.0 < modes (net_of net) → Within (ChangeAllows net weights t) (ChangeAllows sheet weights t)
  pub add_ship : (found : Fleet) (weights movements : List ℕ) → Old (net_of net) (movements_of movements)
      → Within (AddShipAllows found net weights movements) (AddShipAllows found sheet weights movements)
  pub is_dead : (t : Mode) → t.0 < modes (net_of net) → Within (IsDeadAllows net t) (IsDeadAllows sheet t)
  pub first_dead : Within (FirstDeadAllows net) (FirstDeadAllows sheet)
  -- `replay`, where the third sheet lists old modes and neither input is long
  pub statement : (more out : List ℕ) → Bytes net → length (net ++ more) ≤ 65536 → length (sheet ++ more) ≤ 65536
      → Old (net_of net) (movements_of (rest (answer (weights_refusal (pairs (net_of net)) more)) more))
      → Within (StatementAllows (net ++ more) out) (StatementAllows (sheet ++ more) out)

-- the sheet as written, the first n bytes of the output slice, and what is left after it
pub record StripWritten (net : List ℕ) (p : Pair) (out left : List ℕ) (n : ℕ) : Type 0 where
  pub untouched : drop n left ≡ drop n out
  -- "writes the version and rule it was given" (document 02, P9)
  pub version : version_of (take n left) ≡ version_of net
  pub rule : (net_of (take n left)).rule ≡ (net_of net).rule
  pub accepted : whole_net (take n left) ≡ none
  pub same : net_of (take n left) ≡ stripped_net net p
  pub bare_calls : BareCalls net (take n left) p (bound_of (K (net_of net) p.0))
  pub old_calls : OldCalls net (take n left)

abbrev pub Stripping : Type 0
Stripping = (net : List ℕ) (p : Pair) (out : List ℕ) (o : Result ℕ Refusal × List ℕ) (n : ℕ) → StripAllows net p out o → told o.0 ≡ yields n
    → StripWritten net p out o.1 n
