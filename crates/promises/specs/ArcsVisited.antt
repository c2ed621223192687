-- The arcs that a run reports (document 02, P14), for every outcome that its contract allows, and of the call for C: "The number equals that definition, and is
-- at most the movements tried times the largest arc count of a mode." A run refused before its first movement has tried none, and reports 0.
use Rattle.std.specs.Prelude.{ℕ, ◌*◌, ◌≤◌, ◌≡◌, List, ◌≢◌, length}
use Rattle.std.proofs.Math.Option.{none}
use Rattle.both_forms.specs.Visits.{tried, visited, most_arcs}
use Rattle.sheets.specs.Decoded.{net_of, movements_of}
use Rattle.run.specs.declared.Ran.{Ran}
use Rattle.run.specs.Calls.{before_run}
use Rattle.run.specs.Allowed.{RunAllows}
use Rattle.answers.specs.declared.Tallied.{Tallied}
use Rattle.abi.specs.Allowed as c

pub record Reported (net movements marking : List ℕ) (arcs : ℕ) : Type 0 where
  pub equal : before_run net movements marking ≡ none → arcs ≡ visited (net_of net) (movements_of movements) marking
  pub nothing_tried : before_run net movements marking ≢ none → arcs ≡ 0
  pub bound : arcs ≤ length (tried (net_of net) (movements_of movements) marking) * most_arcs (net_of net)

pub record ArcsVisited : Type 0 where
  pub run : (net movements marking : List ℕ) (o : Ran × List ℕ) → RunAllows net movements marking o → Reported net movements marking o.0.visited
  pub for_c : (net movements marking : List ℕ) (o : Tallied × List ℕ) → c.RunAllows net movements marking o → Reported net movements marking o.0.arcs
