-- Document 02, P14. Bound and speed of a run.
use Rattle.std.specs.Prelude.{ℕ, ◌*◌, ◌≤◌, ◌≡◌, List, length}
use Rattle.both_forms.specs.Visits.{tried, visited, most_arcs}
use Rattle.sheets.specs.Decoded.{net_of, movements_of}
use Rattle.run.specs.declared.Ran.{Ran}
use Rattle.run.specs.Allowed.{RunAllows}
use Rattle.answers.specs.declared.Tallied.{Tallied}
use Rattle.sentences.specs.Calls.{Public, for_c}
use Rattle.sentences.specs.Outcomes.{Begins}

pub record Reported (net movements marking : List ℕ) (arcs : ℕ) : Type 0 where
  -- "The number equals that definition"; a run that does not begin has tried no movement
  pub equal : Begins net movements marking → arcs ≡ visited (net_of net) (movements_of movements) marking
  pub nothing : (¬ Begins net movements marking) → arcs ≡ 0
  -- "and is at most the movements tried times the largest arc count of a mode"
  pub bound : arcs ≤ length (tried (net_of net) (movements_of movements) marking) * most_arcs (net_of net)

pub record P14 : Type 0 where
  -- "Report how many arcs a run visits: each tried movement counts its mode's arcs once, a refused one included, and a missing mode counts 0. The number equals that
  -- definition, and is at most the movements tried times the largest arc count of a mode."
  pub run : (net movements marking left : List ℕ) (r : Ran) → RunAllows net movements marking (r, left) → Reported net movements marking r.visited
  pub run_for_c : (net movements marking left : List ℕ) (d : Tallied) → (for_c Public.run).Allows (net, movements, marking) d left
      → Reported net movements marking d.arcs
