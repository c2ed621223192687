-- A run over a lent marking, and a certificate: what each answers, and what a run leaves in the marking.
use Rattle.std.specs.Prelude.{ℕ, List}
use Rattle.std.proofs.Math.Option.{Option, none, some}
use Rattle.model.specs.declared.Refusal.{Refusal}
use Rattle.model.specs.First.{◌▸◌}
use Rattle.model.specs.Markings.{marking_refusal}
use Rattle.movement.specs.Runs.{Outcome, go_on, run, certificate_refusal}
use Rattle.both_forms.specs.Visits.{visited}
use Rattle.model.specs.Refusals.{answer}
use Rattle.sheets.specs.Whole.{whole_net, whole_movements}
use Rattle.sheets.specs.Decoded.{net_of, movements_of}
use Rattle.run.specs.declared.Ran.{Ran}

-- run: "net, .. movements, then the marking", then movement by movement; a run refused before its first movement has accepted 0
unfoldable pub before_run : List ℕ → List ℕ → List ℕ → Option Refusal
before_run net movements marking = whole_net net ▸ whole_movements movements ▸ marking_refusal (net_of net) marking

unfoldable pub run_of : List ℕ → List ℕ → List ℕ → Outcome
run_of net movements marking = go_on (before_run net movements marking) 0 marking (run (net_of net) (movements_of movements) marking)

-- the arcs that a run visits (document 02, P14): a run refused before its first movement has tried none
abbrev pub unless_refused : Option Refusal → ℕ → ℕ
unless_refused none arcs = arcs
unless_refused (some r) arcs = 0

unfoldable pub visited_by : List ℕ → List ℕ → List ℕ → ℕ
visited_by net movements marking = unless_refused (before_run net movements marking) (visited (net_of net) (movements_of movements) marking)

-- what the caller is told of it, and of the arcs visited
abbrev pub ran_of : Outcome → ℕ → Ran
ran_of o arcs = record { accepted = o.accepted; visited = arcs; answer = answer o.refusal }

-- "Certificate: net, movements, 17 for the claim, the run (6, 11 to 14), 18."
unfoldable pub certify_refusal : List ℕ → List ℕ → List ℕ → Option Refusal
certify_refusal net movements claim = whole_net net ▸ whole_movements movements ▸ certificate_refusal (net_of net) (movements_of movements) claim
