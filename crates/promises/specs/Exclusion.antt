-- Proof that a state can't happen, of the calls (document 02, P8): what an accepted exclusion shows.
use Rattle.std.specs.Prelude.{ℕ, ◌≡◌, List, ◌≢◌}
use Rattle.std.proofs.Math.Option.{none}
use Rattle.model.specs.declared.Mode.{Mode}
use Rattle.movement.specs.Promises.{Leads}
use Rattle.movement.specs.Exclusion.{Balanced}
use Rattle.sheets.specs.Decoded.{net_of, weights_of}
use Rattle.run.specs.Calls.{certify_refusal}
use Rattle.statement.specs.weigh.Calls.{figure_refusal, figure_of}
use Rattle.statement.specs.exclude.Calls.{exclude_refusal}

-- "no list of movements leads to an accepted claim": a list of any length, from the first marking
abbrev pub NoListLeads : Type 0
NoListLeads = (net weights claim : List ℕ) → exclude_refusal net weights claim ≡ none
    → (ts : List Mode) → ¬ Leads (net_of net) ts (net_of net).start claim

-- and no movement sheet certifies it
abbrev pub NoSheetCertifies : Type 0
NoSheetCertifies = (net weights claim : List ℕ) → exclude_refusal net weights claim ≡ none
    → (movements : List ℕ) → certify_refusal net movements claim ≢ none

-- "for such weights the figure is constant over any list": the figure call answers alike before and after
abbrev pub FigureCallConstant : Type 0
FigureCallConstant = (net weights : List ℕ) → Balanced (net_of net) (weights_of weights)
    → (ts : List Mode) (marking after : List ℕ) → figure_refusal net weights marking ≡ none → Leads (net_of net) ts marking after
    → figure_of net weights after ≡ figure_of net weights marking
