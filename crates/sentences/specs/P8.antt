-- Document 02, P8. Proof that a state can't happen.
use Rattle.model.specs.declared.Refusal.{Refusal}
use Rattle.std.specs.Prelude.{ℕ, ◌≡◌, List, ◌↔◌, ◌≢◌, Result, ℤ}
use Rattle.model.specs.declared.Mode.{Mode}
use Rattle.model.specs.Refusals.{Answer}
use Rattle.model.specs.Refusals.{number}
use Rattle.movement.specs.Promises.{Leads}
use Rattle.movement.specs.Exclusion.{Balanced}
use Rattle.sheets.specs.Decoded.{net_of, weights_of}
use Rattle.run.specs.Allowed.{CertifyAllows}
use Rattle.statement.specs.weigh.Allowed.{FigureAllows}
use Rattle.statement.specs.exclude.Allowed.{ExcludeAllows}
use Rattle.statement.specs.exclude.Promises.{Excluded}
use Rattle.sentences.specs.Calls.{Public}
use Rattle.sentences.specs.Outcomes.{Accepts}
use Rattle.sentences.specs.CallTables.{HasTable}

pub record P8 : Type 0 where
  -- "Accept it exactly when the weight change of every mode is 0 and the figure of the claimed marking differs from that of the first marking."
  pub exactly : (net weights claim : List ℕ) (a : Answer) → ExcludeAllows net weights claim a → (number a ≡ 0) ↔ Excluded net weights claim
  -- "Prove that no list of movements leads to an accepted claim": of any length, from the first marking; and no movement sheet certifies it
  pub no_list_leads : (net weights claim : List ℕ) → Accepts Public.exclude (net, weights, claim) → (ts : List Mode)
      → ¬ Leads (net_of net) ts (net_of net).start claim
  pub no_sheet_certifies : (net weights claim : List ℕ) → Accepts Public.exclude (net, weights, claim)
      → (movements : List ℕ) (a : Answer) → CertifyAllows net movements claim a → number a ≢ 0
  -- "and that for such weights the figure is constant over any list.": the figure call answers alike before and after
  pub figure_constant : (net weights marking after : List ℕ) (ts : List Mode) → Balanced (net_of net) (weights_of weights)
      → Accepts Public.figure (net, weights, marking) → Leads (net_of net) ts marking after
      → (f f' : Result ℤ Refusal) → FigureAllows net weights marking f → FigureAllows net weights after f' → f' ≡ f
  -- "Claims above capacity are refused by 9.": see `marking_table`.
  -- "Refusals: net, weights, marking, then 21 with the first unbalanced mode, then 22 when the figures are equal."
  pub exclude : HasTable Public.exclude
