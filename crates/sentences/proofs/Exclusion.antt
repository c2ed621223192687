-- What the model proves of a claim, over accepted sheets.
use Rattle.std.specs.Prelude.{Result, ℤ}
use Rattle.model.specs.declared.Refusal.{Refusal}
use Rattle.movement.specs.Exclusion.{Balanced}
use Rattle.movement.specs.Promises.{Leads}
use Rattle.model.specs.declared.Mode.{Mode}
use Prim.Native.Nat.{ℕ}
use mathlib.Core.List.{List}
use mathlib.Core.Path.{◌≡◌, sym, ◌∙◌, ap}
use mathlib.Core.Option.{none}
use Rattle.model.specs.Refusals.{number}
use Rattle.model.proofs.First.{left-none, right-none, none_then}
use Rattle.movement.proofs.Markings.{marking-test}
use Rattle.movement.proofs.Exclusion.{figure-constant, out-of-reach}
use Rattle.sheets.specs.Decoded.{net_of, weights_of, movements_of}
use Rattle.run.specs.Calls.{certify_refusal}
use Rattle.run.proofs.Running.{leads_keep}
use Rattle.run.proofs.Promises.{certified}
use Rattle.statement.specs.weigh.Calls.{figure_refusal, figure_of}
use Rattle.statement.specs.exclude.Calls.{exclude_refusal}
use Rattle.statement.proofs.exclude.Promises.{excluded-exactly}
use mathlib.Core.Logic.{◌↔◌, ◌≢◌}
use Rattle.model.specs.Refusals.{Answer}
use Rattle.run.specs.Allowed.{CertifyAllows}
use Rattle.statement.specs.weigh.Allowed.{FigureAllows}
use Rattle.statement.specs.exclude.Allowed.{ExcludeAllows}
use Rattle.statement.specs.exclude.Promises.{Excluded}
use Rattle.sentences.specs.Calls.{Public}
use Rattle.sentences.specs.Outcomes.{Accepts}
use Rattle.sentences.proofs.Outcomes.{accepted-none, none-accepted, accepts-exclude, accepts-figure}
use Rattle.sentences.specs.Frauds.{ExclusionFrauds}
use Rattle.sentences.proofs.Accepting.{number-none}

pub no_list_leads_lem : (net weights claim : List ℕ) → exclude_refusal net weights claim ≡ none
    → (ts : List Mode) → ¬ Leads (net_of net) ts (net_of net).start claim
unfolding exclude_refusal
no_list_leads_lem net weights claim e = out-of-reach (net_of net) (weights_of weights) claim (right-none _ _ (right-none _ _ (right-none _ _ e)))

pub no_sheet-certifies : (net weights claim : List ℕ) → exclude_refusal net weights claim ≡ none
    → (movements : List ℕ) → certify_refusal net movements claim ≢ none
no_sheet-certifies net weights claim e movements q =
    no_list_leads_lem net weights claim e (movements_of movements) ((certified net movements claim).0 q).2

pub figure_call_constant_lem : (net weights : List ℕ) → Balanced (net_of net) (weights_of weights)
    → (ts : List Mode) (marking after : List ℕ) → figure_refusal net weights marking ≡ none → Leads (net_of net) ts marking after
    → figure_of net weights after ≡ figure_of net weights marking
unfolding figure_refusal
figure_call_constant_lem net weights b ts marking after e l =
    let sheets = left-none _ _ (right-none _ _ e) in
    let marked = (marking-test (net_of net) marking).0 (right-none _ _ (right-none _ _ e)) in
    let kept : figure_refusal net weights after ≡ none = none_then (left-none _ _ e) (none_then sheets ((marking-test (net_of net) after).1 (leads_keep l marked))) in
    rw (kept, e, figure-constant (net_of net) (weights_of weights) ts marking after b l)

-- the same of outcomes
pub excludes-exactly : (net weights claim : List ℕ) (a : Answer) → ExcludeAllows net weights claim a → (number a ≡ 0) ↔ Excluded net weights claim
excludes-exactly net weights claim a h = (
  λ z. (excluded-exactly net weights claim).0 (accepted-none h z),
  λ x. none-accepted h ((excluded-exactly net weights claim).1 x),
)

pub claims-no-list : (net weights claim : List ℕ) → Accepts Public.exclude (net, weights, claim) → (ts : List Mode) → ¬ Leads (net_of net) ts (net_of net).start claim
claims-no-list net weights claim a = no_list_leads_lem net weights claim (accepts-exclude net weights claim a)

pub claims-no-sheet : (net weights claim : List ℕ) → Accepts Public.exclude (net, weights, claim)
    → (movements : List ℕ) (a : Answer) → CertifyAllows net movements claim a → number a ≢ 0
claims-no-sheet net weights claim x movements a h z = no_sheet-certifies net weights claim (accepts-exclude net weights claim x) movements (accepted-none h z)

pub figure-stays : (net weights marking after : List ℕ) (ts : List Mode) → Balanced (net_of net) (weights_of weights)
    → Accepts Public.figure (net, weights, marking) → Leads (net_of net) ts marking after
    → (f f' : Result ℤ Refusal) → FigureAllows net weights marking f → FigureAllows net weights after f' → f' ≡ f
figure-stays net weights marking after ts b a l f f' h h' =
    h' ∙ figure_call_constant_lem net weights b ts marking after (accepts-figure net weights marking a) l ∙ sym h

pub exclusion_frauds : ExclusionFrauds
exclusion_frauds =
    record {
      everything =
          λ net weights movements claim certified told c n a zero.
          no_sheet-certifies net weights claim (number-none (exclude_refusal net weights claim) (sym (ap number a) ∙ zero)) movements
          (number-none (certify_refusal net movements claim) (sym (ap number c) ∙ n));
      nothing = λ net weights claim x told a. ap number a ∙ rw ((excluded-exactly net weights claim).1 x);
    }
