-- What the model proves of a claim, over accepted sheets.
use mathlib.Core.Path.{◌≡◌, sym, ◌∙◌, ap}
use mathlib.Core.Option.{none}
use Rattle.model.specs.Refusals.{number}
use Rattle.model.proofs.First.{left-none, right-none, none_then}
use Rattle.movement.proofs.Markings.{marking-test}
use Rattle.movement.proofs.Exclusion.{figure-constant, out-of-reach}
use Rattle.sheets.specs.Decoded.{net_of, weights_of, movements_of}
use Rattle.run.specs.Calls.{certify_refusal}
use Rattle.run.proofs.Running.{leads_keep}
use Rattle.run.proofs.Promises.{certified}
use Rattle.statement.specs.weigh.Calls.{figure_refusal}
use Rattle.statement.specs.exclude.Calls.{exclude_refusal}
use Rattle.statement.proofs.exclude.Promises.{excluded-exactly}
use Rattle.promises.specs.Exclusion.{NoListLeads, NoSheetCertifies, FigureCallConstant}
use Rattle.promises.specs.Frauds.{ExclusionFrauds}
use Rattle.promises.proofs.Accepting.{number-none}

pub no_list_leads_lem : NoListLeads
unfolding exclude_refusal
no_list_leads_lem net weights claim e = out-of-reach (net_of net) (weights_of weights) claim (right-none _ _ (right-none _ _ (right-none _ _ e)))

pub no_sheet-certifies : NoSheetCertifies
no_sheet-certifies net weights claim e movements q =
    no_list_leads_lem net weights claim e (movements_of movements) ((certified net movements claim).0 q).2

pub figure_call_constant_lem : FigureCallConstant
unfolding figure_refusal
figure_call_constant_lem net weights b ts marking after e l =
    let sheets = left-none _ _ (right-none _ _ e) in
    let marked = (marking-test (net_of net) marking).0 (right-none _ _ (right-none _ _ e)) in
    let kept : figure_refusal net weights after ≡ none = none_then (left-none _ _ e) (none_then sheets ((marking-test (net_of net) after).1 (leads_keep l marked))) in
    rw (kept, e, figure-constant (net_of net) (weights_of weights) ts marking after b l)

pub exclusion_frauds : ExclusionFrauds
exclusion_frauds =
    record {
      everything =
          λ net weights movements claim certified told c n a zero.
          no_sheet-certifies net weights claim (number-none (exclude_refusal net weights claim) (sym (ap number a) ∙ zero)) movements
          (number-none (certify_refusal net movements claim) (sym (ap number c) ∙ n));
      nothing = λ net weights claim x told a. ap number a ∙ rw ((excluded-exactly net weights claim).1 x);
    }
