-- An accepted audit does not find none where a pair is out of step.
use mathlib.Core.Path.{◌≡◌, refl, sym, ◌∙◌, ap}
use mathlib.Core.Logic.{⊎_elim}
use mathlib.Core.Option.{Option, none, some}
use Rattle.model.specs.declared.Refusal.{Refusal}
use Rattle.both_forms.specs.Audit.{Finding, audited}
use Rattle.sheets.specs.Decoded.{net_of}
use Rattle.complement.specs.audit.Audits.{finds, told, auditing_refusal}
use Rattle.complement.proofs.audit.Promises.{says-audited}
use Rattle.sentences.specs.Frauds.{AlwaysInStep}
use Rattle.sentences.proofs.Accepting.{number-none}

audit-refused : (o : Option Refusal) (f : Option Finding) → (told (finds o f)).carried.number ≡ 0 → o ≡ none
unfolding finds
audit-refused none f e = refl
audit-refused (some r) f e = number-none (some r) e

pub always_in_step : AlwaysInStep
always_in_step net marking beside p h out o a n e =
    let q = audit-refused (auditing_refusal net marking beside) (audited (net_of net) marking beside) (sym (ap (λ o. (told o).carried.number) a) ∙ n) in
    let c = (says-audited net marking beside q).nothing.0 (ap (λ o. (told o).value) (sym a ∙ e)) in
    ⊎_elim (λ d. d (sym (c.equal p h))) (λ s. s.2 (c.add_up p s.0 h s.1)) out
