-- What is promised of an audit, over the bytes of a net sheet.
use Rattle.std.specs.Prelude.{ℕ, ◌≡◌, List, ◌↔◌}
use Rattle.std.proofs.Math.Option.{none, some}
use Rattle.model.specs.First.{Lowest}
use Rattle.model.specs.Nets.{pairs, pair_no}
use Rattle.second_form.specs.Complement.{Corresponds}
use Rattle.both_forms.specs.Audit.{excess, OutOfStep}
use Rattle.sheets.specs.Decoded.{net_of}
use Rattle.complement.specs.audit.Audits.{told, auditing_refusal, audited_of}

-- None is found exactly when the markings correspond; what is found is the lowest pair out of step, with its excess.
pub record AuditedIs (net marking beside : List ℕ) : Type 0 where
  pub nothing : ((told (audited_of net marking beside)).value ≡ some none) ↔ Corresponds (net_of net) marking beside
  pub at : (p : ℕ)
      → ((told (audited_of net marking beside)).value ≡ some (some (record { pair = pair_no p; excess = excess (net_of net) marking beside p })))
      ↔ Lowest (pairs (net_of net)) (OutOfStep (net_of net) marking beside) p

abbrev pub SaysAudited : Type 0
SaysAudited = (net marking beside : List ℕ) → auditing_refusal net marking beside ≡ none → AuditedIs net marking beside
