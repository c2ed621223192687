-- The contract of the public call, which the source states by this name.
use Rattle.std.specs.Prelude.{ℕ, ℤ, ◌≡◌, List, Option as Perhaps, Result}
use Rattle.model.specs.declared.Pair.{Pair}
use Rattle.model.specs.declared.Refusal.{Refusal}
use Rattle.complement.specs.audit.Audits.{audited_of}

abbrev pub AuditAllows : List ℕ → List ℕ → List ℕ → Result (Perhaps (Pair × ℤ)) Refusal → Type 0
AuditAllows net marking beside told = told ≡ audited_of net marking beside
