-- The contracts of the public calls, which the source states by these names: what each allows of its answer, and of the marking that a run leaves.
use Rattle.std.specs.Prelude.{ℕ, ◌≡◌, List}
use Rattle.model.specs.Refusals.{Answer}
use Rattle.model.specs.Refusals.{answer}
use Rattle.run.specs.declared.Ran.{Ran}
use Rattle.run.specs.Calls.{ran_of, run_of, visited_by, certify_refusal}

module _ (net movements : List ℕ) where
  abbrev pub RunAllows : List ℕ → Ran × List ℕ → Type 0
  RunAllows marking o = (o.0 ≡ ran_of (run_of net movements marking) (visited_by net movements marking)) × (o.1 ≡ (run_of net movements marking).marking)

  abbrev pub CertifyAllows : List ℕ → Answer → Type 0
  CertifyAllows claim told = told ≡ answer (certify_refusal net movements claim)
