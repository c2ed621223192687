-- The contracts of the public calls, which the source states by these names: what each allows of its answer and of the marking that it leaves.
use Rattle.std.specs.Prelude.{ℕ, ◌≡◌, List}
use Rattle.model.specs.Refusals.{Answer}
use Rattle.model.specs.Refusals.{answer}
use Rattle.fire.specs.step.Calls.{test_step_refusal, stepped_by}

module _ (net marking modes : List ℕ) where
  abbrev pub TestStepAllows : Answer → Type 0
  TestStepAllows told = told ≡ answer (test_step_refusal net marking modes)

  abbrev pub FireStepAllows : Answer × List ℕ → Type 0
  FireStepAllows o = (o.0 ≡ answer (test_step_refusal net marking modes)) × (o.1 ≡ stepped_by net marking modes)
