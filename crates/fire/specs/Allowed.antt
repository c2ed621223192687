-- The contracts of the public calls, which the source states by these names: what each allows of its answer and of the marking that it leaves.
use Rattle.std.specs.Prelude.{ℕ, ◌≡◌, List}
use Rattle.model.specs.declared.Mode.{Mode}
use Rattle.model.specs.Refusals.{Answer}
use Rattle.model.specs.Refusals.{answer}
use Rattle.fire.specs.Calls.{begin_refusal, begun, test_refusal, fired_by}

module _ (net marking : List ℕ) where
  abbrev pub BeginAllows : Answer × List ℕ → Type 0
  BeginAllows o = (o.0 ≡ answer (begin_refusal net marking)) × (o.1 ≡ begun net marking)

  abbrev pub TestAllows : Mode → Answer → Type 0
  TestAllows t told = told ≡ answer (test_refusal net marking t)

  abbrev pub FireAllows : Mode → Answer × List ℕ → Type 0
  FireAllows t o = (o.0 ≡ answer (test_refusal net marking t)) × (o.1 ≡ fired_by net marking t)
