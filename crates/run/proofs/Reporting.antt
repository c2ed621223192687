-- What a run reports: a run refused before its first movement has accepted 0, visited no arc, and leaves the marking as it was.
use Prim.Native.Nat.{ℕ}
use mathlib.Core.Path.{◌≡◌, refl, sym, ◌∙◌, ap, subst⁻¹}
use native.Mathlib.Omega.{arith}
use mathlib.Core.List.{List}
use mathlib.Core.Option.{Option, none, some}
use Rattle.model.specs.declared.Refusal.{Refusal}
use Rattle.model.specs.Refusals.{Answer}
use Rattle.std.specs.Prelude.{Result, Ok, Err}
use Rattle.model.specs.First.{◌▸◌}
use Rattle.model.specs.Refusals.{answer}
use Rattle.movement.specs.Runs.{Outcome, go_on, run}
use Rattle.both_forms.specs.Visits.{visited}
use Rattle.model.proofs.First.{none_then, some_then}
use Rattle.model.proofs.Refusals.{answer-refused}
use Rattle.sheets.specs.Decoded.{net_of, movements_of}
use Rattle.run.specs.declared.Ran.{Ran}
use Rattle.run.specs.Calls.{before_run, run_of, unless_refused, visited_by, ran_of}
use Rattle.run.specs.Parts.{RunTells, Reports, Begins}
use Rattle.run.proofs.Running.{told}

pub run-tells : {o : Outcome} {arcs : ℕ} {told : Ran} {left : List ℕ} → Reports o arcs told left → RunTells o told.accepted told.answer
run-tells r = record { accepted = ap (λ t. t.accepted) r.tells; answers = ap (λ t. t.answer) r.tells }

-- what is told of a run that is refused by o before its first movement, or has the outcome `next`, and what it leaves
abbrev Told : Option Refusal → List ℕ → Outcome → ℕ → Ran → List ℕ → Type 0
Told o m next arcs x left = (x ≡ ran_of (go_on o 0 m next) (unless_refused o arcs)) × (left ≡ (go_on o 0 m next).marking)

module _ {m : List ℕ} {next : Outcome} {arcs : ℕ} where
  -- what is refused before a run: the first of the tests, or one after it
  pub begins-stops : {b : Result Ran Refusal} {r : Refusal} (o p : Option Refusal) → o ≡ some r → b ≡ Err r → Begins (o ▸ p) m next arcs b m
  begins-stops {b} o p e h = subst⁻¹ (λ (q : Option Refusal). Begins q m next arcs b m) (some_then p e) (record { gives = h; leaves = refl })

  module _ {b : Result Ran Refusal} {left : List ℕ} where
    pub begins-after : (o p : Option Refusal) → o ≡ none → Begins p m next arcs b left → Begins (o ▸ p) m next arcs b left
    begins-after o p e l = subst⁻¹ (λ (q : Option Refusal). Begins q m next arcs b left) (none_then e refl) l

  pub begins-refused : {b : Result Ran Refusal} {r : Refusal} (o : Option Refusal) → o ≡ some r → b ≡ Err r → Begins o m next arcs b m
  begins-refused {b} o e h = subst⁻¹ (λ (q : Option Refusal). Begins q m next arcs b m) e (record { gives = h; leaves = refl })

  pub begins-run : {x : Ran} {left : List ℕ} (o : Option Refusal) → o ≡ none → Reports next arcs x left → Begins o m next arcs (Ok x) left
  begins-run {x} {left} o e r = subst⁻¹ (λ (o : Option Refusal). Begins o m next arcs (Ok x) left) e (record { gives = ap Ok r.tells; leaves = r.leaves })

  told-run : {x : Ran} {left : List ℕ} (o : Option Refusal) → Begins o m next arcs (Ok x) left → Told o m next arcs x left
  told-run none b = (let e = b.gives in cc, b.leaves)
  told-run (some r) b = let e = b.gives in let z : ◌≡◌ {A = ℕ} 0 1 = cc in absurd (omega arith)

  told-refused : {r : Refusal} {left : List ℕ} (o : Option Refusal) → Begins o m next arcs (Err r) left → Told o m next arcs (told 0 0 (Err r)) left
  told-refused none b = let e = b.gives in let z : ◌≡◌ {A = ℕ} 0 1 = cc in absurd (omega arith)
  told-refused {r} (some q) b = let e = b.gives in let s : r ≡ q = cc in (ap (λ r. told 0 0 (Err r)) s, b.leaves)

module _ (net movements marking : List ℕ) {left : List ℕ} where
  pub run-is : {x : Ran}
      → Begins (before_run net movements marking) marking (run (net_of net) (movements_of movements) marking) (visited (net_of net) (movements_of movements) marking) (Ok x) left
      → (x ≡ ran_of (run_of net movements marking) (visited_by net movements marking)) × (left ≡ (run_of net movements marking).marking)
  unfolding run_of visited_by
  run-is b = told-run (before_run net movements marking) b

  pub refused-is : {r : Refusal}
      → Begins (before_run net movements marking) marking (run (net_of net) (movements_of movements) marking) (visited (net_of net) (movements_of movements) marking) (Err r) left
      → (told 0 0 (Err r) ≡ ran_of (run_of net movements marking) (visited_by net movements marking)) × (left ≡ (run_of net movements marking).marking)
  unfolding run_of visited_by
  refused-is b = told-refused (before_run net movements marking) b
