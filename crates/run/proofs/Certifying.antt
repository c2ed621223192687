-- A certificate's answer from that of its run, and from the marking that the run left.
use Prim.Native.Nat.{ℕ}
use mathlib.Core.Path.{◌≡◌, sym, ◌∙◌, ap}
use mathlib.Core.List.{List}
use Rattle.model.specs.declared.Mode.{Mode}
use Rattle.model.specs.declared.Refusal.{Refusal}
use Rattle.model.specs.Refusals.{Answer}
use Rattle.std.specs.Prelude.{Ok, Err}
use Rattle.model.specs.First.{first}
use Rattle.model.specs.Refusals.{answer}
use Rattle.model.specs.Nets.{PNet, pairs}
use Rattle.movement.specs.Runs.{run, elsewhere, ends_at}
use Rattle.model.proofs.Refusals.{answer-stops, answer-goes-on}
use Rattle.run.specs.declared.Ran.{Ran}
use Rattle.run.specs.Parts.{Reports}

module _ (net : PNet) (ts : List Mode) (claim : List ℕ) {m : List ℕ} {arcs : ℕ} {told : Ran} {left : List ℕ} (begins : m ≡ net.start)
    (reports : Reports (run net ts m) arcs told left) where
  told_is : told.answer ≡ answer (run net ts net.start).refusal
  told_is = ap (λ x. x.answer) reports.tells ∙ ap (λ m. answer (run net ts m).refusal) begins

  pub ends-stopped : {b : Answer} {r : Refusal} → told.answer ≡ Err r → b ≡ Err r → b ≡ answer (ends_at net ts claim)
  unfolding ends_at
  ends-stopped h q = q ∙ sym h ∙ answer-stops _ _ told_is h

  pub ends-compared : {a : Answer} {n : ℕ} → told.answer ≡ Ok tt → n ≡ pairs net → a ≡ answer (first n (elsewhere left claim)) → a ≡ answer (ends_at net ts claim)
  unfolding ends_at
  ends-compared h size e =
      let last : left ≡ (run net ts net.start).marking = reports.leaves ∙ ap (λ m. (run net ts m).marking) begins in
      answer-goes-on _ _ told_is h (rw (last, size) at e)
