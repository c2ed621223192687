-- Of document 01's own example: what is accepted carries 0, and what is refused another amount.
use Rattle.run.specs.declared.salvage.Report.{Report}
use Rattle.std.specs.Prelude.{Result, Ok, Err}
use Prim.Native.Nat.{ℕ, ◌<◌}
use mathlib.Core.Path.{◌≡◌, refl, ◌∙◌, ap}
use mathlib.Core.List.{List, [], ◌∷◌}
use mathlib.Core.Option.{Option}
use native.Mathlib.Omega.{arith}
use Rattle.model.specs.declared.Mode.{Mode}
use Rattle.model.specs.declared.Refusal.{Refusal}
use Rattle.model.specs.Refusals.{Answer}
use Rattle.model.specs.Refusals.{answer, amount}
use Rattle.model.specs.Nets.{mode_no}
use Rattle.fire.specs.Allowed.{TestAllows, FireAllows}
use Rattle.fire.specs.step.Allowed.{TestStepAllows, FireStepAllows}
use Rattle.run.specs.Allowed.{RunAllows, CertifyAllows}
use Rattle.answers.specs.declared.Answered.{Answered}
use Rattle.run.specs.salvage.Salvaged as salvaging
use Rattle.run.specs.salvage.Allowed.{SalvageAllows}
use Rattle.answers.specs.declared.Tallied.{Tallied}
use Rattle.answers.specs.declared.Reported.{Reported}
use Rattle.answers.specs.Told.{reported}
use Rattle.abi.specs.Allowed as c
use Rattle.statement.specs.Example as sheets
use Rattle.promises.specs.OwnExample as own
use Rattle.promises.specs.ConstantAnswers.{Only, NotConstant, Varies}
use Rattle.promises.specs.ConstantAmounts.{stop_by, ConstantAmountsForC, ConstantAmounts}
use Rattle.promises.proofs.ConstantAnswers.{accepts_and_refuses}
use Rattle.promises.proofs.ConstantAnswersForC.{tells}
use Rattle.promises.proofs.OwnExample.{tests, lacks, steps, lacks-together, runs-whole, run_is, certifies, lacks-certified, salvages-whole, salvages-three}

module _ {I O : Type 0} (Allows : I → O → Type 0) (amount_of : O → ℕ) where
  varies : (n : ℕ) (i j : I) → 0 < n → Only Allows amount_of 0 i → Only Allows amount_of n j → Varies Allows amount_of
  varies n i j h here there = accepts_and_refuses _ _ i j here (λ o a e. omega (arith, there o a))

by : {o o' : Option Refusal} → o ≡ o' → (told : Answer) → told ≡ answer o → amount told ≡ amount (answer o')
by e told a = ap amount a ∙ ap (λ o. amount (answer o)) e

test-varies : Varies (λ (i : List ℕ × List ℕ × Mode). TestAllows i.0 i.1 i.2) amount
test-varies = varies _ _ 1 (own.net, 3 ∷ 0 ∷ [], mode_no 0) (own.net, 0 ∷ 3 ∷ [], mode_no 0) (omega arith) (by tests) (by lacks)

fire-varies : Varies (λ (i : List ℕ × List ℕ × Mode). FireAllows i.0 i.1 i.2) (λ o. amount o.0)
fire-varies =
    varies _ _ 1 (own.net, 3 ∷ 0 ∷ [], mode_no 0) (own.net, 0 ∷ 3 ∷ [], mode_no 0) (omega arith) (λ o a. by tests o.0 a.0) (λ o a. by lacks o.0 a.0)

test-step-varies : Varies (λ (i : List ℕ × List ℕ × List ℕ). TestStepAllows i.0 i.1 i.2) amount
test-step-varies = varies _ _ 2 (own.net, 3 ∷ 0 ∷ [], 0 ∷ 0 ∷ 0 ∷ []) (own.net, 3 ∷ 0 ∷ [], own.five) (omega arith) (by steps) (by lacks-together)

fire-step-varies : Varies (λ (i : List ℕ × List ℕ × List ℕ). FireStepAllows i.0 i.1 i.2) (λ o. amount o.0)
fire-step-varies =
    varies _ _ 2 (own.net, 3 ∷ 0 ∷ [], 0 ∷ 0 ∷ 0 ∷ []) (own.net, 3 ∷ 0 ∷ [], own.five) (omega arith) (λ o a. by steps o.0 a.0)
    (λ o a. by lacks-together o.0 a.0)

run-varies : Varies (λ (i : List ℕ × List ℕ × List ℕ). RunAllows i.0 i.1 i.2) (λ o. amount o.0.answer)
run-varies =
    varies _ _ 1 (own.net, own.three, 3 ∷ 0 ∷ []) (own.net, sheets.movements, 3 ∷ 0 ∷ []) (omega arith)
    (λ o a. by runs-whole o.0.answer (ap (λ r. r.answer) a.0))
    (λ o a. by (ap (λ r. r.refusal) run_is) o.0.answer (ap (λ r. r.answer) a.0))

certify-varies : Varies (λ (i : List ℕ × List ℕ × List ℕ). CertifyAllows i.0 i.1 i.2) amount
certify-varies =
    varies _ _ 1 (own.net, own.three, 0 ∷ 3 ∷ []) (own.net, sheets.movements, 0 ∷ 3 ∷ []) (omega arith) (by certifies) (by lacks-certified)

salvage-varies : Varies (λ (i : List ℕ × List ℕ × List ℕ). SalvageAllows i.0 i.1 i.2) (λ o. stop_by o.0)
salvage-varies =
    varies _ _ 1 (own.net, own.three, own.room) (own.net, sheets.movements, own.room) (omega arith)
    (λ o a. ap stop_by (a.0 ∙ salvages-whole)) (λ o a. ap stop_by (a.0 ∙ salvages-three))

-- what the calls for C tell
stop-told : (x : Result Report Refusal) → (reported (salvaging.told x)).stop.amount ≡ stop_by x
stop-told (Ok report) = refl
stop-told (Err r) = refl

module _ {I O P : Type 0} {Allows : I → O → Type 0} {amount_of : O → ℕ} (Tells : I → P → Type 0) (told : P → ℕ) where
  told-varies : Varies Allows amount_of → ((i : I) (p : P) → Tells i p → (o : O) × Allows i o × (told p ≡ amount_of o)) → NotConstant Tells told
  told-varies v back = (tells v back).not_constant

for_c_lem : ConstantAmountsForC
for_c_lem =
    record {
      test =
          told-varies (λ (i : List ℕ × List ℕ × Mode). c.TestAllows i.0 i.1 i.2) (λ o. o.amount) test-varies
          (λ i p a. (_, refl, ap (λ (r : Answered). r.amount) a));
      fire =
          told-varies (λ (i : List ℕ × List ℕ × Mode). c.FireAllows i.0 i.1 i.2) (λ o. o.0.amount) fire-varies
          (λ i p a. ((_, p.1), (refl, a.1), ap (λ (r : Answered). r.amount) a.0));
      test_step =
          told-varies (λ (i : List ℕ × List ℕ × List ℕ). c.TestStepAllows i.0 i.1 i.2) (λ o. o.amount) test-step-varies
          (λ i p a. (_, refl, ap (λ (r : Answered). r.amount) a));
      fire_step =
          told-varies (λ (i : List ℕ × List ℕ × List ℕ). c.FireStepAllows i.0 i.1 i.2) (λ o. o.0.amount) fire-step-varies
          (λ i p a. ((_, p.1), (refl, a.1), ap (λ (r : Answered). r.amount) a.0));
      run =
          told-varies (λ (i : List ℕ × List ℕ × List ℕ). c.RunAllows i.0 i.1 i.2) (λ o. o.0.answer.amount) run-varies
          (λ i p a. ((_, p.1), (refl, a.1), ap (λ (r : Tallied). r.answer.amount) a.0));
      certify =
          told-varies (λ (i : List ℕ × List ℕ × List ℕ). c.CertifyAllows i.0 i.1 i.2) (λ o. o.amount) certify-varies
          (λ i p a. (_, refl, ap (λ (r : Answered). r.amount) a));
      salvage =
          told-varies (λ (i : List ℕ × List ℕ × List ℕ). c.SalvageAllows i.0 i.1 i.2) (λ o. o.0.stop.amount) salvage-varies
          (λ i p a. ((_, p.1), (refl, a.1), ap (λ (r : Reported). r.stop.amount) a.0 ∙ stop-told (salvaging.salvage_of i.0 i.1 i.2)));
    }

pub constant-amounts : ConstantAmounts
constant-amounts =
    record {
      test = test-varies.not_constant;
      fire = fire-varies.not_constant;
      test_step = test-step-varies.not_constant;
      fire_step = fire-step-varies.not_constant;
      run = run-varies.not_constant;
      certify = certify-varies.not_constant;
      salvage = salvage-varies.not_constant;
      for_c = for_c_lem;
    }
