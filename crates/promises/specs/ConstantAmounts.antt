-- "Every answer now carries this amount" (document 02, P3): one whose amount is always 0, or always another number, breaks the contract of each call that 11 to 14
-- may refuse, and of its call for C.
use Rattle.run.specs.declared.salvage.Report.{Report}
use Rattle.model.specs.declared.Refusal.{Refusal}
use Rattle.std.specs.Prelude.{ℕ, List, Result, Ok, Err}
use Rattle.model.specs.declared.Mode.{Mode}
use Rattle.model.specs.Refusals.{amount}
use Rattle.fire.specs.Allowed.{TestAllows, FireAllows}
use Rattle.fire.specs.step.Allowed.{TestStepAllows, FireStepAllows}
use Rattle.run.specs.Allowed.{RunAllows, CertifyAllows}
use Rattle.run.specs.salvage.Allowed.{SalvageAllows}
use Rattle.abi.specs.Allowed as c
use Rattle.promises.specs.ConstantAnswers.{NotConstant}

-- the amount of the first refusal that a salvage reports, 0 where the call is refused
abbrev pub stop_by : Result Report Refusal → ℕ
stop_by (Ok report) = amount report.stop
stop_by (Err r) = 0

pub record ConstantAmountsForC : Type 0 where
  pub test : NotConstant (λ (i : List ℕ × List ℕ × Mode). c.TestAllows i.0 i.1 i.2) (λ o. o.amount)
  pub fire : NotConstant (λ (i : List ℕ × List ℕ × Mode). c.FireAllows i.0 i.1 i.2) (λ o. o.0.amount)
  pub test_step : NotConstant (λ (i : List ℕ × List ℕ × List ℕ). c.TestStepAllows i.0 i.1 i.2) (λ o. o.amount)
  pub fire_step : NotConstant (λ (i : List ℕ × List ℕ × List ℕ). c.FireStepAllows i.0 i.1 i.2) (λ o. o.0.amount)
  pub run : NotConstant (λ (i : List ℕ × List ℕ × List ℕ). c.RunAllows i.0 i.1 i.2) (λ o. o.0.answer.amount)
  pub certify : NotConstant (λ (i : List ℕ × List ℕ × List ℕ). c.CertifyAllows i.0 i.1 i.2) (λ o. o.amount)
  pub salvage : NotConstant (λ (i : List ℕ × List ℕ × List ℕ). c.SalvageAllows i.0 i.1 i.2) (λ o. o.0.stop.amount)

pub record ConstantAmounts : Type 0 where
  pub test : NotConstant (λ (i : List ℕ × List ℕ × Mode). TestAllows i.0 i.1 i.2) amount
  pub fire : NotConstant (λ (i : List ℕ × List ℕ × Mode). FireAllows i.0 i.1 i.2) (λ o. amount o.0)
  pub test_step : NotConstant (λ (i : List ℕ × List ℕ × List ℕ). TestStepAllows i.0 i.1 i.2) amount
  pub fire_step : NotConstant (λ (i : List ℕ × List ℕ × List ℕ). FireStepAllows i.0 i.1 i.2) (λ o. amount o.0)
  pub run : NotConstant (λ (i : List ℕ × List ℕ × List ℕ). RunAllows i.0 i.1 i.2) (λ o. amount o.0.answer)
  pub certify : NotConstant (λ (i : List ℕ × List ℕ × List ℕ). CertifyAllows i.0 i.1 i.2) amount
  pub salvage : NotConstant (λ (i : List ℕ × List ℕ × List ℕ). SalvageAllows i.0 i.1 i.2) (λ o. stop_by o.0)
  pub for_c : ConstantAmountsForC
