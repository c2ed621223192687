-- "Refusing all, or one constant answer, breaks the exact refusal table": each contract accepts something, refuses something, and excludes every answer somewhere.
use Rattle.run.specs.declared.salvage.Report.{Report}
use Rattle.model.specs.declared.Refusal.{Refusal}
use Rattle.std.specs.Prelude.{ℕ, ◌≡◌, ◌≢◌, Result, Ok, Err}
use Rattle.model.specs.Refusals.{amount}
use Rattle.sentences.specs.Call.{Call}
use Rattle.sentences.specs.Calls.{Public, call, for_c}
use Rattle.sentences.specs.EveryCall.{Alone, EveryCall, alone, every}

-- of a call, and a number that marks its answers: what is given can be handed over, its bytes below 256 and its counts below 2^32
module _ (c : Call) (mark : c.Answers → ℕ) where
  abbrev pub Only : ℕ → c.Given → Type 0
  Only n g = (c.Possible g) × ((a : c.Answers) (l : c.Lent) → c.Allows g a l → mark a ≡ n)

  abbrev pub Never : ℕ → c.Given → Type 0
  Never n g = (c.Possible g) × ((a : c.Answers) (l : c.Lent) → c.Allows g a l → mark a ≢ n)

  -- for every answer there is something given for which it is excluded, whatever is left in what was lent
  abbrev pub NotConstant : Type 0
  NotConstant = (a : c.Answers) → (g : c.Given) × Never (mark a) g

  pub record Varies : Type 0 where
    pub not_all_refused : (g : c.Given) × Only 0 g
    pub not_all_accepted : (g : c.Given) × Never 0 g
    pub not_constant : NotConstant

-- a reader's part: handing back the whole run always, as on a refusal, is excluded
abbrev pub NotWhole : (c : Call) → (c.Given → c.Answers) → Type 0
NotWhole c run = (g : c.Given) × (c.Possible g) × ((l : c.Lent) → ¬ c.Allows g (run g) l)

pub record ConstantAnswers : Type 0 where
  pub each : (c : EveryCall) → Varies (every c) (λ a. ((every c).carried a).number)
  pub after_net : NotWhole (alone Alone.after_net) (λ s. s)
  pub after_weights : NotWhole (alone Alone.after_weights) (λ i. i.0)
  pub after_movements : NotWhole (alone Alone.after_movements) (λ s. s)

-- "Every answer now carries this amount" (document 02, P3): one whose amount is always 0, or always another number, breaks the contract of each call that 11 to 14
-- may refuse, of the library and for C
abbrev pub ByAmount : Call → Type 0
ByAmount c = NotConstant c (λ a. (c.carried a).amount)

-- the amount of the first refusal that a salvage reports, 0 where the call is refused
abbrev pub stop_by : Result Report Refusal → ℕ
stop_by (Ok report) = amount report.stop
stop_by (Err r) = 0

pub record Stopped (calls : Public → Call) : Type 0 where
  pub test : ByAmount (calls Public.test)
  pub fire : ByAmount (calls Public.fire)
  pub test_step : ByAmount (calls Public.test_step)
  pub fire_step : ByAmount (calls Public.fire_step)
  pub run : ByAmount (calls Public.run)
  pub certify : ByAmount (calls Public.certify)

pub record ConstantAmounts : Type 0 where
  pub library : Stopped call
  pub salvage : NotConstant (call Public.salvage) stop_by
  pub to_c : Stopped for_c
  pub salvage_for_c : NotConstant (for_c Public.salvage) (λ d. d.stop.amount)
