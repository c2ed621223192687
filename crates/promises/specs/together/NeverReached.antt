-- A claim that an exclusion accepts (document 02, P8) is reached by no call and certified by none, those of the later requests too.
use Rattle.std.specs.Prelude.{ℕ, ◌≡◌, List, ◌≢◌}
use Rattle.model.specs.declared.Mode.{Mode}
use Rattle.model.specs.Refusals.{Answer}
use Rattle.model.specs.Refusals.{number}
use Rattle.movement.specs.Promises.{Leads}
use Rattle.sheets.specs.Decoded.{net_of}
use Rattle.run.specs.Allowed.{CertifyAllows}
use Rattle.statement.specs.exclude.Allowed.{ExcludeAllows}
use Rattle.run.specs.declared.salvage.Report.{Report}
use Rattle.run.specs.salvage.Promises.{AllBytes}
use Rattle.promises.specs.together.Wrote.{SalvageWrote}
use Rattle.promises.specs.together.Reached.{Reached}

pub record Unreached (net claim : List ℕ) : Type 0 where
  -- begin, and then fire, fire_step and run in any order: a step may lead where no list does (`StepExamples`, `at_once_alone`), and not there
  pub reached : (m : List ℕ) → Reached net m → m ≢ claim
  -- nor does any list lead there: no accepted part of a run, and nothing that a salvage keeps
  pub along : (ts : List Mode) (m : List ℕ) → Leads (net_of net) ts (net_of net).start m → m ≢ claim
  -- no certificate; one of a sheet that a salvage wrote, which runs whole, is refused by 18
  pub certified : (movements : List ℕ) (told : Answer) → CertifyAllows net movements claim told → number told ≢ 0
  pub salvaged : (damaged sheet : List ℕ) (report : Report) → AllBytes damaged → SalvageWrote net damaged sheet report
      → (told : Answer) → CertifyAllows net sheet claim told → number told ≡ 18

abbrev pub NeverReached : Type 0
NeverReached = (net weights claim : List ℕ) (told : Answer) → ExcludeAllows net weights claim told → number told ≡ 0 → Unreached net claim
