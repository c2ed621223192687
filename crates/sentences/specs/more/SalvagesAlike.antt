-- Salvage (document 02, P11) over a net sheet and over its complement's: one movement sheet is kept of the same damaged bytes, whatever they are.
use Rattle.model.specs.declared.Refusal.{Refusal}
use Rattle.std.specs.Prelude.{ℕ, ◌≡◌, List, get_or, Result}
use Rattle.model.specs.declared.Thing.TheVariants.{Movements}
use Rattle.model.specs.Refusals.{answer, number}
use Rattle.model.specs.Replies.{yields}
use Rattle.model.specs.Nets.{mode_no}
use Rattle.second_form.specs.DemandThree.{becomes}
use Rattle.sheets.specs.Decoded.{net_of}
use Rattle.run.specs.declared.Ran.{Ran}
use Rattle.run.specs.Allowed.{RunAllows}
use Rattle.damaged.specs.Damaged.{modes_in}
use Rattle.run.specs.declared.salvage.Report.{Report}
use Rattle.run.specs.salvage.Salvaged.{told, trial}
use Rattle.run.specs.salvage.Allowed.{SalvageAllows}
use Rattle.sentences.specs.Bytes.{Bytes}
use Rattle.sentences.specs.Wrote.{ComplementWrote, SalvageWrote}
use Rattle.sentences.specs.more.InStep.{FindsNone}

-- what is kept, dropped and written; "11, 12 and 13 in the net become 11 in its complement; 6 and 14 stay"
pub record ReportsAlike (net damaged : List ℕ) (r r' : Report) : Type 0 where
  pub kept : r'.kept ≡ r.kept
  pub dropped : r'.dropped ≡ r.dropped
  pub length : r'.length ≡ r.length
  pub stop : r'.stop ≡ answer (becomes Movements (net_of net) (get_or (modes_in damaged) r.kept (mode_no 0)) (trial net damaged).marking (trial net damaged).refusal)

-- one output slice lent to both: the same bytes after, and the same refusal if there is one
pub record SalvagedAlike (net damaged : List ℕ) (o o' : Result Report Refusal × List ℕ) : Type 0 where
  pub output : o'.1 ≡ o.1
  pub carried : (told o'.0).carried ≡ (told o.0).carried
  pub reports : (r r' : Report) → told o.0 ≡ yields r → told o'.0 ≡ yields r' → ReportsAlike net damaged r r'

-- a sheet that was written runs whole in both from the first markings, and an audit finds none after it
pub record RunsInBoth (net : List ℕ) (kept : ℕ) (o o' : Ran × List ℕ) : Type 0 where
  pub whole : (number o.0.answer ≡ 0) × (number o'.0.answer ≡ 0)
  pub accepted : (o.0.accepted ≡ kept) × (o'.0.accepted ≡ kept)
  pub finds_none : FindsNone net o.1 o'.1

pub record SalvagesBeside (net sheet damaged : List ℕ) : Type 0 where
  pub alike : (out : List ℕ) (o o' : Result Report Refusal × List ℕ) → SalvageAllows net damaged out o → SalvageAllows sheet damaged out o' → SalvagedAlike net damaged o o'
  pub runs : (fresh : List ℕ) (report : Report) → Bytes damaged → SalvageWrote net damaged fresh report
      → (o o' : Ran × List ℕ) → RunAllows net fresh (net_of net).start o → RunAllows sheet fresh (net_of sheet).start o' → RunsInBoth net report.kept o o'

abbrev pub SalvagesAlike : Type 0
SalvagesAlike = (net sheet : List ℕ) → ComplementWrote net sheet → (damaged : List ℕ) → SalvagesBeside net sheet damaged
