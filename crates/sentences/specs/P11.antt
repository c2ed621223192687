-- Document 02, P11. Salvage of a cut movement sheet.
use Rattle.model.specs.declared.Refusal.{Refusal}
use Rattle.std.specs.Prelude.{ℕ, ◌+◌, ◌<◌, ◌≡◌, List, [], ◌∷◌, ◌++◌, ◌↔◌, ◌≢◌, take, drop, get_or, length, Result}
use Rattle.std.proofs.Math.Option.{none}
use Rattle.model.specs.Refusals.{number}
use Rattle.model.specs.Replies.{yields}
use Rattle.model.specs.Nets.{mode_no}
use Rattle.sheets.specs.Whole.{whole_movements}
use Rattle.sheets.specs.Decoded.{net_of, movements_of}
use Rattle.damaged.specs.Damaged.{considered, modes_in}
use Rattle.run.specs.declared.Ran.{Ran}
use Rattle.run.specs.Allowed.{RunAllows}
use Rattle.run.specs.declared.salvage.Report.{Report}
use Rattle.run.specs.salvage.MovementSheet.{movement_sheet}
use Rattle.run.specs.salvage.Salvaged.{told}
use Rattle.run.specs.salvage.Allowed.{SalvageAllows}
use Rattle.sentences.specs.Bytes.{Bytes}
use Rattle.sentences.specs.Calls.{Public}
use Rattle.sentences.specs.Outcomes.{Accepts}
use Rattle.sentences.specs.Wrote.{SalvageWrote}
use Rattle.sentences.specs.CallTables.{HasTable}

-- the bytes that a salvage wrote, and what it reports of them
pub record Salvages (net damaged sheet : List ℕ) (report : Report) : Type 0 where
  -- "a fresh sheet with the longest run of leading modes that the net accepts from its first marking"
  pub accepted : whole_movements sheet ≡ none
  pub leading : movements_of sheet ≡ take report.kept (modes_in damaged)
  -- "its sheet runs whole"
  pub runs_whole : Accepts Public.run (net, sheet, (net_of net).start)
  -- "with the first dropped mode added, where one was dropped, it would not": a run of that sheet is refused as reported
  pub no_longer : 0 < report.dropped → (r : Ran) (left : List ℕ)
      → RunAllows net (movement_sheet (movements_of sheet ++ get_or (modes_in damaged) report.kept (mode_no 0) ∷ [])) (net_of net).start (r, left)
      → (r.answer ≡ report.stop) × (number r.answer ≢ 0)
  -- "movements kept, movements considered but dropped, and the first refusal's number and position, 0 and 0 if none"
  pub counted : report.kept + report.dropped ≡ considered damaged
  pub stopless : (number report.stop ≡ 0) ↔ (report.dropped ≡ 0)

-- the report has the length written, and no byte after it is touched
abbrev pub SalvageWrites : Type 0
SalvageWrites = (net damaged out left : List ℕ) (o : Result Report Refusal) (report : Report) → SalvageAllows net damaged out (o, left) → told o ≡ yields report
    → (length (take report.length left) ≡ report.length) × (drop report.length left ≡ drop report.length out)

pub record P11 : Type 0 where
  -- "ignores bytes past the declared length, uses what is there when the length claims more, drops a lone last byte, and considers at most 8,192 modes": see `modes_in`.
  -- "It writes a fresh sheet .. and reports movements kept, movements considered but dropped, and the first refusal's number and position, 0 and 0 if none."
  pub writes : SalvageWrites
  -- "Prove that its sheet runs whole, and that with the first dropped mode added, where one was dropped, it would not."
  pub salvages : (net damaged sheet : List ℕ) (report : Report) → Bytes damaged → SalvageWrote net damaged sheet report → Salvages net damaged sheet report
  -- "Refusals: net, 1 for fewer than 5 bytes, 3 for L = 0, 2, 10 for a short output."
  pub salvage : HasTable Public.salvage
