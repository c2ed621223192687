-- What is promised of salvage, and of movement sheets as written. Each statement is a type; docs/ARCHITECTURE.md names the one term of proofs/ that has it.
use Rattle.std.specs.Prelude.{ℕ, ◌+◌, ◌≤◌, ◌<◌, ◌≡◌, List, [], ◌∷◌, ◌++◌, ◌↔◌, length, take, drop, get_or}
use Rattle.std.proofs.Math.Option.{none, some}
use Rattle.model.specs.declared.Mode.{Mode}
use Rattle.model.specs.declared.Refusal.{Refusal}
use Rattle.std.specs.Prelude.{Ok, Err}
use Rattle.model.specs.Nets.{mode_no}
use Rattle.heads.specs.Bytes.{byte_at}
use Rattle.sheets.specs.lists.Movements.{most_movements}
use Rattle.sheets.specs.Whole.{whole_movements}
use Rattle.sheets.specs.Decoded.{net_of, movements_of}
use Rattle.run.specs.Calls.{run_of}
use Rattle.damaged.specs.Damaged.{considered, modes_in}
use Rattle.run.specs.declared.salvage.Report.{Report}
use Rattle.run.specs.salvage.MovementSheet.{movement_sheet}
use Rattle.run.specs.salvage.Allowed.{SalvageAllows}

abbrev pub AllBytes : List ℕ → Type 0
AllBytes s = (i : ℕ) → i < length s → byte_at s i < 256

-- Both directions of a movement sheet. A list that is written can be read back, and an accepted sheet is the sheet of the list that was read from it.
pub record ListBack (modes : List Mode) : Type 0 where
  pub accepted : whole_movements (movement_sheet modes) ≡ none
  pub same : movements_of (movement_sheet modes) ≡ modes

abbrev pub ListWrittenThenRead : Type 0
ListWrittenThenRead = (modes : List Mode) → length modes ≤ most_movements → ((k : ℕ) → k < length modes → (get_or modes k (mode_no 0)).0 < 65536) → ListBack modes

abbrev pub ListReadThenWritten : Type 0
ListReadThenWritten = (s : List ℕ) → AllBytes s → whole_movements s ≡ none → s ≡ movement_sheet (movements_of s)

-- A sheet with these modes is accepted, and a run of it from the net's first marking stops by r.
pub record RunStops (net : List ℕ) (modes : List Mode) (r : Refusal) : Type 0 where
  pub accepted : whole_movements (movement_sheet modes) ≡ none
  pub stops : (run_of net (movement_sheet modes) (net_of net).start).refusal ≡ some r

-- The bytes that a salvage wrote, and what it reports of them.
pub record Salvages (net damaged sheet : List ℕ) (report : Report) : Type 0 where
  -- a movement sheet with the leading modes
  pub accepted : whole_movements sheet ≡ none
  pub leading : movements_of sheet ≡ take report.kept (modes_in damaged)
  -- "its sheet runs whole"
  pub runs_whole : (run_of net sheet (net_of net).start).refusal ≡ none
  -- "with the first dropped mode added, where one was dropped, it would not"
  pub no_longer : 0 < report.dropped
      → (r : Refusal) × (report.stop ≡ Err r) × RunStops net (movements_of sheet ++ get_or (modes_in damaged) report.kept (mode_no 0) ∷ []) r
  -- "movements kept, movements considered but dropped, and the first refusal's number and position, 0 and 0 if none"
  pub counted : report.kept + report.dropped ≡ considered damaged
  pub stopless : (report.stop ≡ Ok tt) ↔ (report.dropped ≡ 0)

abbrev pub SalvagedRuns : Type 0
SalvagedRuns = (net damaged out left : List ℕ) (report : Report) → AllBytes damaged → SalvageAllows net damaged out (Ok report, left)
    → Salvages net damaged (take report.length left) report

-- A sheet that is whole and runs whole comes back byte for byte.
abbrev pub WholeComesBack : Type 0
WholeComesBack = (net sheet out : List ℕ) → AllBytes sheet → (run_of net sheet (net_of net).start).refusal ≡ none → length sheet ≤ length out
    → SalvageAllows net sheet out
    (Ok (record { length = length sheet; kept = length (movements_of sheet); dropped = 0; stop = (Ok tt) }), sheet ++ drop (length sheet) out)
