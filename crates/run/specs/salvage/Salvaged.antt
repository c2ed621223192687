-- Salvage of a cut movement sheet (document 02, P11): what the call answers, and what it leaves in the output slice.
-- "Refusals: net, 1 for fewer than 5 bytes, 3 for L = 0, 2, 10 for a short output."
use Rattle.std.specs.Prelude.{ℕ, ◌-◌, List, length, take, Result, Ok, Err}
use Rattle.std.proofs.Math.Option.{Option, none, some}
use Rattle.model.specs.declared.Refusal.{Refusal}
use Rattle.model.specs.Refusals.{Answer}
use Rattle.model.specs.First.{◌▸◌}
use Rattle.model.specs.Refusals.{answer}
use Rattle.model.specs.Replies.{Reply, yields, refuses}
use Rattle.movement.specs.Runs.{Outcome, run}
use Rattle.sheets.specs.Whole.{whole_net}
use Rattle.sheets.specs.Decoded.{net_of}
use Rattle.sheets.specs.Emitted.{output, too_short}
use Rattle.damaged.specs.Damaged.{damaged_refusal, considered, modes_in}
use Rattle.run.specs.declared.salvage.Report.{Report}
use Rattle.run.specs.salvage.MovementSheet.{movement_sheet}

-- a fresh sheet with the first k of the modes considered
abbrev pub sheet_of_first : List ℕ → ℕ → List ℕ
sheet_of_first s k = movement_sheet (take k (modes_in s))

-- what is told where k of them are kept: "movements kept, movements considered but dropped, and the first refusal's number and position, 0 and 0 if none"
abbrev pub report_of : List ℕ → ℕ → Answer → Report
report_of s k stop = record { length = length (sheet_of_first s k); kept = k; dropped = considered s - k; stop = stop }

-- the first refusal, if there is one, or the report
abbrev pub salvaged : Option Refusal → Report → Result Report Refusal
salvaged none report = Ok report
salvaged (some r) report = Err r

-- the number, thing, position and value of each answer
abbrev pub told : Result Report Refusal → Reply Report
told (Ok report) = yields report
told (Err r) = refuses r

module _ (net damaged : List ℕ) where
  -- "the longest run of leading modes that the net accepts from its first marking"
  unfoldable pub trial : Outcome
  trial = run (net_of net) (modes_in damaged) (net_of net).start

  abbrev pub kept : ℕ
  kept = trial.accepted

  abbrev pub report : Report
  report = report_of damaged kept (answer trial.refusal)

  abbrev pub fresh_sheet : List ℕ
  fresh_sheet = sheet_of_first damaged kept

  unfoldable pub salvage_refusal : ℕ → Option Refusal
  salvage_refusal room = whole_net net ▸ damaged_refusal damaged ▸ too_short fresh_sheet room

  module _ (out : List ℕ) where
    abbrev pub salvage_of : Result Report Refusal
    salvage_of = salvaged (salvage_refusal (length out)) report

    abbrev pub output_of : List ℕ
    output_of = output (salvage_refusal (length out)) fresh_sheet out
