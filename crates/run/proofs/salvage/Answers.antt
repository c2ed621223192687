-- The order of the refusals, what the run tells, and what an accepted salvage leaves.
use Rattle.std.specs.Prelude.{Result, Ok, Err}
use Prim.Native.Nat.{ℕ, ◌+◌, ◌-◌, ◌*◌, ◌≤◌, ◌<◌}
use mathlib.Core.Path.{◌≡◌, refl, sym, ◌∙◌, ap, subst}
use mathlib.Core.List.{List}
use mathlib.Core.Option.{Option, none, some}
use lib.ListN.{length, take}
use borrow.Author.Tests.{lt-ltb, le-ltb}
use native.Mathlib.Omega.{arith}
use Rattle.model.specs.declared.Thing.TheVariants.{Net}
use Rattle.model.specs.declared.Fault.TheVariants.{NoRoom}
use Rattle.model.specs.declared.Refusal.{Refusal}
use Rattle.model.specs.Refusals.{Answer}
use Rattle.model.specs.First.{◌▸◌}
use Rattle.model.specs.Refusals.{wrong}
use Rattle.movement.specs.Runs.{run}
use Rattle.both_forms.specs.Visits.{visited}
use Rattle.model.proofs.First.{none_then}
use Rattle.movement.proofs.Runs.{runs}
use Rattle.heads.specs.Layout.{movements_at}
use Rattle.sheets.specs.Decoded.{net_of}
use Rattle.sheets.specs.Listed.{modes_from}
use Rattle.sheets.specs.written.Puts.{Puts}
use Rattle.sheets.proofs.written.Puts.{from_start}
use Rattle.sheets.specs.Emitted.{output, too_short}
use Rattle.run.specs.declared.Ran.{Ran}
use Rattle.run.specs.Calls.{ran_of}
use Rattle.run.specs.Parts.{Reports}
use Rattle.damaged.specs.Damaged.{damaged_refusal, considered, modes_in}
use Rattle.run.proofs.salvage.Considered.{modes-are, modes-length, first-long}
use Rattle.run.specs.declared.salvage.Report.{Report}
use Rattle.run.specs.salvage.Salvaged.{sheet_of_first, report_of, salvaged, trial, kept, report, fresh_sheet}
use Rattle.run.specs.salvage.Parts.{ran_on}
use Rattle.run.proofs.salvage.MovementSheets.{sheet-length}

-- the run of the modes that stand there, from the first marking
pub tells : (net s : List ℕ) {m left : List ℕ} {ran : Ran} (start count : ℕ) → start ≡ movements_at → count ≡ considered s → m ≡ (net_of net).start
    → Reports (run (net_of net) (modes_from s start count) m) (visited (net_of net) (modes_from s start count) m) ran left → ran ≡ ran_on net s
unfolding trial
tells net s {m} start count a b c reports =
    let same : modes_from s start count ≡ modes_in s = ap (λ k. modes_from s k count) a ∙ ap (modes_from s movements_at) b ∙ sym (modes-are s) in
    reports.tells
    ∙ ap (λ ts. ran_of (run (net_of net) ts m) (visited (net_of net) ts m)) same
    ∙ ap (λ m. ran_of (run (net_of net) (modes_in s) m) (visited (net_of net) (modes_in s) m)) c

-- no more is kept than was considered
pub kept-part : (net s : List ℕ) → kept net s ≤ considered s
unfolding trial
kept-part net s = omega (arith, (runs (net_of net) (modes_in s) (net_of net).start).part, modes-length s)

-- 10, and where there is room
module _ (s : List ℕ) (k : ℕ) (h : k ≤ considered s) where
  pub first-length : length (sheet_of_first s k) ≡ 5 + 2 * k
  first-length = omega (arith, sheet-length (take k (modes_in s)), first-long s k h)

  pub short : {room : ℕ} → room < 5 + 2 * k → too_short (sheet_of_first s k) room ≡ some (wrong Net NoRoom)
  short {room} l = rw (lt-ltb room (length (sheet_of_first s k)) (omega (arith, first-length))) refl

  pub roomy : {room : ℕ} → 5 + 2 * k ≤ room → too_short (sheet_of_first s k) room ≡ none
  roomy {room} l = rw (le-ltb room (length (sheet_of_first s k)) (omega (arith, first-length))) refl

-- a refusal, with nothing written, and a sheet from the first byte on with its report
pub refused : {o : Option Refusal} {b : Result Report Refusal} {r : Refusal} (told : Report) (sheet found : List ℕ) → o ≡ some r → b ≡ Err r
    → (b ≡ salvaged o told) × (found ≡ output o sheet found)
refused told sheet found e h = rw e (h, refl)

pub written : {o : Option Refusal} {found now : List ℕ} {after count : ℕ} (s : List ℕ) (k : ℕ) (stop : Answer) → o ≡ none → count ≡ considered s
    → length (sheet_of_first s k) ≤ length found → Puts found 0 (sheet_of_first s k) now after
    → (Ok (record { length = after; kept = k; dropped = count - k; stop = stop }) ≡ salvaged o (report_of s k stop))
    × (now ≡ output o (sheet_of_first s k) found)
written {after = after} s k stop e q h p =
    let long : after ≡ length (sheet_of_first s k) = omega (arith, p.next) in
    rw e (λ i. Ok (record { length = long i; kept = k; dropped = q i - k; stop = stop }), from_start p.written h)

-- bytes that are not refused, and a run that told this
pub goes_on : (net s out : List ℕ) {left : List ℕ} {ran : Ran} {x : Result Report Refusal} → damaged_refusal s ≡ none → ran ≡ ran_on net s
    → (x ≡ salvaged (too_short (sheet_of_first s ran.accepted) (length out)) (report_of s ran.accepted ran.answer))
    × (left ≡ output (too_short (sheet_of_first s ran.accepted) (length out)) (sheet_of_first s ran.accepted) out)
    → (x ≡ salvaged (damaged_refusal s ▸ too_short (fresh_sheet net s) (length out)) (report net s))
    × (left ≡ output (damaged_refusal s ▸ too_short (fresh_sheet net s) (length out)) (fresh_sheet net s) out)
goes_on net s out {left} {ran} {x} e is h =
    let Allows : Ran → Type 0 =
    λ ran.
    (x ≡ salvaged (too_short (sheet_of_first s ran.accepted) (length out)) (report_of s ran.accepted ran.answer))
    × (left ≡ output (too_short (sheet_of_first s ran.accepted) (length out)) (sheet_of_first s ran.accepted) out)
    in
    let last : damaged_refusal s ▸ too_short (fresh_sheet net s) (length out) ≡ too_short (fresh_sheet net s) (length out) = none_then e refl in
    rw last (subst Allows is h)
