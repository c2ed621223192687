-- The promises, from what the model proves of runs, and both directions of a movement sheet.
use Prim.Native.Nat.{ℕ, suc, ◌+◌, ◌≤◌, ◌<◌}
use mathlib.Core.Path.{◌≡◌, refl, sym, ◌∙◌, ap, subst}
use mathlib.Core.List.{List, [], ◌∷◌, ◌++◌}
use mathlib.Core.Option.{Option, none, some}
use lib.ListN.{length, take, drop, get_or}
use lib.Seq.{take-suc, take_at, take-length}
use borrow.Author.Tests.{le-ltb, ne_eqb, eq-eqb}
use native.Mathlib.Omega.{arith}
use Rattle.model.specs.declared.Mode.{Mode}
use Rattle.model.specs.declared.Thing.TheVariants.{Movements}
use Rattle.model.specs.declared.Refusal.{Refusal}
use Rattle.std.specs.Prelude.{Ok, Err}
use Rattle.model.specs.First.{◌▸◌}
use Rattle.model.specs.Nets.{PNet, mode_no}
use Rattle.model.specs.Firing.{mode_refusal}
use Rattle.model.specs.Refusals.{answer}
use Rattle.movement.specs.Runs.{run_from, run}
use Rattle.movement.specs.Promises.{Leads, stays, moves}
use Rattle.model.proofs.First.{left-none, right-none, none_then}
use Rattle.model.proofs.Refusals.{answer-accepted}
use Rattle.movement.proofs.Markings.{marking-test}
use Rattle.movement.proofs.Runs.{runs, leads-whole}
use Rattle.heads.specs.Bytes.{u16_at}
use Rattle.heads.specs.Layout.{body_length, version, movements_at, movement_at, movement_count}
use Rattle.sheets.specs.Whole.{whole_net, whole_movements}
use Rattle.sheets.specs.Decoded.{net_of, movements_of}
use Rattle.sheets.specs.Listed.{mode_at, modes_from}
use Rattle.sheets.proofs.Listed.{modes_from_length, modes_from_at, movements-are}
use Rattle.sheets.proofs.written.BigEndian.{every_byte}
use Rattle.sheets.specs.Emitted.{output}
use Rattle.fire.proofs.Promises.{start-marks}
use Rattle.run.specs.Calls.{before_run, run_of}
use Rattle.run.proofs.Promises.{runs_leave_lem}
use Rattle.damaged.specs.Damaged.{damaged_refusal, considered, modes_in}
use Rattle.run.proofs.salvage.Considered.{modes-are, modes-length, first-modes, most-considered}
use Rattle.run.specs.declared.salvage.Report.{Report}
use Rattle.run.specs.salvage.MovementSheet.{movement_sheet}
use Rattle.run.specs.salvage.Salvaged.{salvaged, trial, kept, report, fresh_sheet, salvage_refusal}
use Rattle.run.specs.salvage.Promises.{AllBytes, ListBack, RunStops, Salvages, SalvagedRuns, WholeComesBack}
use Rattle.run.proofs.salvage.MovementSheets.{list_written-then-read, list_read-then-written, Listed, listed}
use Rattle.run.proofs.salvage.Answers.{kept-part, first-length, roomy}

-- a list that leads to m', and one movement more that is refused there
stops-after : {net : PNet} {ts : List Mode} {m m' : List ℕ} → Leads net ts m m' → (t : Mode) {r : Refusal} → mode_refusal Movements net t m' ≡ some r
    → (k : ℕ) → (run_from net k (ts ++ t ∷ []) m).refusal ≡ some r
unfolding run_from
stops-after stays t e k = rw e refl
stops-after (moves a l) t e k = rw a (stops-after l t e (k + 1))

-- the first k modes of damaged bytes, written and read back
module _ (s : List ℕ) (bytes : AllBytes s) where
  small : (k i : ℕ) → i < k → (get_or (modes_from s movements_at k) i (mode_no 0)).0 < 65536
  unfolding mode_at u16_at
  small k i h =
      let byte = every_byte s bytes in
      rw (modes_from_at s movements_at k (mode_no 0) i h) (omega (arith, byte (movement_at i), byte (movement_at i + 1)))

  first_back : (k : ℕ) → k ≤ considered s → ListBack (take k (modes_in s))
  first_back k h =
      let long = modes_from_length s movements_at k in
      rw (first-modes s k h)
      (list_written-then-read (modes_from s movements_at k) (omega (arith, long, most-considered s)) (λ i l. small k i (omega (arith, long))))

-- a run of a sheet as written, from the first marking
module _ (net : List ℕ) (accepted : whole_net net ≡ none) where
  sheet-begins : (s : List ℕ) → whole_movements s ≡ none → before_run net s (net_of net).start ≡ none
  unfolding before_run
  sheet-begins s e = none_then accepted (none_then e ((marking-test (net_of net) (net_of net).start).1 (start-marks net accepted)))

  sheet-runs : (modes : List Mode) → ListBack modes → (run_of net (movement_sheet modes) (net_of net).start).refusal ≡ (run (net_of net) modes (net_of net).start).refusal
  unfolding run_of
  sheet-runs modes back = rw (sheet-begins (movement_sheet modes) back.accepted, back.same) refl

  module _ (s : List ℕ) (bytes : AllBytes s) where
    abbrev k : ℕ
    k = kept net s

    -- what the run of the modes considered has done
    kept-leads : Leads (net_of net) (take k (modes_in s)) (net_of net).start (trial net s).marking
    unfolding trial
    kept-leads = (runs (net_of net) (modes_in s) (net_of net).start).leads

    kept_whole : ((trial net s).refusal ≡ none → k ≡ considered s) × (k ≡ considered s → (trial net s).refusal ≡ none)
    unfolding trial
    kept_whole =
        let whole = (runs (net_of net) (modes_in s) (net_of net).start).whole in
        (λ e. whole.0 e ∙ modes-length s, λ e. whole.1 (e ∙ sym (modes-length s)))

    next-refused : k < considered s → (trial net s).refusal ≡ mode_refusal Movements (net_of net) (get_or (modes_in s) k (mode_no 0)) (trial net s).marking
    unfolding trial
    next-refused h = (runs (net_of net) (modes_in s) (net_of net).start).refused (rw modes-length h)

    back : ListBack (take k (modes_in s))
    back = first_back s bytes k (kept-part net s)

    -- the first dropped mode added
    abbrev one_more : List Mode
    one_more = take k (modes_in s) ++ get_or (modes_in s) k (mode_no 0) ∷ []

    more-back : k < considered s → ListBack one_more
    more-back h = rw (← take-suc (modes_in s) k (mode_no 0) (rw modes-length h)) (first_back s bytes (suc k) (omega arith))

    more-stops : (o : Option Refusal) → (trial net s).refusal ≡ o → k < considered s → (r : Refusal) × (answer o ≡ Err r) × RunStops net one_more r
    more-stops none e h = absurd (omega (arith, kept_whole.0 e))
    more-stops (some r) e h = (
      r,
      refl,
      record {
        accepted = (more-back h).accepted;
        stops = sheet-runs one_more (more-back h) ∙ stops-after kept-leads (get_or (modes_in s) k (mode_no 0)) (sym (next-refused h) ∙ e) 0;
      },
    )

    salvages : Salvages net s (fresh_sheet net s) (report net s)
    salvages =
        record {
          accepted = back.accepted;
          leading = back.same;
          runs_whole = sheet-runs (take k (modes_in s)) back ∙ (leads-whole kept-leads).0;
          no_longer = λ h. rw back.same (more-stops (trial net s).refusal refl (omega arith));
          counted = omega (arith, kept-part net s);
          stopless = (
            λ e. omega (arith, kept_whole.0 (answer-accepted _ e)),
            λ e. ap answer (kept_whole.1 (omega (arith, kept-part net s))),
          );
        }

-- a report is told only where nothing is refused
pub report-told : (o : Option Refusal) {x y : Report} → Ok x ≡ salvaged o y → (o ≡ none) × (x ≡ y)
report-told none e = (refl, cc)
report-told (some r) e = let z : ◌≡◌ {A = ℕ} 0 1 = cc in absurd (omega arith)

pub salvaged-runs : SalvagedRuns
unfolding salvage_refusal
salvaged-runs net s out left told bytes allows =
    let accepted = report-told (salvage_refusal net s (length out)) allows.0 in
    let sheet = fresh_sheet net s in
    let written : take (report net s).length left ≡ sheet =
    ap (take (length sheet)) (allows.1 ∙ ap (λ o. output o sheet out) accepted.0) ∙ take_at sheet (drop (length sheet) out) (length sheet) refl
    in
    subst (λ told. Salvages net s (take told.length left) told) (sym accepted.1)
    (rw written (salvages net (left-none _ _ accepted.0) s bytes))

-- a sheet that is whole: all its modes are considered, and nothing of it is refused
module _ (s : List ℕ) (e : whole_movements s ≡ none) where
  is : Listed s
  is = listed s e

  pub all-considered : considered s ≡ movement_count s
  unfolding considered
  all-considered = omega (arith, is.long, is.even, is.few)

  pub same-modes : modes_in s ≡ movements_of s
  same-modes = modes-are s ∙ ap (modes_from s movements_at) all-considered ∙ sym (movements-are s)

  pub not_damaged : damaged_refusal s ≡ none
  unfolding damaged_refusal ◌▸◌
  not_damaged = rw (le-ltb (length s) 5 (omega (arith, is.long, is.even)), ne_eqb (body_length s) 0 (λ z. omega (arith, is.even)), eq-eqb (version s) 1 is.version) refl

-- .. and that runs whole
module _ (net s : List ℕ) (bytes : AllBytes s) (e : (run_of net s (net_of net).start).refusal ≡ none) where
  begun : before_run net s (net_of net).start ≡ none
  begun = ((runs_leave_lem net s (net_of net).start).whole.0 e).0

  net-accepted : whole_net net ≡ none
  unfolding before_run
  net-accepted = left-none _ _ begun

  sheet-accepted : whole_movements s ≡ none
  unfolding before_run
  sheet-accepted = left-none _ _ (right-none (whole_net net) _ begun)

  none-stops : (trial net s).refusal ≡ none
  unfolding trial run_of
  none-stops = rw (same-modes s sheet-accepted) (rw begun at e)

  all-kept : kept net s ≡ length (modes_in s)
  all-kept = (kept_whole net net-accepted s bytes).0 none-stops ∙ sym (modes-length s)

  fresh-is : fresh_sheet net s ≡ s
  fresh-is =
      ap (λ k. movement_sheet (take k (modes_in s))) all-kept
      ∙ ap movement_sheet (take-length (modes_in s) ∙ same-modes s sheet-accepted)
      ∙ sym (list_read-then-written s bytes sheet-accepted)

  none-refused : (room : ℕ) → length s ≤ room → salvage_refusal net s room ≡ none
  unfolding salvage_refusal
  none-refused room h =
      let part = kept-part net s in
      none_then net-accepted (none_then (not_damaged s sheet-accepted) (roomy s (kept net s) part (omega (arith, first-length s (kept net s) part, ap length fresh-is))))

  report-is : record { length = length s; kept = length (movements_of s); dropped = 0; stop = (Ok tt) } ≡ report net s
  report-is =
      let long : length s ≡ length (fresh_sheet net s) = ap length (sym fresh-is) in
      let many : length (movements_of s) ≡ kept net s = ap length (sym (same-modes s sheet-accepted)) ∙ sym all-kept in
      let fewer : 0 ≡ (report net s).dropped = omega (arith, all-kept, modes-length s) in
      let stop : (Ok tt) ≡ (report net s).stop = ap answer (sym none-stops) in
      λ i. record { length = long i; kept = many i; dropped = fewer i; stop = stop i }

  pub comes_back_lem : (out : List ℕ) → length s ≤ length out
      → (Ok (record { length = length s; kept = length (movements_of s); dropped = 0; stop = (Ok tt) }) ≡ salvaged (salvage_refusal net s (length out)) (report net s))
      × (s ++ drop (length s) out ≡ output (salvage_refusal net s (length out)) (fresh_sheet net s) out)
  comes_back_lem out h = rw (none-refused (length out) h) (ap Ok report-is, rw fresh-is refl)

pub whole_comes_back_lem : WholeComesBack
whole_comes_back_lem net s out bytes e h = comes_back_lem net s bytes e out h
