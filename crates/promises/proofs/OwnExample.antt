-- Document 01's own example: its sheet is read back, and the rest is computed from the net.
use Rattle.run.specs.declared.salvage.Report.{Report}
use Prim.Native.Nat.{ℕ, ◌+◌, ◌*◌, ◌≤◌}
use mathlib.Core.Path.{◌≡◌, refl, sym, ◌∙◌, ap, ap₂, subst}
use mathlib.Core.Bool.{false}
use mathlib.Core.List.{List, [], ◌∷◌, ◌++◌, flat_map, append-nil}
use mathlib.Core.Logic.{inr}
use mathlib.Core.Option.{none, some}
use lib.IntN.{pos, negsuc}
use lib.ListN.{length, take, drop, replicate}
use lib.Seq.{take_at}
use native.Mathlib.Omega.{arith}
use Rattle.model.specs.declared.Mode.{Mode}
use Rattle.model.specs.declared.Thing.{Thing}
use Rattle.model.specs.declared.Thing.TheVariants.{Argument, Movements, Net}
use Rattle.model.specs.declared.Fault.TheVariants.{Unbalanced, EqualFigures}
use Rattle.model.specs.declared.Version.TheVariants.{One}
use Rattle.model.specs.declared.Why.TheVariants.{Lacking}
use Rattle.model.specs.declared.Refusal.{Refusal}
use Rattle.std.specs.Prelude.{Ok, Err, Result}
use Rattle.model.specs.Numbers.{∞}
use Rattle.model.specs.First.{◌▸◌, first}
use Rattle.model.specs.Nets.{mode_no, entry_at, pair_no}
use Rattle.model.specs.Refusals.{answer, number, carried, wrong}
use Rattle.movement.specs.Runs.{Outcome, run_from, run, elsewhere, ends_at, certificate_refusal}
use Rattle.both_forms.specs.Visits.{arcs_among, arcs_of_mode, visited}
use Rattle.movement.specs.Figures.{sum, figure, change}
use Rattle.movement.specs.Exclusion.{same_figure, claim_refusal}
use Rattle.second_form.specs.Dead.{dead_pair, is_dead, first_dead}
use Rattle.second_form.specs.Complement.{bounded, complement_row, new_places, arcs_of, complement, refusal15, sheet_limits, complement_refusal}
use Rattle.model.specs.Replies.{yields}
use Rattle.both_forms.specs.Audit.{audited, audit_refusal}
use Rattle.model.specs.Lists.{joined, table}
use Rattle.model.specs.Firing.{stopped, rule_refusal, row_refusal, mode_refusal, fired}
use Rattle.both_forms.specs.Steps.{together, step_refusal, fired_together}
use Rattle.model.specs.WellFormed.{InRange, ArcOf, WellFormed}
use Rattle.both_forms.specs.WorkedExamples.{own_example}
use Rattle.model.specs.Markings.{unequal, marking_refusal}
use Rattle.model.proofs.First.{left-none, right-none, none_then}
use Rattle.movement.proofs.Markings.{marking-test}
use Rattle.second_form.proofs.Demand3.{demand3}
use Rattle.movement.proofs.Each.{each_at, sorted-rising}
use Rattle.heads.specs.Bytes.{u16_at, u32_at}
use Rattle.heads.specs.Checks.{known, head_refusal}
use Rattle.sheets.specs.lists.Weights.{signed, weight_refusal, weight_fields, weights_refusal}
use Rattle.sheets.specs.lists.Movements.{movement_fields, movements_refusal}
use Rattle.sheets.specs.Whole.{bytes_after, whole_weights, whole_movements}
use Rattle.sheets.specs.Decoded.{weights_of, movements_of}
use Rattle.opened.specs.Shape.{arc_offset}
use Rattle.sheets.specs.written.Promises.{ReadBack}
use Rattle.sheets.specs.written.Written.{bytes16, bytes32, version_bytes, of_mode, sheet_of}
use Rattle.sheets.proofs.written.RoundTrip.{written-then-read}
use Rattle.sheets.proofs.written.SheetLength.{section_one, fields-length, sheet-length}
use Rattle.sheets.specs.Emitted.{output}
use Rattle.sheets.specs.Emitted as emitting
use Rattle.fire.specs.Calls.{begin_refusal, test_refusal}
use Rattle.run.specs.declared.Ran.{Ran}
use Rattle.run.specs.Allowed.{RunAllows}
use Rattle.run.specs.Calls.{ran_of, before_run, run_of, visited_by, certify_refusal}
use Rattle.fire.specs.step.Calls.{step_modes, test_step_refusal}
use Rattle.statement.specs.weigh.Calls as weigh
use Rattle.statement.specs.weigh.Calls.{figured, figure_refusal, change_refusal}
use Rattle.ships.specs.Ships.{ship, added_by, removed_by, voyage_of, with_voyage}
use Rattle.ships.specs.Entered.{record_refusal, room_refusal as ship_room, figure_refusal as ship_figures, ship_refusal, entered}
use Rattle.ships.specs.Promises.{zeros}
use Rattle.statement.specs.exclude.Calls.{exclude_refusal}
use Rattle.opened.specs.dead.IsDead as one
use Rattle.opened.specs.dead.IsDead.{dead_refusal}
use Rattle.opened.specs.dead.FirstDead as first
use Rattle.opened.specs.size.Sizes as sizing
use Rattle.complement.specs.Complemented.{room_refusal, complementing_refusal}
use Rattle.text.specs.Decimals.{decimal_within, decimal}
use Rattle.pnml.specs.Pnml.{opening, closing, three, place_text, transition_text, weight_text, pre_text, post_text, arc_text, mode_text, body, pnml, Exportable}
use Rattle.pnml.specs.Singles.{singles, imported_sheet}
use Rattle.export.specs.Allowed.{ExportPnmlAllows}
use Rattle.export.proofs.Promises.{complements-exportable}
use Rattle.import.specs.Promises.{Small}
use Rattle.import.specs.Allowed.{ImportPnmlAllows}
use Rattle.import.proofs.Singles.{size_is}
use Rattle.import.proofs.Promises.{imports-exactly}
use Rattle.complement.specs.audit.Audits as auditing
use Rattle.complement.specs.audit.Audits.{auditing_refusal}
use Rattle.complement.proofs.audit.Answers.{told-found}
use Rattle.damaged.specs.Damaged.{considered}
use Rattle.run.specs.salvage.MovementSheet.{movement_sheet}
use Rattle.run.specs.salvage.Salvaged.{sheet_of_first, report_of, salvaged, trial, kept, report, fresh_sheet, salvage_refusal, salvage_of}
use Rattle.run.specs.salvage.Salvaged as salvaging
use Rattle.run.specs.salvage.Allowed.{SalvageAllows}
use Rattle.run.proofs.salvage.Answers.{kept-part, first-length, roomy}
use Rattle.run.proofs.salvage.Promises.{all-considered, same-modes, not_damaged}
use Rattle.promises.specs.OwnExample.{example, RunsTo, SalvagesTo, OwnExample}
use Rattle.promises.specs.OwnExample as own
use Rattle.promises.specs.Exchange.{ExportAnswers}
use Rattle.statement.specs.Example as sheets
use Rattle.promises.proofs.Exchange.{exports}

start-accepted : marking_refusal example (3 ∷ 0 ∷ []) ≡ none
unfolding marking_refusal first ◌▸◌
start-accepted = refl

well_formed_lem : WellFormed example
well_formed_lem =
    record {
      some_place = omega arith;
      places = record { many = omega arith; each = each_at (λ c. (1 ≤ c) × (c ≤ 64)) 0 (1 ∷ 1 ∷ []) (omega arith); in_total = omega arith };
      transitions = record { many = omega arith; each = each_at (λ c. (1 ≤ c) × (c ≤ 64)) 0 (1 ∷ []) (omega arith); in_total = omega arith };
      capacities = refl;
      capacity_in_range = each_at InRange ∞ example.capacity (omega arith);
      start = (marking-test example (3 ∷ 0 ∷ [])).0 start-accepted;
      arc_count = omega arith;
      each_arc =
          each_at (ArcOf example) _ example.arcs (
            record { mode = omega arith; pair = omega arith; pre = omega arith; post = omega arith; inhibitor = omega arith; not_blank = λ b. omega (arith, b.pre) },
            (record { mode = omega arith; pair = omega arith; pre = omega arith; post = omega arith; inhibitor = tt; not_blank = λ b. omega (arith, b.post) }, tt),
          );
      rising = sorted-rising example.arcs ((inr (refl, omega arith), tt), (tt, tt));
    }

pub read_back_lem : ReadBack One example
read_back_lem = written-then-read One example well_formed_lem (λ _. refl)

pub weights-read : whole_weights 2 sheets.weights ≡ none
unfolding whole_weights weights_refusal weight_fields weight_refusal known head_refusal bytes_after first ◌▸◌ signed u16_at u32_at
weights-read = refl

pub movements-read : whole_movements sheets.movements ≡ none
unfolding whole_movements movements_refusal movement_fields known head_refusal bytes_after ◌▸◌ u16_at u32_at
movements-read = refl

three-read : whole_movements own.three ≡ none
unfolding whole_movements movements_refusal movement_fields known head_refusal bytes_after ◌▸◌ u16_at u32_at
three-read = refl

begins : begin_refusal own.net (0 ∷ 0 ∷ []) ≡ none
unfolding begin_refusal
begins = none_then read_back_lem.accepted (rw read_back_lem.same)

moves-first : mode_refusal Argument example (mode_no 0) (3 ∷ 0 ∷ []) ≡ none
unfolding mode_refusal row_refusal rule_refusal first ◌▸◌ entry_at
moves-first = refl

pub tests : test_refusal own.net (3 ∷ 0 ∷ []) (mode_no 0) ≡ none
unfolding test_refusal
tests = none_then read_back_lem.accepted (rw read_back_lem.same (none_then start-accepted moves-first))

fires : fired example (mode_no 0) (3 ∷ 0 ∷ []) ≡ 2 ∷ 1 ∷ []
unfolding fired table entry_at
fires = refl

abbrev at_once : List Mode
at_once = mode_no 0 ∷ mode_no 0 ∷ mode_no 0 ∷ []

moves-at-once : step_refusal example at_once (3 ∷ 0 ∷ []) ≡ none
unfolding step_refusal together row_refusal rule_refusal first ◌▸◌ entry_at
moves-at-once = refl

pub steps : test_step_refusal own.net (3 ∷ 0 ∷ []) (0 ∷ 0 ∷ 0 ∷ []) ≡ none
unfolding test_step_refusal
steps = none_then read_back_lem.accepted (rw read_back_lem.same (none_then start-accepted moves-at-once))

landed : fired_together example at_once (3 ∷ 0 ∷ []) ≡ 0 ∷ 3 ∷ []
unfolding fired_together together table entry_at
landed = refl

-- the same where tokens are lacking
abbrev lacking : Thing → ℕ → Refusal
lacking about n = stopped about Lacking 0 n

none_aboard : marking_refusal example (0 ∷ 3 ∷ []) ≡ none
unfolding marking_refusal first ◌▸◌
none_aboard = refl

moves_not : mode_refusal Argument example (mode_no 0) (0 ∷ 3 ∷ []) ≡ some (lacking Argument 1)
unfolding mode_refusal row_refusal rule_refusal first ◌▸◌ entry_at
moves_not = refl

pub lacks : test_refusal own.net (0 ∷ 3 ∷ []) (mode_no 0) ≡ some (lacking Argument 1)
unfolding test_refusal
lacks = none_then read_back_lem.accepted (rw read_back_lem.same (none_then none_aboard moves_not))

moves_not_at-once : step_refusal example (step_modes own.five) (3 ∷ 0 ∷ []) ≡ some (lacking Argument 2)
unfolding step_refusal together row_refusal rule_refusal first ◌▸◌ entry_at
moves_not_at-once = refl

pub lacks-together : test_step_refusal own.net (3 ∷ 0 ∷ []) own.five ≡ some (lacking Argument 2)
unfolding test_step_refusal
lacks-together = none_then read_back_lem.accepted (rw read_back_lem.same (none_then start-accepted moves_not_at-once))

abbrev stops : Outcome
stops = record { accepted = 3; refusal = some (lacking Movements 1); marking = 0 ∷ 3 ∷ [] }

before-run : (sheet : List ℕ) → whole_movements sheet ≡ none → before_run own.net sheet (3 ∷ 0 ∷ []) ≡ none
unfolding before_run
before-run sheet e = none_then read_back_lem.accepted (none_then e (rw read_back_lem.same start-accepted))

runs : run example (movements_of sheets.movements) (3 ∷ 0 ∷ []) ≡ stops
unfolding run_from movements_of table u16_at u32_at mode_refusal row_refusal rule_refusal first ◌▸◌ entry_at fired
runs = refl

pub run_is : run_of own.net sheets.movements (3 ∷ 0 ∷ []) ≡ stops
unfolding run_of
run_is = rw (before-run sheets.movements movements-read, read_back_lem.same) runs

visits : visited example (movements_of sheets.movements) (3 ∷ 0 ∷ []) ≡ 8
unfolding visited arcs_of_mode arcs_among run_from movements_of table u16_at u32_at mode_refusal row_refusal rule_refusal first ◌▸◌ entry_at fired
visits = refl

pub visits_eight : visited_by own.net sheets.movements (3 ∷ 0 ∷ []) ≡ 8
unfolding visited_by
visits_eight = rw (before-run sheets.movements movements-read, read_back_lem.same) visits

certificate : certificate_refusal example (movements_of own.three) (0 ∷ 3 ∷ []) ≡ none
unfolding certificate_refusal ends_at elsewhere run_from movements_of table u16_at u32_at mode_refusal row_refusal rule_refusal first ◌▸◌ entry_at fired
certificate = refl

pub certifies : certify_refusal own.net own.three (0 ∷ 3 ∷ []) ≡ none
unfolding certify_refusal
certifies = none_then read_back_lem.accepted (none_then three-read (rw read_back_lem.same certificate))

stops-certificate : certificate_refusal example (movements_of sheets.movements) (0 ∷ 3 ∷ []) ≡ some (lacking Movements 1)
unfolding certificate_refusal ends_at elsewhere run_from movements_of table u16_at u32_at mode_refusal row_refusal rule_refusal first ◌▸◌ entry_at fired
stops-certificate = refl

pub lacks-certified : certify_refusal own.net sheets.movements (0 ∷ 3 ∷ []) ≡ some (lacking Movements 1)
unfolding certify_refusal
lacks-certified = none_then read_back_lem.accepted (none_then movements-read (rw read_back_lem.same stops-certificate))

pub runs-whole : (run_of own.net own.three (3 ∷ 0 ∷ [])).refusal ≡ none
unfolding run_of certificate_refusal ends_at
runs-whole = rw (before-run own.three three-read, read_back_lem.same) (left-none _ _ (right-none _ _ certificate))

figure-accepted : figure_refusal own.net sheets.weights (3 ∷ 0 ∷ []) ≡ none
unfolding figure_refusal
figure-accepted = none_then read_back_lem.accepted (rw read_back_lem.same (none_then weights-read start-accepted))

figure-is : figure example (weights_of sheets.weights) (3 ∷ 0 ∷ []) ≡ pos 750
unfolding figure sum weights_of table signed u16_at u32_at
figure-is = refl

change-accepted : change_refusal own.net sheets.weights (mode_no 0) ≡ none
unfolding change_refusal
change-accepted = none_then read_back_lem.accepted (rw read_back_lem.same (none_then weights-read refl))

change-is : change example (weights_of sheets.weights) (mode_no 0) ≡ negsuc 249
unfolding change sum weights_of table signed u16_at u32_at entry_at
change-is = refl

sailed : voyage_of (ship own.net sheets.weights sheets.movements)
    ≡ record { accepted = 3; answer = Err (lacking Movements 1); added = pos 0; removed = pos 750 }
unfolding voyage_of added_by removed_by change sum weights_of movements_of table signed u16_at u32_at entry_at
sailed = rw (read_back_lem.same, runs)

ship-accepted : ship_refusal zeros (ship own.net sheets.weights sheets.movements) ≡ none
unfolding ship_refusal record_refusal ship_room ship_figures with_voyage
ship-accepted =
    none_then refl
    (none_then refl (none_then read_back_lem.accepted (rw read_back_lem.same (none_then weights-read (none_then movements-read (rw sailed))))))

even-read : whole_weights 2 own.even ≡ none
unfolding whole_weights weights_refusal weight_fields weight_refusal known head_refusal bytes_after first ◌▸◌ signed u16_at u32_at
even-read = refl

excludes : (weights claim : List ℕ) → whole_weights 2 weights ≡ none → marking_refusal example claim ≡ none
    → exclude_refusal own.net weights claim ≡ claim_refusal example (weights_of weights) claim
unfolding exclude_refusal
excludes weights claim w m = none_then read_back_lem.accepted (rw read_back_lem.same (none_then w (none_then m refl)))

four-marks : marking_refusal example (3 ∷ 1 ∷ []) ≡ none
unfolding marking_refusal first ◌▸◌
four-marks = refl

landed-marks : marking_refusal example (0 ∷ 3 ∷ []) ≡ none
unfolding marking_refusal first ◌▸◌
landed-marks = refl

four-excluded : claim_refusal example (weights_of own.even) (3 ∷ 1 ∷ []) ≡ none
unfolding claim_refusal same_figure figure change sum weights_of table signed u16_at u32_at entry_at first ◌▸◌
four-excluded = refl

landed-equal : claim_refusal example (weights_of own.even) (0 ∷ 3 ∷ []) ≡ some (wrong Net EqualFigures)
unfolding claim_refusal same_figure figure change sum weights_of table signed u16_at u32_at entry_at first ◌▸◌
landed-equal = refl

mode_unbalanced : claim_refusal example (weights_of sheets.weights) (3 ∷ 1 ∷ []) ≡ some (wrong Net (Unbalanced (mode_no 0)))
unfolding claim_refusal same_figure figure change sum weights_of table signed u16_at u32_at entry_at first ◌▸◌
mode_unbalanced = refl

dead-accepted : dead_refusal own.net (mode_no 0) ≡ none
unfolding dead_refusal
dead-accepted = none_then read_back_lem.accepted (rw read_back_lem.same)

alive : is_dead example (mode_no 0) ≡ false
unfolding is_dead dead_pair first ◌▸◌ entry_at
alive = refl

none-dead : first_dead example ≡ none
unfolding first_dead dead_pair first ◌▸◌ entry_at
none-dead = refl

complement-passes : (offset : ℕ → ℕ) → complement_refusal offset example ≡ none
unfolding complement_refusal refusal15 is_dead dead_pair sheet_limits complement arcs_of new_places complement_row bounded joined entry_at first ◌▸◌
complement-passes offset = refl

complement-length : length (sheet_of One (complement example)) ≡ 91
unfolding version_bytes is_dead dead_pair first ◌▸◌ complement arcs_of new_places complement_row bounded joined entry_at
complement-length = omega (arith, sheet-length One (complement example), fields-length One (complement example), section_one (complement example))

complement-accepted : complementing_refusal own.net (length own.room) ≡ none
unfolding complementing_refusal room_refusal
complement-accepted = none_then read_back_lem.accepted (rw read_back_lem.same (none_then (complement-passes (arc_offset own.net)) (rw (read_back_lem.version, complement-length))))

three-counts : unequal (complement example) (2 ∷ 1 ∷ 3 ∷ []) ≡ none
unfolding complement new_places bounded joined
three-counts = refl

audit-accepted : auditing_refusal own.net (3 ∷ 1 ∷ []) (2 ∷ 1 ∷ 3 ∷ []) ≡ none
unfolding auditing_refusal audit_refusal
audit-accepted =
    none_then read_back_lem.accepted
    (rw read_back_lem.same (none_then (complement-passes (arc_offset own.net)) (none_then refl three-counts)))

left_aboard : audited example (3 ∷ 1 ∷ []) (2 ∷ 1 ∷ 3 ∷ []) ≡ some (record { pair = pair_no 0; excess = pos 1 })
unfolding audited bounded joined first ◌▸◌
left_aboard = refl

run_allows : (o : Ran × List ℕ) → RunAllows own.net sheets.movements (3 ∷ 0 ∷ []) o → RunsTo o
run_allows o a =
    let told : o.0 ≡ ran_of stops 8 = a.0 ∙ ap₂ ran_of run_is visits_eight in
    record {
      accepted = ap (λ r. r.accepted) told;
      visited = ap (λ r. r.visited) told;
      refused = ap (λ r. carried r.answer) told;
      marking = a.1 ∙ ap (λ r. r.marking) run_is;
    }

-- a salvage of a whole sheet is told by its run
lands : run example (movements_of own.three) (3 ∷ 0 ∷ []) ≡ record { accepted = 3; refusal = none; marking = 0 ∷ 3 ∷ [] }
unfolding run_from movements_of table u16_at u32_at mode_refusal row_refusal rule_refusal first ◌▸◌ entry_at fired
lands = refl

module _ (s : List ℕ) (read : whole_movements s ≡ none) (o : Outcome) (is : run example (movements_of s) (3 ∷ 0 ∷ []) ≡ o) (fits : 5 + 2 * o.accepted ≤ 91) where
  trial-is : trial own.net s ≡ o
  unfolding trial
  trial-is = rw (read_back_lem.same, same-modes s read) is

  salvage-accepted : salvage_refusal own.net s (length own.room) ≡ none
  unfolding salvage_refusal
  salvage-accepted =
      none_then read_back_lem.accepted
      (none_then (not_damaged s read) (roomy s (kept own.net s) (kept-part own.net s) (omega (arith, ap (λ o. o.accepted) trial-is))))

  salvage-told : salvage_of own.net s own.room ≡ Ok (report_of s o.accepted (answer o.refusal))
  salvage-told =
      ap (λ r. salvaged r (report own.net s)) salvage-accepted ∙ ap (λ o. Ok (report_of s o.accepted (answer o.refusal))) trial-is

pub salvages-whole : salvage_of own.net own.three own.room ≡ Ok (report_of own.three 3 (Ok tt))
salvages-whole = salvage-told own.three three-read _ lands (omega arith)

pub salvages-three : salvage_of own.net sheets.movements own.room ≡ Ok (report_of sheets.movements 3 (Err (lacking Movements 1)))
salvages-three = salvage-told sheets.movements movements-read stops runs (omega arith)

four-considered : considered sheets.movements ≡ 4
unfolding u32_at u16_at
four-considered = all-considered sheets.movements movements-read

three-written : movement_sheet (take 3 (movements_of sheets.movements)) ≡ own.three
unfolding movement_sheet movements_of table u16_at u32_at bytes16 bytes32 flat_map
three-written = refl

fresh-is : fresh_sheet own.net sheets.movements ≡ own.three
fresh-is =
    ap (λ o. sheet_of_first sheets.movements o.accepted) (trial-is sheets.movements movements-read stops runs (omega arith))
    ∙ ap (λ ts. movement_sheet (take 3 ts)) (same-modes sheets.movements movements-read)
    ∙ three-written

salvage_allows : (o : Result Report Refusal × List ℕ) → SalvageAllows own.net sheets.movements own.room o → SalvagesTo o
salvage_allows o a =
    let s = sheets.movements in
    let long = first-length s 3 (omega (arith, four-considered)) in
    record {
      report = report_of s 3 (Err (lacking Movements 1));
      told = ap salvaging.told (a.0 ∙ salvages-three);
      counts = (long, refl, omega (arith, four-considered));
      stop = refl;
      sheet =
          ap (take 11)
          (a.1
          ∙ ap (λ r. output r (fresh_sheet own.net s) own.room) (salvage-accepted s movements-read stops runs (omega arith))
          ∙ ap (λ sheet. output none sheet own.room) fresh-is)
          ∙ take_at own.three (drop 11 own.room) 11 refl;
    }

-- its complement in PNML: the text is computed from the net, whose K and I are all unbounded
printed-is : complement example ≡ own_example.printed
unfolding is_dead dead_pair first ◌▸◌ complement arcs_of new_places complement_row bounded joined entry_at
printed-is = refl

pub printed-exportable : Exportable own_example.printed
printed-exportable =
    let c = demand3 example (record { well_formed = well_formed_lem; offset = λ k. 0; accepted = complement-passes (λ k. 0) }) in
    subst Exportable printed-is (complements-exportable example c.is_net)

printed-back : ReadBack One own_example.printed
printed-back = written-then-read One own_example.printed printed-exportable.well_formed (λ _. refl)

printed-text : pnml own_example.printed ≡ own.text
unfolding opening closing three place_text transition_text weight_text pre_text post_text arc_text mode_text body pnml joined of_mode flat_map decimal decimal_within
printed-text = refl

export_allows : (o : Result ℕ Refusal × List ℕ) → ExportPnmlAllows own.complement_net (replicate 887 0) o → (emitting.told o.0 ≡ yields 887) × (o.1 ≡ own.text)
unfolding opening closing
export_allows o a =
    let same = printed-back.same in
    let e = subst (λ t. ExportAnswers t (replicate 887 0) o) (ap pnml same ∙ printed-text) (exports own.complement_net _ o a printed-back.accepted (rw same printed-exportable)) in
    let w = e.written (omega arith) in
    (w.0, w.1 ∙ append-nil own.text)

singles-printed : singles own_example.printed ≡ own_example.printed
singles-printed = refl

import_allows : (o : Result ℕ Refusal × List ℕ) → ImportPnmlAllows own.text own.room o → (emitting.told o.0 ≡ yields 91) × (o.1 ≡ own.complement_net)
import_allows o a =
    let net = own_example.printed in
    let small : Small net = record { exportable = printed-exportable; pairs = omega arith; modes = omega arith } in
    let size : length (imported_sheet net) ≡ 91 = omega (arith, size_is net printed-exportable (omega arith) (omega arith)) in
    let y = imports-exactly.all net small own.room (omega (arith, size)) o (subst (λ t. ImportPnmlAllows t own.room o) (sym printed-text) a) in
    (ap emitting.told y.0 ∙ ap yields size, y.1 ∙ ap (λ n. imported_sheet net ++ drop n own.room) size ∙ append-nil (imported_sheet net) ∙ ap (sheet_of One) singles-printed)

pub own-example : OwnExample
unfolding figured entered with_voyage
own-example =
    record {
      begin = λ o a. (ap number a.0 ∙ rw begins, a.1 ∙ rw (begins, read_back_lem.same));
      fire = λ o a. (ap number a.0 ∙ rw tests, a.1 ∙ rw (tests, read_back_lem.same) fires);
      fire_step = λ o a. (ap number a.0 ∙ rw steps, a.1 ∙ rw (steps, read_back_lem.same) landed);
      test = λ told a. ap carried a ∙ ap (λ o. carried (answer o)) lacks;
      test_step = λ told a. ap carried a ∙ ap (λ o. carried (answer o)) lacks-together;
      run = run_allows;
      salvage = salvage_allows;
      certify = λ told a. ap number a ∙ rw certifies;
      figure = λ o a. ap weigh.told a ∙ rw (figure-accepted, read_back_lem.same, figure-is);
      change = λ o a. ap weigh.told a ∙ rw (change-accepted, read_back_lem.same, change-is);
      add_ship = λ o a. (ap number a.0 ∙ rw ship-accepted, a.1 ∙ rw (ship-accepted, sailed));
      exclude = λ told a. ap number a ∙ rw (excludes own.even (3 ∷ 1 ∷ []) even-read four-marks, four-excluded);
      not_excluded = λ told a. ap carried a ∙ rw (excludes own.even (0 ∷ 3 ∷ []) even-read landed-marks, landed-equal);
      not_balanced = λ told a. ap carried a ∙ rw (excludes sheets.weights (3 ∷ 1 ∷ []) weights-read four-marks, mode_unbalanced);
      is_dead = λ o a. ap one.told a ∙ rw (dead-accepted, read_back_lem.same, alive);
      first_dead = λ o a. ap first.told a ∙ rw (read_back_lem.accepted, read_back_lem.same, none-dead);
      size = λ o a. ap sizing.told a ∙ rw (read_back_lem.accepted, read_back_lem.same);
      complement = λ o a. ap emitting.told a.0 ∙ rw (complement-accepted, read_back_lem.version, read_back_lem.same, complement-length);
      export_pnml = export_allows;
      import_pnml = import_allows;
      audit = λ o a. ap auditing.told a ∙ told-found _ audit-accepted ∙ rw read_back_lem.same (ap yields left_aboard);
    }
