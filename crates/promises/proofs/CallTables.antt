-- Each call's chain of checks is read off its table.
use Prim.Native.Nat.{ℕ, zero, suc, ◌+◌, ◌-◌, ◌<◌}
use mathlib.Core.Path.{◌≡◌, refl, sym, ◌∙◌, ap, subst, subst⁻¹}
use mathlib.Core.Bool.{Bool, true, false, false≢true, not, ◌&&◌}
use mathlib.Core.List.{List, [], ◌∷◌}
use mathlib.Core.Logic.{◌⊎◌, ◌≢◌, inl, inr, ⊎_elim}
use mathlib.Core.Option.{Option, none, some}
use lib.Dec.{leb, ltb, eqb}
use lib.IntN.{ℤ, pos}
use lib.ListN.{length, take, get_or}
use borrow.Author.Tests.{le-ltb, ne_eqb}
use native.Mathlib.Omega.{arith}
use Rattle.model.specs.declared.Pair.{Pair}
use Rattle.model.specs.declared.Mode.{Mode}
use Rattle.model.specs.declared.Thing.{Thing}
use Rattle.model.specs.declared.Thing.TheVariants.{Net, Weights, Movements, Argument}
use Rattle.model.specs.declared.Why.{Why}
use Rattle.model.specs.declared.Why.TheVariants.{Lacking, OverCapacity, Inhibited, OverLimit}
use Rattle.model.specs.declared.Fault.TheVariants.{CutShort, WrongVersion, WrongLength, NotThere, EndsElsewhere, NotUnbounded, RuleLost}
use Rattle.model.specs.declared.CapacityRule.{CapacityRule}
use Rattle.model.specs.declared.CapacityRule.TheVariants.{Strong, Weak}
use Rattle.model.specs.declared.Version.{Version}
use Rattle.model.specs.declared.Version.TheVariants.{One, Two}
use Rattle.model.specs.declared.Refusal.{Refusal}
use Rattle.std.specs.Prelude.{Err}
use Rattle.model.specs.First.{◌▸◌, first, only_if}
use Rattle.model.specs.Refusals.{carries, carried, wrong, thing_number}
use Rattle.model.specs.RefusalTables.{Table, row, ◌then◌, each, Reads}
use Rattle.model.specs.Numbers.{ℕ∞, fin, ∞, above_by, limit}
use Rattle.model.specs.Nets.{PNet, arc_no, pairs, pair_no, mode_no, count, modes, K}
use Rattle.model.specs.Firing.{stops, stopped_by, stopped, lowest_stop, rule_refusal, row_refusal, rooms, mode_refusal, fired}
use Rattle.both_forms.specs.Steps.{together, step_refusal}
use Rattle.movement.specs.Runs.{Outcome, go_on, run_from, run, elsewhere, ends_at, certificate_refusal}
use Rattle.second_form.specs.Complement.{finite, complement, refusal15, sheet_limits, complement_refusal}
use Rattle.model.specs.Markings.{unequal}
use Rattle.both_forms.specs.Audit.{audit_refusal}
use Rattle.movement.specs.Figures.{figure, change}
use Rattle.movement.specs.Exclusion.{same_figure, claim_refusal}
use Rattle.model.proofs.First.{below_or, left-none, then-none, then_assoc, then-under}
use Rattle.movement.proofs.Runs.{runs}
use Rattle.model.proofs.Decisions.{Decided, by_less, by-at-most, by_equal, by-above, by_not, by_or, by_and, by-other}
use Rattle.model.proofs.RefusalTables.{four, reads-row, reads_plain, reads_then, reads-each, reads-either}
use Rattle.model.proofs.Firing.{one-each-reads, missing-reads, refusal-table}
use Rattle.both_forms.proofs.Steps.{pre_is, post_is, low-is, by-some}
use Rattle.movement.proofs.Exclusion.{by-same}
use Rattle.heads.specs.Layout.{body_length, sheet_end, version}
use Rattle.heads.specs.Checks.{known, head_refusal}
use Rattle.sheets.specs.nets.Nets.{net_fields, net_refusal}
use Rattle.sheets.specs.Whole.{bytes_after, whole_net, whole_weights, whole_movements}
use Rattle.sheets.specs.Decoded.{net_of, weights_of, movements_of}
use Rattle.sheets.specs.RefusalTables.{head_table}
use Rattle.sheets.proofs.RefusalTables.{sheet_tables}
use Rattle.sheets.specs.written.Written.{version_number}
use Rattle.sheets.proofs.written.Versions.{version-known}
use Rattle.opened.specs.Shape.{arc_offset, inhibitor_offset}
use Rattle.fire.specs.Calls.{begin_refusal, test_refusal}
use Rattle.run.specs.Calls.{before_run, run_of, certify_refusal}
use Rattle.fire.specs.step.Calls.{step_modes, test_step_refusal}
use Rattle.statement.specs.weigh.Calls.{figure_refusal, change_refusal}
use Rattle.ships.specs.declared.Fleet.{Fleet}
use Rattle.ships.specs.Ships.{Ship, voyage_of, with_voyage}
use Rattle.ships.specs.Entered.{record_refusal, room_refusal as ship_room, figure_refusal as ship_figures, ship_refusal}
use Rattle.statement.proofs.fleet.Entering.{by_bounds, by-past}
use Rattle.statement.specs.exclude.Calls.{exclude_refusal}
use Rattle.opened.specs.dead.IsDead.{dead_refusal}
use Rattle.complement.specs.Complemented.{complement_sheet, room_refusal, complementing_refusal}
use Rattle.convert.specs.Converted.{of_version, converted_sheet, lost_rule, open_refusal, convert_refusal}
use Rattle.bare.specs.Strip.{bound_of, strip_refusal}
use Rattle.convert.specs.strip.Stripped.{stripped_net, stripped_sheet, stripping_refusal}
use Rattle.convert.specs.strip.Stripped as stripping
use Rattle.export.specs.Exports.{capacity_offset, bounded_capacity, bounded_inhibitor, refusal19, room_refusal as export_room, export_refusal, export_text}
use Rattle.import.proofs.RefusalTable.{import_table_lem}
use Rattle.complement.specs.audit.Audits.{auditing_refusal}
use Rattle.promises.specs.CallTables.{bytes_left, whole_net_table, whole_weight_table, whole_movement_table, marking_after, moves_table, certificate_table, step_table, room_table, convert_table, strip_table, export_table, RunReads, SalvageReads, CallTables, claim_table, add_ship_table}
use Rattle.damaged.specs.Damaged.{damaged_refusal, modes_in}
use Rattle.run.specs.salvage.Salvaged.{fresh_sheet, trial, salvage_refusal}

-- a sheet's table, then left-over bytes
whole-reads : (thing : Thing) (s : List ℕ) {table : Table} {o : Option Refusal} → Reads table o → Reads (table then bytes_left (thing_number thing) s) (o ▸ bytes_after thing s)
unfolding bytes_after
whole-reads thing s sheet = reads_then sheet (reads_plain _ (by_less (sheet_end s) (length s)))

net-reads : (s : List ℕ) → Reads (whole_net_table s) (whole_net s)
unfolding whole_net
net-reads s = whole-reads Net s (sheet_tables.nets s)

weights-reads : (pairs : ℕ) (s : List ℕ) → Reads (whole_weight_table pairs s) (whole_weights pairs s)
unfolding whole_weights
weights-reads pairs s = whole-reads Weights s (sheet_tables.weights pairs s)

movements-reads : (s : List ℕ) → Reads (whole_movement_table s) (whole_movements s)
unfolding whole_movements
movements-reads s = whole-reads Movements s (sheet_tables.movements s)

-- a run: its first refusal is that of the first movement refused, each tried at the marking that those before it gave
first-front : (n : ℕ) (f : ℕ → Option Refusal) → first (suc n) f ≡ f 0 ▸ first n (λ i. f (suc i))
unfolding first ◌▸◌
first-front zero f = sym (then-none (f 0))
first-front (suc n) f = ap (λ o. o ▸ f (suc n)) (first-front n f) ∙ then_assoc (f 0) (first n (λ i. f (suc i))) (f (suc n))

goes_on : (o : Option Refusal) (k : ℕ) (m : List ℕ) (next : Outcome) → (go_on o k m next).refusal ≡ o ▸ next.refusal
unfolding ◌▸◌
goes_on none k m next = refl
goes_on (some r) k m next = refl

module _ (net : PNet) where
  abbrev move_refusal : List Mode → List ℕ → ℕ → Option Refusal
  move_refusal ts m k = mode_refusal Movements net (get_or ts k (mode_no 0)) (marking_after net (take k ts) m)

  run-refusal : (k : ℕ) (ts : List Mode) (m : List ℕ) → (run_from net k ts m).refusal ≡ first (length ts) (move_refusal ts m)
  unfolding run_from marking_after first
  run-refusal k [] m = refl
  run-refusal k (t ∷ ts) m =
      goes_on (mode_refusal Movements net t m) k m (run_from net (k + 1) ts (fired net t m))
      ∙ ap (λ o. mode_refusal Movements net t m ▸ o) (run-refusal (k + 1) ts (fired net t m))
      ∙ sym (first-front (length ts) (move_refusal (t ∷ ts) m))

  run-whole : (k : ℕ) (ts : List Mode) (m : List ℕ) → (run_from net k ts m).refusal ≡ none → (run_from net k ts m).marking ≡ marking_after net ts m
  unfolding run_from marking_after
  run-whole k [] m e = refl
  run-whole k (t ∷ ts) m e =
      let passed = left-none (mode_refusal Movements net t m) _ (sym (goes_on _ k m _) ∙ e) in
      rw passed (run-whole (k + 1) ts (fired net t m) (rw passed at e))

  moves-reads : (ts : List Mode) (m : List ℕ) → Reads (moves_table net ts m) (run net ts m).refusal
  moves-reads ts m = subst⁻¹ (Reads _) (run-refusal 0 ts m) (reads-each (length ts) (λ k l. refusal-table.mode Movements net _ _))

  certificate-reads : (ts : List Mode) (claim : List ℕ) → Reads (certificate_table net ts claim) (certificate_refusal net ts claim)
  unfolding certificate_refusal ends_at elsewhere
  certificate-reads ts claim =
      reads_then (one-each-reads net claim)
      (subst⁻¹ (Reads _) (then-under (run net ts net.start).refusal (λ e. rw (run-whole 0 ts net.start e)))
      (reads_then (moves-reads ts net.start)
      (reads-each (pairs net) (λ p l. reads_plain (wrong Argument (EndsElsewhere (pair_no p))) (by_not (by_equal (count (marking_after net ts net.start) p) (count claim p)))))))

module _ (net movements marking : List ℕ) where
  begun-run : before_run net movements marking ≡ none → run_of net movements marking ≡ run (net_of net) (movements_of movements) marking
  unfolding run_of
  begun-run e = rw e

  run-reads : RunReads net movements marking
  unfolding run_of before_run
  run-reads =
      record {
        refusal =
            subst (Reads _) (four _ _ _ _ ∙ sym (goes_on (before_run net movements marking) 0 marking _))
            (reads_then (net-reads net)
            (reads_then (movements-reads movements)
            (reads_then (refusal-table.marking (net_of net) marking) (moves-reads (net_of net) (movements_of movements) marking))));
        stops_at = λ e l.
            let same = begun-run e in
            rw same
            (subst⁻¹ (Reads _) ((runs (net_of net) (movements_of movements) marking).refused (rw same at l)) (refusal-table.mode Movements (net_of net) _ _));
      }

-- a step: 11 to 14 of its row, in the words of the members
module _ (net : PNet) (ts : List Mode) (m : List ℕ) where
  sums-read : (why : Why) {P : ℕ → Type 0} {by : ℕ → ℕ} → ((p : ℕ) → Decided (stops why (together net ts p) (rooms net (together net ts) p) (count m p)) (P p))
      → ((p : ℕ) → by p ≡ stopped_by why (together net ts p) (rooms net (together net ts) p) (count m p))
      → Reads (each (pairs net) (λ p. row (P p) (carried (Err (stopped Argument why p (by p))))))
      (lowest_stop Argument (pairs net) (rooms net (together net ts)) (together net ts) (count m) why)
  sums-read why d same = reads-each (pairs net) (λ p l. reads-row _ (d p) (λ h. ap (λ n. carried (Err (stopped Argument why p n))) (same p)))

  step-reads : Reads (step_table net ts m) (step_refusal net ts m)
  unfolding step_refusal row_refusal rule_refusal
  step-reads =
      reads_then (reads_plain _ (by_or (by_equal (length ts) 0) (by_less 64 (length ts))))
      (reads_then (reads-each (length ts) (λ i l. missing-reads Argument net (get_or ts i (mode_no 0))))
      (subst (Reads _) (four _ _ _ _)
      (reads_then
      (sums-read Lacking (λ p. rw (← pre_is net p ts) (by_less (count m p) (together net ts p).pre))
      (λ p. ap (λ n. n - count m p) (sym (pre_is net p ts))))
      (reads_then
      (sums-read OverCapacity
      (λ p. rw (← post_is net p ts, ← pre_is net p ts) (by-above (count m p + (together net ts p).post) (rooms net (together net ts) p)))
      (λ p. cc (post_is net p ts, pre_is net p ts)))
      (reads_then (sums-read Inhibited (λ p. by-some net p (count m p) ts) (λ p. ap (above_by (count m p)) (sym (low-is net p ts))))
      (sums-read OverLimit
      (λ p. rw (← pre_is net p ts, ← post_is net p ts) (by_less limit (count m p - (together net ts p).pre + (together net ts p).post)))
      (λ p. rw (← pre_is net p ts, ← post_is net p ts))))))))

-- a claim: every mode's weight change, then the figures
claim-reads : (net : PNet) (weights : List ℤ) (claim : List ℕ) → Reads (claim_table net weights claim) (claim_refusal net weights claim)
unfolding claim_refusal same_figure
claim-reads net weights claim =
    reads_then (reads-each (modes net) (λ t l. reads_plain _ (by_not (by-same (change net weights (mode_no t)) (pos 0)))))
    (reads_plain _ (by-same (figure net weights claim) (figure net weights net.start)))

-- a ship: the record, the room for it, its sheets, then the figures
ship-reads : (found : Fleet) (s : Ship) → Reads (add_ship_table found s) (ship_refusal found s)
unfolding ship_refusal record_refusal ship_room ship_figures with_voyage voyage_of
ship-reads found s =
    reads_then (reads_plain _ (by_bounds found))
    (reads_then (reads_plain _ (by_less 1000 (found.ships + 1)))
    (reads_then (net-reads s.net)
    (reads_then (weights-reads (pairs (net_of s.net)) s.weights)
    (reads_then (movements-reads s.movements) (reads_plain _ (by_or (by-past _) (by-past _)))))))

-- complementing
by-finite : (x : ℕ∞) → Decided (finite x) ((i : ℕ) × (x ≡ fin i))
by-finite (fin i) = record { sound = λ _. (i, refl); complete = λ _. refl }
by-finite ∞ = record { sound = λ e. absurd (false≢true e); complete = λ h. ap finite h.1 }

by-unbounded : (x : ℕ∞) → Decided (not (finite x)) (x ≡ ∞)
by-unbounded (fin i) = record { sound = λ e. absurd (false≢true e); complete = λ h. ap (λ x. not (finite x)) h }
by-unbounded ∞ = record { sound = λ _. refl; complete = λ _. refl }

-- one of three limits is passed
past-limits : (places pairs arcs : ℕ)
    → Decided (not (leb places 64 && leb pairs 256 && leb arcs 2048)) ((64 < places) ⊎ (256 < pairs) ⊎ (2048 < arcs))
past-limits places pairs arcs =
    by-other (by_not (by_and (by_and (by-at-most places 64) (by-at-most pairs 256)) (by-at-most arcs 2048)))
    (λ no.
    ⊎_elim inl
    (λ a. inr (⊎_elim inl (λ b. inr (⊎_elim (λ c. c) (λ c. absurd (no ((a, b), c))) (below_or 2048 arcs))) (below_or 256 pairs)))
    (below_or 64 places))
    (⊎_elim (λ p h. omega (arith, h)) (⊎_elim (λ p h. omega (arith, h)) (λ p h. omega (arith, h))))

room-reads : (s : List ℕ) (room : ℕ) → Reads (room_table s room) (room_refusal s room)
unfolding room_refusal complement_refusal refusal15 sheet_limits
room-reads s room =
    let net = net_of s in
    subst (Reads _) (sym (then_assoc _ _ _))
    (reads_then (reads-each (length net.arcs) (λ k l. reads_plain _ (by_and (by-finite _) (by-unbounded _))))
    (reads-either _ (past-limits (length (complement net).colours) (pairs (complement net)) (length (complement net).arcs))
    (by_less room (length (complement_sheet s)))))

-- stripping: the pair, its K, one of four limits or the output slice
past-four : (k transitions modes arcs : ℕ)
    → Decided (not (leb k 63 && leb transitions 64 && leb modes 256 && leb arcs 2048)) ((63 < k) ⊎ (64 < transitions) ⊎ (256 < modes) ⊎ (2048 < arcs))
past-four k transitions modes arcs =
    by-other (by_not (by_and (by_and (by_and (by-at-most k 63) (by-at-most transitions 64)) (by-at-most modes 256)) (by-at-most arcs 2048)))
    (λ no.
    ⊎_elim inl
    (λ a. inr (⊎_elim inl (λ b. inr (⊎_elim inl (λ c. inr (⊎_elim (λ d. d) (λ d. absurd (no (((a, b), c), d))) (below_or 2048 arcs))) (below_or 256 modes))) (below_or 64 transitions)))
    (below_or 63 k))
    (⊎_elim (λ p h. omega (arith, h)) (⊎_elim (λ p h. omega (arith, h)) (⊎_elim (λ p h. omega (arith, h)) (λ p h. omega (arith, h)))))

strip-reads : (s : List ℕ) (p : Pair) (room : ℕ) → Reads (strip_table s p room) (stripping_refusal s p room)
unfolding stripping_refusal stripping.room_refusal strip_refusal
strip-reads s p room =
    let stripped = stripped_net s p in
    reads_then (net-reads s)
    (subst (Reads _) (sym (then_assoc _ _ _ ∙ ap (λ o. only_if (leb (pairs (net_of s)) p.0) (wrong Argument NotThere) ▸ o) (then_assoc _ _ _)))
    (reads_then (reads_plain _ (by-at-most (pairs (net_of s)) p.0))
    (reads_then (reads_plain _ (by-unbounded _))
    (reads-either _ (past-four (bound_of (K (net_of s) p.0)) (length stripped.modes_of) (modes stripped) (length stripped.arcs))
    (by_less room (length (stripped_sheet s p)))))))

-- an export: each K, then each I, then the output slice
export-reads : (s : List ℕ) (room : ℕ) → Reads (export_table s room) (export_refusal s room)
unfolding export_refusal export_room refusal19 bounded_capacity bounded_inhibitor
export-reads s room =
    let net = net_of s in
    let at_pair = λ (p : ℕ). wrong Net (NotUnbounded (capacity_offset s p)) in
    let at_arc = λ (k : ℕ). wrong Net (NotUnbounded (inhibitor_offset s k)) in
    reads_then (net-reads s)
    (subst (Reads _) (sym (then_assoc _ _ _))
    (reads_then (reads-each (pairs net) (λ p l. reads_plain (at_pair p) (by-finite (K net p))))
    (reads_then (reads-each (length net.arcs) (λ k l. reads_plain (at_arc k) (by-finite (arc_no net.arcs k).entry.inhibitor)))
    (reads_plain _ (by_less room (length (export_text s)))))))

-- an audit: where the room is the sheet's own length, complementing is never short of it
room-refusal : (s : List ℕ) → room_refusal s (length (complement_sheet s)) ≡ complement_refusal (arc_offset s) (net_of s)
unfolding room_refusal
room-refusal s = let n = length (complement_sheet s) in rw (le-ltb n n (omega arith)) (then-none _)

audit-refusal : (net marking beside : List ℕ)
    → complementing_refusal net (length (complement_sheet net)) ▸ unequal (net_of net) marking ▸ unequal (complement (net_of net)) beside
    ≡ auditing_refusal net marking beside
unfolding complementing_refusal auditing_refusal audit_refusal
audit-refusal net marking beside = rw (room-refusal net) (then_assoc _ _ _)

-- a conversion: 23 where the target version has no rule byte and the rule is the weak one
lost : Version → CapacityRule → Bool
lost One Weak = true
lost One Strong = false
lost Two rule = false

by-lost : (target : Version) (rule : CapacityRule) → Decided (lost target rule) ((target ≡ One) × (rule ≡ Weak))
unfolding lost
by-lost One Weak = record { sound = λ _. (refl, refl); complete = λ _. refl }
by-lost One Strong = record { sound = λ e. absurd (false≢true e); complete = λ h. let z = h.1 in let y : ◌≡◌ {A = ℕ} 0 1 = cc in absurd (omega arith) }
by-lost Two rule = record { sound = λ e. absurd (false≢true e); complete = λ h. let z = h.0 in let y : ◌≡◌ {A = ℕ} 0 1 = cc in absurd (omega arith) }

lost-is : (target : Version) (rule : CapacityRule) → only_if (lost target rule) (wrong Net RuleLost) ≡ lost_rule target rule
unfolding lost lost_rule
lost-is One Weak = refl
lost-is One Strong = refl
lost-is Two rule = refl

lost-reads : (target : Version) (rule : CapacityRule) → Reads (row ((target ≡ One) × (rule ≡ Weak)) (carries 23 0 0)) (lost_rule target rule)
lost-reads target rule = subst (Reads _) (lost-is target rule) (reads_plain _ (by-lost target rule))

-- 2 has been given for every version byte that the net's own 2 is for
two-once : (a b c rest : Option Refusal) (k e : Bool) (r : Refusal) → (k ≡ true → e ≡ true)
    → (a ▸ b ▸ c ▸ only_if k r) ▸ only_if e r ▸ rest ≡ (a ▸ b ▸ c ▸ only_if e r) ▸ (a ▸ b ▸ c ▸ only_if k r) ▸ rest
unfolding ◌▸◌
two-once (some x) b c rest k e r h = refl
two-once none (some x) c rest k e r h = refl
two-once none none (some x) rest k e r h = refl
two-once none none none rest false e r h = refl
two-once none none none rest true e r h = rw (h refl)

unknown_other : (v : Version) (n : ℕ) → not (known Net n) ≡ true → not (eqb n (version_number v)) ≡ true
unknown_other v n e = ap not (ne_eqb n (version_number v) (λ q. false≢true (sym (ap not (version-known v n q)) ∙ e)))

module _ (source target : Version) (s : List ℕ) (room : ℕ) where
  abbrev source_head : Option Refusal
  source_head =
      only_if (ltb (length s) 4) (wrong Net CutShort)
      ▸ only_if (ltb (length s) (sheet_end s)) (wrong Net CutShort)
      ▸ only_if (eqb (body_length s) 0) (wrong Net (WrongLength 0))
      ▸ only_if (not (eqb (version s) (version_number source))) (wrong Net (WrongVersion 4))

  source_reads : Reads (head_table 0 s (version s ≢ version_number source)) source_head
  source_reads =
      subst (Reads (head_table 0 s (version s ≢ version_number source))) (then_assoc (only_if (ltb (length s) 4) (wrong Net CutShort)) _ _)
      (reads_then (reads-either (wrong Net CutShort) (by_less (length s) 4) (by_less (length s) (sheet_end s)))
      (reads_then (reads_plain _ (by_equal (body_length s) 0)) (reads_plain _ (by_not (by_equal (version s) (version_number source))))))

  source_refusal : source_head ▸ whole_net s ≡ of_version source s
  unfolding of_version whole_net net_refusal head_refusal
  source_refusal =
      ap (λ o. source_head ▸ o) (then_assoc (head_refusal Net s) (net_fields s) (bytes_after Net s))
      ∙ sym (two-once _ _ _ (net_fields s ▸ bytes_after Net s) _ _ (wrong Net (WrongVersion 4)) (unknown_other source (version s)))

  convert-reads : Reads (convert_table s source target room) (convert_refusal source target s room)
  unfolding convert_refusal open_refusal
  convert-reads =
      subst (Reads _) (sym (then_assoc source_head _ _) ∙ ap (λ o. o ▸ open_refusal target s room) source_refusal)
      (reads_then source_reads
      (reads_then (net-reads s) (reads_then (lost-reads target (net_of s).rule) (reads_plain _ (by_less room (length (converted_sheet target s)))))))

-- a salvage, and the movement at which it stops
salvage-reads : (net damaged : List ℕ) → SalvageReads net damaged
unfolding salvage_refusal damaged_refusal trial
salvage-reads net damaged =
    record {
      refusal = λ room.
          reads_then (net-reads net)
          (subst (Reads _) (four _ _ _ _)
          (reads_then (reads_plain _ (by_less (length damaged) 5))
          (reads_then (reads_plain _ (by_equal (body_length damaged) 0))
          (reads_then (reads_plain _ (by_not (by_equal (version damaged) 1))) (reads_plain _ (by_less room (length (fresh_sheet net damaged))))))));
      stop = moves-reads (net_of net) (modes_in damaged) (net_of net).start;
    }

pub call_tables_lem : CallTables
unfolding begin_refusal test_refusal test_step_refusal certify_refusal figure_refusal change_refusal exclude_refusal dead_refusal complementing_refusal
call_tables_lem =
    record {
      sheets = sheet_tables;
      whole_net = net-reads;
      whole_weights = weights-reads;
      whole_movements = movements-reads;
      begin = λ net marking. reads_then (net-reads net) (one-each-reads (net_of net) marking);
      test = λ net marking t.
          reads_then (net-reads net) (reads_then (refusal-table.marking (net_of net) marking) (refusal-table.mode Argument (net_of net) t marking));
      test_step = λ net marking modes.
          reads_then (net-reads net)
          (reads_then (refusal-table.marking (net_of net) marking) (step-reads (net_of net) (step_modes modes) marking));
      run = run-reads;
      certify = λ net movements claim.
          reads_then (net-reads net) (reads_then (movements-reads movements) (certificate-reads (net_of net) (movements_of movements) claim));
      figure = λ net weights marking.
          reads_then (net-reads net) (reads_then (weights-reads (pairs (net_of net)) weights) (refusal-table.marking (net_of net) marking));
      change = λ net weights t.
          reads_then (net-reads net) (reads_then (weights-reads (pairs (net_of net)) weights) (missing-reads Argument (net_of net) t));
      add_ship = ship-reads;
      exclude = λ net weights claim.
          reads_then (net-reads net)
          (reads_then (weights-reads (pairs (net_of net)) weights)
          (reads_then (refusal-table.marking (net_of net) claim) (claim-reads (net_of net) (weights_of weights) claim)));
      is_dead = λ net t. reads_then (net-reads net) (missing-reads Argument (net_of net) t);
      complement = λ net room. reads_then (net-reads net) (room-reads net room);
      to_version2 = convert-reads One Two;
      to_version1 = convert-reads Two One;
      strip = strip-reads;
      export_pnml = export-reads;
      import_pnml = import_table_lem;
      audit = λ net marking beside.
          subst (Reads _) (audit-refusal net marking beside)
          (reads_then (reads_then (net-reads net) (room-reads net (length (complement_sheet net))))
          (reads_then (one-each-reads (net_of net) marking) (one-each-reads (complement (net_of net)) beside)));
      salvage = salvage-reads;
      statement = λ room. reads_plain _ (by_less room 262144);
    }
