-- A call's answer is the net sheet's refusal, then a function of the net that was read; the offsets of 15 and 19 are all else that it takes from the sheet.
use Prim.Native.Nat.{ℕ, zero, suc, ◌≤◌}
use mathlib.Core.Path.{◌≡◌, refl, sym, ◌∙◌, ap, ap₂, subst}
use mathlib.Core.Bool.{Bool, true, false}
use mathlib.Core.List.{List, ◌++◌}
use mathlib.Core.Option.{Option, none, some}
use lib.ListN.{length, take}
use borrow.Author.Tests.{le-ltb}
use Rattle.model.specs.declared.Pair.{Pair}
use Rattle.model.specs.declared.Thing.TheVariants.{Net}
use Rattle.model.specs.declared.Fault.TheVariants.{InhibitedUnbounded, NotUnbounded}
use Rattle.model.specs.declared.Refusal.{Refusal}
use Rattle.model.specs.declared.Version.{Version}
use Rattle.model.specs.First.{◌▸◌, first, only_if, lowest}
use Rattle.model.specs.Nets.{PNet, arc_no, K}
use Rattle.model.specs.Refusals.{answer, Carried, carried, wrong}
use Rattle.model.specs.Replies.{Reply, yields, refuses}
use Rattle.model.specs.WellFormed.{WellFormed}
use Rattle.movement.specs.Runs.{run}
use Rattle.second_form.specs.Complement.{finite, complement, inhibits_unbounded, refusal15, complement_refusal}
use Rattle.both_forms.specs.Audit.{audited, audit_refusal}
use Rattle.model.proofs.First.{left-none, none_then, then-none}
use Rattle.sheets.specs.nets.Nets.{net_refusal}
use Rattle.sheets.specs.Whole.{whole_net, rest}
use Rattle.sheets.specs.Decoded.{net_of}
use Rattle.sheets.proofs.Accepted.{well_formed_lem}
use Rattle.opened.specs.Shape.{arc_offset, inhibitor_offset}
use Rattle.heads.specs.Version.{version_of}
use Rattle.sheets.specs.written.Written.{sheet_of}
use Rattle.sheets.specs.written.Promises.{HasSheet, ReadBack}
use Rattle.sheets.proofs.written.RoundTrip.{written-then-read, read-then-written, own-sheet}
use Rattle.sheets.specs.Emitted.{output}
use Rattle.sheets.specs.Emitted as emitting
use Rattle.fire.specs.Calls.{begin_refusal, test_refusal}
use Rattle.run.specs.Calls.{before_run, run_of, visited_by, certify_refusal}
use Rattle.fire.specs.step.Calls.{test_step_refusal}
use Rattle.statement.specs.weigh.Calls.{figure_refusal, change_refusal}
use Rattle.ships.specs.declared.Fleet.{Fleet}
use Rattle.ships.specs.Ships.{ship, voyage_of}
use Rattle.ships.specs.Entered.{figure_refusal as ship_figures, ship_refusal, entered}
use Rattle.statement.specs.exclude.Calls.{exclude_refusal}
use Rattle.opened.specs.dead.IsDead.{dead_refusal}
use Rattle.complement.specs.Complemented as complementing
use Rattle.bare.specs.Strip.{strip, bound_of, strip_refusal}
use Rattle.convert.specs.strip.Stripped as stripping
use Rattle.export.specs.Exports.{bounded_capacity, bounded_inhibitor}
use Rattle.export.specs.Exports as exporting
use Rattle.complement.specs.audit.Audits as auditing
use Rattle.damaged.specs.Damaged.{damaged_refusal, modes_in}
use Rattle.run.specs.salvage.Salvaged.{sheet_of_first, report_of, salvaged, trial, salvage_refusal, salvage_of, output_of}
use Rattle.statement.specs.Replay.{unless_refused, weights_text, sheets_text, replay_text, stated, stated_in}
use Rattle.promises.specs.DemandThree.{as_written}
use Rattle.promises.specs.EqualNets.{OneNet, OffsetAside, RepliesAlike, Fits, StripFits, Bytes, AlikeBefore, Alike, EqualNets}
use Rattle.promises.proofs.TwoRuns.{length-accepted, written}
use Rattle.promises.proofs.StripWritten.{sheet-there, sheet-reads}

-- the refusals that name an offset: 15 and 19
data Naming : Type 0 where
  inhibited : Naming
  not_unbounded : Naming

abbrev naming : Naming → ℕ → Refusal
naming inhibited i = wrong Net (InhibitedUnbounded i)
naming not_unbounded i = wrong Net (NotUnbounded i)

-- refusals that are equal, or the same of these
data Aside : Option Refusal → Option Refusal → Type 0 where
  same : (o : Option Refusal) → Aside o o
  offsets : (f : Naming) (i j : ℕ) → Aside (some (naming f i)) (some (naming f j))

aside_then : {o p x y : Option Refusal} → Aside o p → Aside x y → Aside (o ▸ x) (p ▸ y)
unfolding ◌▸◌
aside_then (same none) h = h
aside_then (same (some r)) h = same (some r)
aside_then (offsets f i j) h = offsets f i j

aside_lowest : (f : Naming) (n : ℕ) (test : ℕ → Bool) (x y : ℕ → ℕ) → Aside (lowest n test (λ k. naming f (x k))) (lowest n test (λ k. naming f (y k)))
unfolding first
aside_lowest f zero test x y = same none
aside_lowest f (suc n) test x y = aside_then (aside_lowest f n test x y) (at (test n))
  where
    at : (t : Bool) → Aside (only_if t (naming f (x n))) (only_if t (naming f (y n)))
    at true = offsets f (x n) (y n)
    at false = same none

aside_complement : (net : PNet) (x y : ℕ → ℕ) → Aside (complement_refusal x net) (complement_refusal y net)
unfolding complement_refusal refusal15
aside_complement net x y = aside_then (aside_lowest inhibited _ (λ k. inhibits_unbounded net (arc_no net.arcs k)) x y) (same _)

aside_bounded : (net : PNet) (x y u v : ℕ → ℕ) → Aside (bounded_capacity x net ▸ bounded_inhibitor u net) (bounded_capacity y net ▸ bounded_inhibitor v net)
unfolding bounded_capacity bounded_inhibitor
aside_bounded net x y u v =
    aside_then (aside_lowest not_unbounded _ (λ p. finite (K net p)) x y)
    (aside_lowest not_unbounded _ (λ k. finite (arc_no net.arcs k).entry.inhibitor) u v)

equal_aside : (x : Carried) → OffsetAside x x
equal_aside x = record { number = refl; thing = refl; amount = refl; position = λ h k. refl }

aside_carried : {o p : Option Refusal} → Aside o p → OffsetAside (carried (answer o)) (carried (answer p))
aside_carried (same o) = equal_aside _
aside_carried (offsets inhibited i j) = record { number = refl; thing = refl; amount = refl; position = λ h k. absurd (h refl) }
aside_carried (offsets not_unbounded i j) = record { number = refl; thing = refl; amount = refl; position = λ h k. absurd (k refl) }

-- a call that tells its refusal, or a value that both sheets have
aside_told : {A : Type 0} {o p : Option Refusal} (tell : Option Refusal → Reply A) → ((r : Refusal) → tell (some r) ≡ refuses r) → Aside o p → RepliesAlike (tell o) (tell p)
aside_told tell there (same o) = record { carried = equal_aside _; value = refl }
aside_told tell there (offsets f i j) = rw (there (naming f i), there (naming f j)) (record { carried = aside_carried (offsets f i j); value = refl })

emitted-carried : (o : Option Refusal) (l : ℕ) → (emitting.told (emitting.emitted o l)).carried ≡ carried (answer o)
emitted-carried none l = refl
emitted-carried (some r) l = refl

-- an output slice that is long enough: 15, and 10 for the limits
complement-fits : (net out : List ℕ) → whole_net net ≡ none → Fits net out
    → complementing.complementing_refusal net (length out) ≡ complement_refusal (arc_offset net) (net_of net)
unfolding complementing.complementing_refusal complementing.room_refusal
complement-fits net out w fits = none_then w (rw (le-ltb (length out) (length (complementing.complement_sheet net)) fits) (then-none _))

strip-fits : (net : List ℕ) (p : Pair) (out : List ℕ) → whole_net net ≡ none → StripFits net p out
    → stripping.stripping_refusal net p (length out) ≡ strip_refusal (net_of net) p
unfolding stripping.stripping_refusal stripping.room_refusal
strip-fits net p out w fits = none_then w (rw (le-ltb (length out) (length (stripping.stripped_sheet net p)) fits) (then-none _))

-- the text of a sheet with bytes after it is that of its net
pub text-written : (v : Version) (net : PNet) → WellFormed net → HasSheet v net → (more : List ℕ) → length (sheet_of v net ++ more) ≤ 65536
    → replay_text (sheet_of v net ++ more) ≡ weights_text net more
unfolding replay_text sheets_text unless_refused
text-written v net well has more h =
    let back = written-then-read v net well has in
    rw (le-ltb 65536 (length (sheet_of v net ++ more)) h, back.rest_after more, back.same_first more, back.accepted_first more)

-- a net sheet with bytes after it, which are handed back
module _ (a : List ℕ) (bytes : Bytes a) (w : whole_net a ≡ none) (more : List ℕ) where
  is-sheet : a ≡ sheet_of (version_of a) (net_of a)
  is-sheet = read-then-written a bytes w

  well : WellFormed (net_of a)
  unfolding whole_net
  well = well_formed_lem a (left-none (net_refusal a) _ w)

  back : ReadBack (version_of a) (net_of a)
  back = written-then-read (version_of a) (net_of a) well (own-sheet a)

  read-before : net_refusal (a ++ more) ≡ none
  read-before = ap (λ s. net_refusal (s ++ more)) is-sheet ∙ back.accepted_first more

  rest-before : rest (answer (net_refusal (a ++ more))) (a ++ more) ≡ more
  rest-before = ap (λ s. rest (answer (net_refusal (s ++ more))) (s ++ more)) is-sheet ∙ back.rest_after more

  pub text-before : length (a ++ more) ≤ 65536 → replay_text (a ++ more) ≡ weights_text (net_of a) more
  text-before h =
      ap (λ s. replay_text (s ++ more)) is-sheet ∙ text-written (version_of a) (net_of a) well (own-sheet a) more (subst (λ s. length (s ++ more) ≤ 65536) is-sheet h)

-- a salvage takes of a net sheet its refusal, and the net's run of the damaged modes
module _ (a b damaged : List ℕ) (whole : whole_net a ≡ whole_net b) (runs : trial a damaged ≡ trial b damaged) where
  salvage-refusals : (room : ℕ) → salvage_refusal a damaged room ≡ salvage_refusal b damaged room
  unfolding salvage_refusal
  salvage-refusals room = ap₂ (λ w o. w ▸ damaged_refusal damaged ▸ emitting.too_short (sheet_of_first damaged o.accepted) room) whole runs

  pub salvage-told : (out : List ℕ) → salvage_of a damaged out ≡ salvage_of b damaged out
  salvage-told out = ap₂ (λ r o. salvaged r (report_of damaged o.accepted (answer o.refusal))) (salvage-refusals (length out)) runs

  pub salvage-left : (out : List ℕ) → output_of a damaged out ≡ output_of b damaged out
  salvage-left out = ap₂ (λ r o. output r (sheet_of_first damaged o.accepted) out) (salvage-refusals (length out)) runs

module _ (a b : List ℕ) (one : OneNet a b) where
  pub whole : whole_net b ≡ whole_net a
  whole = one.second ∙ sym one.first

  pub net : net_of b ≡ net_of a
  net = sym one.net

  pub complements : (out out' : List ℕ) → Fits a out → Fits b out'
      → OffsetAside (emitting.told (complementing.complement_of a out)).carried (emitting.told (complementing.complement_of b out')).carried
  complements out out' f f' =
      rw (emitted-carried (complementing.complementing_refusal a (length out)), emitted-carried, complement-fits a out one.first f, complement-fits b out' one.second f', one.net)
      (aside_carried (aside_complement (net_of b) (arc_offset a) (arc_offset b)))

  audit-refusals : (m m' : List ℕ) → Aside (auditing.auditing_refusal a m m') (auditing.auditing_refusal b m m')
  unfolding auditing.auditing_refusal audit_refusal
  audit-refusals m m' =
      rw (one.first, one.second, one.net) (aside_then (same none) (aside_then (aside_complement (net_of b) (arc_offset a) (arc_offset b)) (same _)))

  pub audits : (m m' : List ℕ) → RepliesAlike (auditing.told (auditing.audited_of a m m')) (auditing.told (auditing.audited_of b m m'))
  unfolding auditing.finds
  audits m m' = rw one.net (aside_told (λ o. auditing.told (auditing.finds o (audited (net_of b) m m'))) (λ r. refl) (audit-refusals m m'))

  export-refusals : (room : ℕ) → Aside (exporting.export_refusal a room) (exporting.export_refusal b room)
  unfolding exporting.export_refusal exporting.room_refusal exporting.refusal19
  export-refusals room =
      rw (one.first, one.second, one.net)
      (aside_then (same none) (aside_then (aside_bounded (net_of b) (exporting.capacity_offset a) (exporting.capacity_offset b) (inhibitor_offset a) (inhibitor_offset b)) (same _)))

  pub exports : (out : List ℕ) → RepliesAlike (emitting.told (exporting.export_of a out)) (emitting.told (exporting.export_of b out))
  exports out =
      rw one.net (aside_told (λ o. emitting.told (emitting.emitted o (length (exporting.export_text b)))) (λ r. refl) (export-refusals (length out)))

  pub export_outputs : (out : List ℕ) → exporting.output_of a out ≡ exporting.output_of b out
  export_outputs out = rw one.net (left (exporting.export_text b) (export-refusals (length out)))
    where
      left : (text : List ℕ) {o p : Option Refusal} → Aside o p → emitting.output o text out ≡ emitting.output p text out
      left text (same o) = refl
      left text (offsets f i j) = refl

  trials : (damaged : List ℕ) → trial a damaged ≡ trial b damaged
  unfolding trial
  trials damaged = ap (λ n. run n (modes_in damaged) n.start) one.net

  pub salvages : (damaged out : List ℕ) → salvage_of a damaged out ≡ salvage_of b damaged out
  salvages damaged out = salvage-told a b damaged (sym whole) (trials damaged) out

  pub salvage_outputs : (damaged out : List ℕ) → output_of a damaged out ≡ output_of b damaged out
  salvage_outputs damaged out = salvage-left a b damaged (sym whole) (trials damaged) out

  one_again : (out out' : List ℕ) (n n' : ℕ) → emitting.told (complementing.complement_of a out) ≡ yields n
      → emitting.told (complementing.complement_of b out') ≡ yields n' → OneNet (as_written a out n) (as_written b out' n')
  one_again out out' n n' e e' =
      let w = written a out (length-accepted (complementing.complementing_refusal a (length out)) _ e) e in
      let w' = written b out' (length-accepted (complementing.complementing_refusal b (length out')) _ e') e' in
      record { first = w.reads_back; second = w'.reads_back; net = w.same ∙ ap complement one.net ∙ sym w'.same }

  -- stripping: the same refusal, whatever the version, where there is room
  pub strips : (p : Pair) (out out' : List ℕ) → StripFits a p out → StripFits b p out'
      → (emitting.told (stripping.stripped_of a p out)).carried ≡ (emitting.told (stripping.stripped_of b p out')).carried
  strips p out out' f f' =
      rw (emitted-carried (stripping.stripping_refusal a p (length out)), emitted-carried, strip-fits a p out one.first f, strip-fits b p out' one.second f', one.net)

  stripped_again : (p : Pair) (out out' : List ℕ) (n n' : ℕ) → emitting.told (stripping.stripped_of a p out) ≡ yields n
      → emitting.told (stripping.stripped_of b p out') ≡ yields n' → OneNet (take n (stripping.output_of a p out)) (take n' (stripping.output_of b p out'))
  stripped_again p out out' n n' e e' =
      let r = sheet-reads a p out n e in
      let r' = sheet-reads b p out' n' e' in
      rw (sheet-there a p out n e, sheet-there b p out' n' e')
      (record { first = r.accepted; second = r'.accepted; net = r.same ∙ ap (λ net. strip net p (bound_of (K net p.0))) one.net ∙ sym r'.same })

  pub texts : (more : List ℕ) → Bytes a → Bytes b → length (a ++ more) ≤ 65536 → length (b ++ more) ≤ 65536 → replay_text (b ++ more) ≡ replay_text (a ++ more)
  texts more bytes bytes' l l' =
      text-before b bytes' one.second more l' ∙ ap (λ read. weights_text read more) net ∙ sym (text-before a bytes one.first more l)

  pub reads : (more : List ℕ) → Bytes a → Bytes b → net_refusal (b ++ more) ≡ net_refusal (a ++ more)
  reads more bytes bytes' = read-before b bytes' one.second more ∙ sym (read-before a bytes one.first more)

  before : (more : List ℕ) → Bytes a → Bytes b → AlikeBefore a b more
  unfolding stated stated_in
  before more bytes bytes' =
      record {
        read_net = λ o h. rw (reads more bytes bytes') h;
        after_net = λ o h. h ∙ rest-before a bytes one.first more ∙ sym (rest-before b bytes' one.second more);
        statement = λ out l l' o h. rw (texts more bytes bytes' l l') h;
      }

  pub ships : (found : Fleet) (weights movements : List ℕ) → entered found (ship b weights movements) ≡ entered found (ship a weights movements)
  unfolding entered ship_refusal ship_figures voyage_of
  ships found weights movements = rw (whole, net)

  alike : Alike a b
  unfolding begin_refusal test_refusal test_step_refusal before_run run_of visited_by certify_refusal figure_refusal change_refusal exclude_refusal dead_refusal
  alike =
      record {
        whole_net = λ o h. rw whole h;
        begin = λ m o h. rw (whole, net) h;
        test = λ m t o h. rw (whole, net) h;
        fire = λ m t o h. rw (whole, net) h;
        test_step = λ m modes o h. rw (whole, net) h;
        fire_step = λ m modes o h. rw (whole, net) h;
        run = λ movements m o h. rw (whole, net) h;
        certify = λ movements m o h. rw (whole, net) h;
        figure = λ weights m o h. rw (whole, net) h;
        change = λ weights t o h. rw (whole, net) h;
        add_ship = λ found weights movements o h. rw (ships found weights movements) h;
        exclude = λ weights m o h. rw (whole, net) h;
        is_dead = λ t o h. rw (whole, net) h;
        first_dead = λ o h. rw (whole, net) h;
        size = λ o h. rw (whole, net) h;
        salvage = λ damaged out o h. (h.0 ∙ salvages damaged out, h.1 ∙ salvage_outputs damaged out);
        export_pnml = λ out o o' h h'. (rw (h.0, h'.0) (exports out), h.1 ∙ export_outputs out ∙ sym h'.1);
        complement = λ out out' o o' f f' h h'.
            record {
              carried = rw (h.0, h'.0) (complements out out' f f');
              written = λ n n' e e'. rw (h.1, h'.1) (one_again out out' n n' (rw h.0 at e) (rw h'.0 at e'));
            };
        strip = λ p out out' o o' f f' h h'.
            record {
              carried = rw (h.0, h'.0) (strips p out out' f f');
              written = λ n n' e e'. rw (h.1, h'.1) (stripped_again p out out' n n' (rw h.0 at e) (rw h'.0 at e'));
            };
        audit = λ m m' o o' h h'. rw (h, h') (audits m m');
        before = before;
      }

pub equal-nets : EqualNets
equal-nets = alike
