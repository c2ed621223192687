-- A call's answer is the net sheet's refusal, then a function of the net that was read; the offsets of 15 and 19 are all else that it takes from the sheet.
use Prim.Native.Nat.{ℕ, zero, suc, ◌≤◌, ◌<◌}
use mathlib.Core.Path.{◌≡◌, refl, sym, ◌∙◌, ap, ap₂, subst}
use mathlib.Core.Bool.{Bool, true, false}
use mathlib.Core.List.{List, ◌++◌}
use mathlib.Core.Option.{Option, none, some}
use lib.Dec.{ltb}
use lib.ListN.{length, take}
use borrow.Author.Tests.{le-ltb, ltb-true}
use Rattle.model.specs.declared.Pair.{Pair}
use Rattle.model.specs.declared.Thing.TheVariants.{Net}
use Rattle.model.specs.declared.Fault.TheVariants.{InhibitedUnbounded, NotUnbounded, NoRoom}
use Rattle.model.specs.declared.Refusal.{Refusal}
use Rattle.model.specs.declared.Version.{Version}
use Rattle.model.specs.First.{◌▸◌, first, only_if, lowest}
use Rattle.model.specs.Nets.{PNet, arc_no, K}
use Rattle.model.specs.Refusals.{answer, Carried, carried, wrong}
use Rattle.model.specs.Replies.{Reply, yields, refuses}
use Rattle.model.specs.WellFormed.{WellFormed}
use Rattle.movement.specs.Runs.{run}
use Rattle.second_form.specs.Complement.{finite, complement, inhibits_unbounded, refusal15, complement_refusal}
use Rattle.both_forms.specs.Audit.{audited, audit_refusal}
use Rattle.model.proofs.First.{left-none}
use Rattle.sheets.specs.nets.Nets.{net_refusal}
use Rattle.sheets.specs.Whole.{whole_net, rest}
use Rattle.sheets.specs.Decoded.{net_of}
use Rattle.sheets.proofs.Accepted.{well_formed_lem}
use Rattle.opened.specs.Shape.{arc_offset, inhibitor_offset}
use Rattle.heads.specs.Version.{version_of}
use Rattle.sheets.specs.written.Written.{sheet_of}
use Rattle.sheets.specs.written.Promises.{HasSheet, ReadBack}
use Rattle.sheets.proofs.written.RoundTrip.{written-then-read, read-then-written, own-sheet}
use Rattle.sheets.specs.Emitted.{output}
use Rattle.sheets.specs.Emitted as emitting
use Rattle.fire.specs.Calls.{begin_refusal, test_refusal}
use Rattle.run.specs.Calls.{before_run, run_of, visited_by, certify_refusal}
use Rattle.fire.specs.step.Calls.{test_step_refusal}
use Rattle.statement.specs.weigh.Calls.{figure_refusal, change_refusal}
use Rattle.ships.specs.declared.Fleet.{Fleet}
use Rattle.ships.specs.Ships.{ship, voyage_of}
use Rattle.ships.specs.Entered.{figure_refusal as ship_figures, ship_refusal, entered}
use Rattle.statement.specs.exclude.Calls.{exclude_refusal}
use Rattle.opened.specs.dead.IsDead.{dead_refusal}
use Rattle.complement.specs.Complemented as complementing
use Rattle.bare.specs.Strip.{strip, bound_of, strip_refusal}
use Rattle.convert.specs.strip.Stripped as stripping
use Rattle.export.specs.Exports.{bounded_capacity, bounded_inhibitor}
use Rattle.export.specs.Exports as exporting
use Rattle.complement.specs.audit.Audits as auditing
use Rattle.damaged.specs.Damaged.{damaged_refusal, modes_in}
use Rattle.run.specs.salvage.Salvaged.{sheet_of_first, report_of, salvaged, trial, salvage_refusal, salvage_of, output_of}
use Rattle.statement.specs.Replay.{unless_refused, weights_text, sheets_text, replay_text, stated, stated_in}
use Rattle.sentences.specs.Bytes.{Bytes}
use Rattle.sentences.specs.Calls.{Public, emits, call, told}
use Rattle.sentences.specs.P9.{OneNet, Within, with_net, OffsetAside, ShortAside, alike, first_short, second_short, RepliesAlike, AlikeBefore, EqualNets}
use Rattle.sentences.proofs.DemandThree.{complementable, reads-back}
use Rattle.sentences.proofs.Outcomes.{length-accepted, taken_is}
use Rattle.sentences.proofs.StripWritten.{sheet-there, sheet-reads}

-- the refusals that name an offset: 15 and 19
data Naming : Type 0 where
  inhibited : Naming
  not_unbounded : Naming

abbrev naming : Naming → ℕ → Refusal
naming inhibited i = wrong Net (InhibitedUnbounded i)
naming not_unbounded i = wrong Net (NotUnbounded i)

-- refusals that are equal, or the same of these
data Aside : Option Refusal → Option Refusal → Type 0 where
  same : (o : Option Refusal) → Aside o o
  offsets : (f : Naming) (i j : ℕ) → Aside (some (naming f i)) (some (naming f j))

aside_then : {o p x y : Option Refusal} → Aside o p → Aside x y → Aside (o ▸ x) (p ▸ y)
unfolding ◌▸◌
aside_then (same none) h = h
aside_then (same (some r)) h = same (some r)
aside_then (offsets f i j) h = offsets f i j

aside_lowest : (f : Naming) (n : ℕ) (test : ℕ → Bool) (x y : ℕ → ℕ) → Aside (lowest n test (λ k. naming f (x k))) (lowest n test (λ k. naming f (y k)))
unfolding first
aside_lowest f zero test x y = same none
aside_lowest f (suc n) test x y = aside_then (aside_lowest f n test x y) (at (test n))
  where
    at : (t : Bool) → Aside (only_if t (naming f (x n))) (only_if t (naming f (y n)))
    at true = offsets f (x n) (y n)
    at false = same none

aside_complement : (net : PNet) (x y : ℕ → ℕ) → Aside (complement_refusal x net) (complement_refusal y net)
unfolding complement_refusal refusal15
aside_complement net x y = aside_then (aside_lowest inhibited _ (λ k. inhibits_unbounded net (arc_no net.arcs k)) x y) (same _)

aside_bounded : (net : PNet) (x y u v : ℕ → ℕ) → Aside (bounded_capacity x net ▸ bounded_inhibitor u net) (bounded_capacity y net ▸ bounded_inhibitor v net)
unfolding bounded_capacity bounded_inhibitor
aside_bounded net x y u v =
    aside_then (aside_lowest not_unbounded _ (λ p. finite (K net p)) x y)
    (aside_lowest not_unbounded _ (λ k. finite (arc_no net.arcs k).entry.inhibitor) u v)

equal_aside : (x : Carried) → OffsetAside x x
equal_aside x = record { number = refl; thing = refl; amount = refl; position = λ h k. refl }

aside_carried : {o p : Option Refusal} → Aside o p → OffsetAside (carried (answer o)) (carried (answer p))
aside_carried (same o) = equal_aside _
aside_carried (offsets inhibited i j) = record { number = refl; thing = refl; amount = refl; position = λ h k. absurd (h refl) }
aside_carried (offsets not_unbounded i j) = record { number = refl; thing = refl; amount = refl; position = λ h k. absurd (k refl) }

-- a call that tells its refusal, or a value that both sheets have
aside_told : {A : Type 0} {o p : Option Refusal} (tell : Option Refusal → Reply A) → ((r : Refusal) → tell (some r) ≡ refuses r) → Aside o p → RepliesAlike (tell o) (tell p)
aside_told tell there (same o) = record { carried = equal_aside _; value = refl }
aside_told tell there (offsets f i j) = rw (there (naming f i), there (naming f j)) (record { carried = aside_carried (offsets f i j); value = refl })

emitted-carried : (o : Option Refusal) (l : ℕ) → (emitting.told (emitting.emitted o l)).carried ≡ carried (answer o)
emitted-carried none l = refl
emitted-carried (some r) l = refl

-- what is refused before the output slice is looked at is alike, and then 10 is for a slice that is shorter than its sheet
module _ (Like : Carried → Carried → Type 0) (itself : (x : Carried) → Like x x) (sheet sheet' out out' : List ℕ) (l l' : ℕ) where
  short : (b : Bool) → ltb (length out) (length sheet) ≡ b → (b' : Bool) → ltb (length out') (length sheet') ≡ b'
      → ShortAside Like (length out < length sheet) (length out' < length sheet')
      (emits (emitting.emitted (only_if b (wrong Net NoRoom)) l)) (emits (emitting.emitted (only_if b' (wrong Net NoRoom)) l'))
  short true e true e' = alike (itself _)
  short true e false e' = first_short (ltb-true (length out) (length sheet) e) refl refl
  short false e true e' = second_short (ltb-true (length out') (length sheet') e') refl refl
  short false e false e' = alike (itself _)

  short-aside : {o p : Option Refusal} → Aside o p → Like (carried (answer o)) (carried (answer p))
      → ShortAside Like (length out < length sheet) (length out' < length sheet')
      (emits (emitting.emitted (o ▸ emitting.too_short sheet (length out)) l)) (emits (emitting.emitted (p ▸ emitting.too_short sheet' (length out')) l'))
  unfolding ◌▸◌
  short-aside (same none) like = short (ltb (length out) (length sheet)) refl (ltb (length out') (length sheet')) refl
  short-aside (same (some r)) like = alike like
  short-aside (offsets f i j) like = alike like

-- the text of a sheet with bytes after it is that of its net
pub text-written : (v : Version) (net : PNet) → WellFormed net → HasSheet v net → (more : List ℕ) → length (sheet_of v net ++ more) ≤ 65536
    → replay_text (sheet_of v net ++ more) ≡ weights_text net more
unfolding replay_text sheets_text unless_refused
text-written v net well has more h =
    let back = written-then-read v net well has in
    rw (le-ltb 65536 (length (sheet_of v net ++ more)) h, back.rest_after more, back.same_first more, back.accepted_first more)

-- a net sheet with bytes after it, which are handed back
module _ (a : List ℕ) (bytes : Bytes a) (w : whole_net a ≡ none) (more : List ℕ) where
  is-sheet : a ≡ sheet_of (version_of a) (net_of a)
  is-sheet = read-then-written a bytes w

  well : WellFormed (net_of a)
  unfolding whole_net
  well = well_formed_lem a (left-none (net_refusal a) _ w)

  back : ReadBack (version_of a) (net_of a)
  back = written-then-read (version_of a) (net_of a) well (own-sheet a)

  read-before : net_refusal (a ++ more) ≡ none
  read-before = ap (λ s. net_refusal (s ++ more)) is-sheet ∙ back.accepted_first more

  rest-before : rest (answer (net_refusal (a ++ more))) (a ++ more) ≡ more
  rest-before = ap (λ s. rest (answer (net_refusal (s ++ more))) (s ++ more)) is-sheet ∙ back.rest_after more

  pub text-before : length (a ++ more) ≤ 65536 → replay_text (a ++ more) ≡ weights_text (net_of a) more
  text-before h =
      ap (λ s. replay_text (s ++ more)) is-sheet ∙ text-written (version_of a) (net_of a) well (own-sheet a) more (subst (λ s. length (s ++ more) ≤ 65536) is-sheet h)

-- a salvage takes of a net sheet its refusal, and the net's run of the damaged modes
module _ (a b damaged : List ℕ) (whole : whole_net a ≡ whole_net b) (runs : trial a damaged ≡ trial b damaged) where
  salvage-refusals : (room : ℕ) → salvage_refusal a damaged room ≡ salvage_refusal b damaged room
  unfolding salvage_refusal
  salvage-refusals room = ap₂ (λ w o. w ▸ damaged_refusal damaged ▸ emitting.too_short (sheet_of_first damaged o.accepted) room) whole runs

  pub salvage-told : (out : List ℕ) → salvage_of a damaged out ≡ salvage_of b damaged out
  salvage-told out = ap₂ (λ r o. salvaged r (report_of damaged o.accepted (answer o.refusal))) (salvage-refusals (length out)) runs

  pub salvage-left : (out : List ℕ) → output_of a damaged out ≡ output_of b damaged out
  salvage-left out = ap₂ (λ r o. output r (sheet_of_first damaged o.accepted) out) (salvage-refusals (length out)) runs

module _ (a b : List ℕ) (one : OneNet a b) where
  pub whole : whole_net b ≡ whole_net a
  whole = one.second ∙ sym one.first

  pub net : net_of b ≡ net_of a
  net = sym one.net

  complements-aside : (out out' : List ℕ)
      → ShortAside OffsetAside (length out < length (complementing.complement_sheet a)) (length out' < length (complementing.complement_sheet b))
      (emits (complementing.complement_of a out)) (emits (complementing.complement_of b out'))
  unfolding complementing.complementing_refusal complementing.room_refusal ◌▸◌
  complements-aside out out' =
      let apart = aside_complement (net_of b) (arc_offset a) (arc_offset b) in
      rw (one.first, one.second, ap (complement_refusal (arc_offset a)) one.net)
      (short-aside OffsetAside equal_aside (complementing.complement_sheet a) (complementing.complement_sheet b) out out' _ _ apart (aside_carried apart))

  audit-refusals : (m m' : List ℕ) → Aside (auditing.auditing_refusal a m m') (auditing.auditing_refusal b m m')
  unfolding auditing.auditing_refusal audit_refusal
  audit-refusals m m' =
      rw (one.first, one.second, one.net) (aside_then (same none) (aside_then (aside_complement (net_of b) (arc_offset a) (arc_offset b)) (same _)))

  pub audits : (m m' : List ℕ) → RepliesAlike (auditing.told (auditing.audited_of a m m')) (auditing.told (auditing.audited_of b m m'))
  unfolding auditing.finds
  audits m m' = rw one.net (aside_told (λ o. auditing.told (auditing.finds o (audited (net_of b) m m'))) (λ r. refl) (audit-refusals m m'))

  export-refusals : (room : ℕ) → Aside (exporting.export_refusal a room) (exporting.export_refusal b room)
  unfolding exporting.export_refusal exporting.room_refusal exporting.refusal19
  export-refusals room =
      rw (one.first, one.second, one.net)
      (aside_then (same none) (aside_then (aside_bounded (net_of b) (exporting.capacity_offset a) (exporting.capacity_offset b) (inhibitor_offset a) (inhibitor_offset b)) (same _)))

  pub exports : (out : List ℕ) → RepliesAlike (emitting.told (exporting.export_of a out)) (emitting.told (exporting.export_of b out))
  exports out =
      rw one.net (aside_told (λ o. emitting.told (emitting.emitted o (length (exporting.export_text b)))) (λ r. refl) (export-refusals (length out)))

  pub export_outputs : (out : List ℕ) → exporting.output_of a out ≡ exporting.output_of b out
  export_outputs out = rw one.net (left (exporting.export_text b) (export-refusals (length out)))
    where
      left : (text : List ℕ) {o p : Option Refusal} → Aside o p → emitting.output o text out ≡ emitting.output p text out
      left text (same o) = refl
      left text (offsets f i j) = refl

  trials : (damaged : List ℕ) → trial a damaged ≡ trial b damaged
  unfolding trial
  trials damaged = ap (λ n. run n (modes_in damaged) n.start) one.net

  pub salvages : (damaged out : List ℕ) → salvage_of a damaged out ≡ salvage_of b damaged out
  salvages damaged out = salvage-told a b damaged (sym whole) (trials damaged) out

  pub salvage_outputs : (damaged out : List ℕ) → output_of a damaged out ≡ output_of b damaged out
  salvage_outputs damaged out = salvage-left a b damaged (sym whole) (trials damaged) out

  one_again : (out out' : List ℕ) (n n' : ℕ) → emitting.told (complementing.complement_of a out) ≡ yields n
      → emitting.told (complementing.complement_of b out') ≡ yields n'
      → OneNet (take n (complementing.output_of a out)) (take n' (complementing.output_of b out'))
  one_again out out' n n' e e' =
      let q = length-accepted (complementing.complementing_refusal a (length out)) _ e in
      let q' = length-accepted (complementing.complementing_refusal b (length out')) _ e' in
      let w = reads-back a (complementable a (length out) q) in
      let w' = reads-back b (complementable b (length out') q') in
      rw (
        taken_is (complementing.complementing_refusal a (length out)) (complementing.complement_sheet a) out (complementing.output_of a out) refl e,
        taken_is (complementing.complementing_refusal b (length out')) (complementing.complement_sheet b) out' (complementing.output_of b out') refl e',
      )
      (record { first = w.accepted; second = w'.accepted; net = w.same ∙ ap complement one.net ∙ sym w'.same })

  -- stripping: the same refusal, whatever the version, but for the room
  strips-aside : (p : Pair) (out out' : List ℕ)
      → ShortAside (λ x y. x ≡ y) (length out < length (stripping.stripped_sheet a p)) (length out' < length (stripping.stripped_sheet b p))
      (emits (stripping.stripped_of a p out)) (emits (stripping.stripped_of b p out'))
  unfolding stripping.stripping_refusal stripping.room_refusal ◌▸◌
  strips-aside p out out' =
      rw (one.first, one.second, ap (λ net. strip_refusal net p) one.net)
      (short-aside (λ x y. x ≡ y) (λ x. refl) (stripping.stripped_sheet a p) (stripping.stripped_sheet b p) out out' _ _ (same (strip_refusal (net_of b) p)) refl)

  stripped_again : (p : Pair) (out out' : List ℕ) (n n' : ℕ) → emitting.told (stripping.stripped_of a p out) ≡ yields n
      → emitting.told (stripping.stripped_of b p out') ≡ yields n' → OneNet (take n (stripping.output_of a p out)) (take n' (stripping.output_of b p out'))
  stripped_again p out out' n n' e e' =
      let r = sheet-reads a p out n e in
      let r' = sheet-reads b p out' n' e' in
      rw (sheet-there a p out n e, sheet-there b p out' n' e')
      (record { first = r.accepted; second = r'.accepted; net = r.same ∙ ap (λ net. strip net p (bound_of (K net p.0))) one.net ∙ sym r'.same })

  pub texts : (more : List ℕ) → Bytes a → Bytes b → length (a ++ more) ≤ 65536 → length (b ++ more) ≤ 65536 → replay_text (b ++ more) ≡ replay_text (a ++ more)
  texts more bytes bytes' l l' =
      text-before b bytes' one.second more l' ∙ ap (λ read. weights_text read more) net ∙ sym (text-before a bytes one.first more l)

  pub reads : (more : List ℕ) → Bytes a → Bytes b → net_refusal (b ++ more) ≡ net_refusal (a ++ more)
  reads more bytes bytes' = read-before b bytes' one.second more ∙ sym (read-before a bytes one.first more)

  before : (more : List ℕ) → Bytes a → Bytes b → AlikeBefore a b more
  unfolding stated stated_in
  before more bytes bytes' =
      let text : (out : List ℕ) → length (a ++ more) ≤ 65536 → length (b ++ more) ≤ 65536 → Within (call Public.statement) (a ++ more, out) (b ++ more, out) =
      λ out l l' e left h. rw (texts more bytes bytes' l l') h in
      record {
        read_net = λ answer left h. rw (reads more bytes bytes') h;
        after_net = λ answer left h. h ∙ rest-before a bytes one.first more ∙ sym (rest-before b bytes' one.second more);
        statement = text;
        statement_for_c = λ out l l' d left h. (h.0, text out l l' h.0 left h.1, h.2);
      }

  pub ships : (found : Fleet) (weights movements : List ℕ) → entered found (ship b weights movements) ≡ entered found (ship a weights movements)
  unfolding entered ship_refusal ship_figures voyage_of
  ships found weights movements = rw (whole, net)

  each : (c : Public) (i : (call c).Given) → Within (call c) (with_net c a i) (with_net c b i)
  unfolding begin_refusal test_refusal test_step_refusal before_run run_of visited_by certify_refusal figure_refusal change_refusal exclude_refusal dead_refusal
  each Public.begin i answer left h = rw (whole, net) h
  each Public.test i answer left h = rw (whole, net) h
  each Public.fire i answer left h = rw (whole, net) h
  each Public.test_step i answer left h = rw (whole, net) h
  each Public.fire_step i answer left h = rw (whole, net) h
  each Public.run i answer left h = rw (whole, net) h
  each Public.certify i answer left h = rw (whole, net) h
  each Public.figure i answer left h = rw (whole, net) h
  each Public.change i answer left h = rw (whole, net) h
  each Public.fleet_add i answer left h = rw (ships i.0 i.2 i.3) h
  each Public.exclude i answer left h = rw (whole, net) h
  each Public.is_dead i answer left h = rw (whole, net) h
  each Public.first_dead i answer left h = rw (whole, net) h
  each Public.size i answer left h = rw (whole, net) h
  each Public.salvage i answer left h = (h.0 ∙ salvages i.1 i.2, h.1 ∙ salvage_outputs i.1 i.2)
  each Public.complement i answer left h = h
  each Public.strip i answer left h = h
  each Public.export_pnml i answer left h = h
  each Public.audit i answer left h = h
  each Public.to_version2 i answer left h = h
  each Public.to_version1 i answer left h = h
  each Public.read_net i answer left h = h
  each Public.statement i answer left h = h
  each Public.read_weights i answer left h = h
  each Public.read_movements i answer left h = h
  each Public.import_pnml i answer left h = h

-- what C is told of an answer is of the answer alone, the readers aside
told_with : (c : Public) (a b : List ℕ) (i : (call c).Given) (answer : (call c).Answers) → (told c).tell (with_net c a i) answer ≡ (told c).tell (with_net c b i) answer
told_with Public.read_net a b i answer = refl
told_with Public.read_weights a b i answer = refl
told_with Public.read_movements a b i answer = refl
told_with Public.begin a b i answer = refl
told_with Public.test a b i answer = refl
told_with Public.fire a b i answer = refl
told_with Public.test_step a b i answer = refl
told_with Public.fire_step a b i answer = refl
told_with Public.run a b i answer = refl
told_with Public.certify a b i answer = refl
told_with Public.figure a b i answer = refl
told_with Public.change a b i answer = refl
told_with Public.fleet_add a b i answer = refl
told_with Public.exclude a b i answer = refl
told_with Public.is_dead a b i answer = refl
told_with Public.first_dead a b i answer = refl
told_with Public.size a b i answer = refl
told_with Public.complement a b i answer = refl
told_with Public.to_version2 a b i answer = refl
told_with Public.to_version1 a b i answer = refl
told_with Public.strip a b i answer = refl
told_with Public.export_pnml a b i answer = refl
told_with Public.import_pnml a b i answer = refl
told_with Public.audit a b i answer = refl
told_with Public.salvage a b i answer = refl
told_with Public.statement a b i answer = refl

pub equal-nets : EqualNets
equal-nets a b one =
    record {
      whole_net = λ answer left h. rw (whole a b one) h;
      each = each a b one;
      each_for_c = λ c i d left h. (h.0, each a b one c i h.0 left h.1, h.2 ∙ told_with c a b i h.0);
      export_pnml = λ out e e' left left' h h'. (rw (h.0, h'.0) (exports a b one out), h.1 ∙ export_outputs a b one out ∙ sym h'.1);
      audit = λ m m' f f' h h'. rw (h, h') (audits a b one m m');
      complement = λ out out' e e' left left' h h'.
          record {
            carried = rw (h.0, h'.0) (complements-aside a b one out out');
            written = λ n n' t t'. rw (h.1, h'.1) (one_again a b one out out' n n' (rw h.0 at t) (rw h'.0 at t'));
          };
      strip = λ p out out' e e' left left' h h'.
          record {
            carried = rw (h.0, h'.0) (strips-aside a b one p out out');
            written = λ n n' t t'. rw (h.1, h'.1) (stripped_again a b one p out out' n n' (rw h.0 at t) (rw h'.0 at t'));
          };
      before = before a b one;
    }
