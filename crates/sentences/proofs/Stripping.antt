-- Each call asks of the net what stripping keeps.
use Rattle.std.specs.Prelude.{Result}
use Rattle.model.specs.declared.Refusal.{Refusal}
use Rattle.model.specs.Replies.{yields}
use Rattle.convert.specs.strip.Allowed.{StripAllows}
use Prim.Native.Nat.{ℕ, suc, ◌+◌, ◌≤◌, ◌<◌}
use mathlib.Core.Path.{◌≡◌, refl, sym, ◌∙◌, ap, subst}
use mathlib.Core.Bool.{true, false≢true}
use mathlib.Core.List.{List, [], ◌∷◌, ◌++◌}
use mathlib.Core.Logic.{◌≢◌}
use mathlib.Core.Option.{none}
use lib.IntN.{ℤ}
use lib.ListN.{length, take, drop}
use native.Mathlib.Omega.{arith}
use borrow.Author.Tests.{leb-false, not-false}
use Rattle.model.specs.declared.Pair.{Pair}
use Rattle.model.specs.declared.Mode.{Mode}
use Rattle.model.specs.declared.Version.{Version}
use Rattle.model.specs.Refusals.{Answer}
use Rattle.model.specs.declared.Thing.TheVariants.{Movements, Argument}
use Rattle.model.specs.Numbers.{ℕ∞, fin, ∞}
use Rattle.model.specs.Nets.{PNet, total, pairs, modes, K, count}
use Rattle.second_form.specs.Complement.{finite}
use Rattle.model.specs.Refusals.{answer, number}
use Rattle.model.specs.Markings.{marking_refusal}
use Rattle.model.specs.WellFormed.{WellFormed}
use Rattle.model.specs.Firing.{absent, mode_refusal, fired}
use Rattle.movement.specs.Runs.{run}
use Rattle.second_form.specs.Dead.{found, is_dead}
use Rattle.model.proofs.First.{left-none, right-none, none_then, only_if_none}
use Rattle.model.proofs.Firing.{mode-there}
use Rattle.movement.proofs.Markings.{marking-test}
use Rattle.heads.specs.Version.{version_of}
use Rattle.sheets.specs.nets.Nets.{net_refusal}
use Rattle.sheets.specs.lists.Weights.{weights_refusal}
use Rattle.sheets.specs.Whole.{whole_net, rest}
use Rattle.sheets.specs.Decoded.{net_of, movements_of, weights_of}
use Rattle.sheets.proofs.Accepted.{well_formed_lem}
use Rattle.sheets.specs.written.Written.{sheet_of}
use Rattle.sheets.specs.written.Promises.{HasSheet}
use Rattle.sheets.specs.Emitted.{told as answered}
use Rattle.fire.specs.Calls.{begin_refusal, test_refusal}
use Rattle.fire.specs.Allowed.{FireAllows}
use Rattle.run.specs.Calls.{before_run, run_of, visited_by, certify_refusal}
use Rattle.fire.specs.step.Calls.{step_modes, test_step_refusal}
use Rattle.statement.specs.weigh.Calls.{figure_refusal, change_refusal}
use Rattle.damaged.specs.Damaged.{modes_in}
use Rattle.run.specs.salvage.Salvaged.{trial}
use Rattle.ships.specs.declared.Fleet.{Fleet}
use Rattle.ships.specs.Ships.{gained, lost, added_by, removed_by, ship, voyage_of}
use Rattle.ships.specs.Entered.{figure_refusal as ship_figures, ship_refusal, entered}
use Rattle.opened.specs.dead.IsDead.{dead_refusal}
use Rattle.statement.specs.Replay.{lines_from, run_text, movements_text, weights_text, replay_text, stated, stated_in}
use Rattle.bare.specs.Strip.{new_mode, strip, bound_of, strip_refusal}
use Rattle.bare.specs.Promises.{Old, OldModesStay, StripsBare}
use Rattle.bare.proofs.Arcs.{modes-many}
use Rattle.bare.proofs.OldModes.{each_old, old_modes_lem, no_new-dead}
use Rattle.bare.proofs.Bare.{bare-after}
use Rattle.convert.specs.strip.Stripped.{stripped_sheet, stripped_net, stripping_refusal}
use Rattle.convert.proofs.strip.Promises.{has_sheet}
use Rattle.sentences.specs.Bytes.{Bytes}
use Rattle.sentences.specs.P7.{BareCalls, OldCalls, Stripped}
use Rattle.sentences.specs.Wrote.{StripWrote, WritesLength}
use Rattle.sentences.proofs.Outcomes.{writes-length}
use Rattle.sentences.proofs.Accepting.{number-none}
use Rattle.sentences.proofs.EqualNets.{text-written, text-before, salvage-told, salvage-left}
use Rattle.sentences.proofs.StripWritten.{whole_before, pair-accepted, sheet-there, rest-there, sheet-reads}

-- the sheet as written, the first n bytes of the output slice, and what is left after it
pub record StripWritten (net : List ℕ) (p : Pair) (out left : List ℕ) (n : ℕ) : Type 0 where
  pub untouched : drop n left ≡ drop n out
  -- "writes the version and rule it was given" (document 02, P9)
  pub version : version_of (take n left) ≡ version_of net
  pub rule : (net_of (take n left)).rule ≡ (net_of net).rule
  pub accepted : whole_net (take n left) ≡ none
  pub same : net_of (take n left) ≡ stripped_net net p
  pub bare_calls : BareCalls net (take n left) p (bound_of (K (net_of net) p.0))
  pub old_calls : OldCalls net (take n left)

-- the text of `replay` along a list of old modes
module _ (net : PNet) (p : Pair) (k : ℕ) where
  stays : OldModesStay net p k
  stays = old_modes_lem net p k

  lines_same : (weights : List ℤ) (n : ℕ) (ts : List Mode) (m : List ℕ) → Old net ts → lines_from (strip net p k) weights n ts m ≡ lines_from net weights n ts m
  unfolding lines_from
  lines_same weights n [] m old = rw (stays.figures weights m)
  lines_same weights n (t ∷ ts) m old =
      let h = old 0 (omega arith) in
      let m' = fired net t m in
      rw (stays.refusals Movements t m h, stays.afterwards t m h, stays.figures weights m', stays.figures weights m, lines_same weights (n + 1) ts m' (λ i l. old (suc i) (omega arith)))

  run-text-same : (weights : List ℤ) (ts : List Mode) → Old net ts → run_text (strip net p k) weights ts ≡ run_text net weights ts
  unfolding run_text strip
  run-text-same weights ts old = rw (stays.figures weights net.start, lines_same weights 0 ts net.start old)

  movements-text-same : (weights : List ℤ) (part : List ℕ) → Old net (movements_of part) → movements_text (strip net p k) weights part ≡ movements_text net weights part
  unfolding movements_text
  movements-text-same weights part old = rw (run-text-same weights (movements_of part) old)

  weights-text-same : (more : List ℕ) → Old net (movements_of (rest (answer (weights_refusal (pairs net) more)) more))
      → weights_text (strip net p k) more ≡ weights_text net more
  unfolding weights_text
  weights-text-same more old = rw (stays.pairs, movements-text-same (weights_of more) (rest (answer (weights_refusal (pairs net) more)) more) old)

  -- what a ship adds and removes along the first of a list of old modes
  added-same : (weights : List ℤ) (n : ℕ) (ts : List Mode) → Old net ts → added_by (strip net p k) weights (take n ts) ≡ added_by net weights (take n ts)
  unfolding added_by
  added-same weights n ts old = ap total (each_old net _ _ (λ t h. ap gained (stays.changes weights t h)) n ts old)

  removed-same : (weights : List ℤ) (n : ℕ) (ts : List Mode) → Old net ts → removed_by (strip net p k) weights (take n ts) ≡ removed_by net weights (take n ts)
  unfolding removed_by
  removed-same weights n ts old = ap total (each_old net _ _ (λ t h. ap lost (stays.changes weights t h)) n ts old)

-- a net sheet, and a sheet that is read as its net with the transition appended
module _ (net sheet : List ℕ) (p : Pair) (k : ℕ) (w : whole_net net ≡ none) (w' : whole_net sheet ≡ none) (same : net_of sheet ≡ strip (net_of net) p k) where
  abbrev kept : OldModesStay (net_of net) p k
  kept = old_modes_lem (net_of net) p k

  begin-same : (m : List ℕ) → begin_refusal sheet m ≡ begin_refusal net m
  unfolding begin_refusal
  begin-same m = rw (w, w', same, kept.pairs)

  test-same : (m : List ℕ) (t : Mode) → t.0 < modes (net_of net) → test_refusal sheet m t ≡ test_refusal net m t
  unfolding test_refusal
  test-same m t h = rw (w, w', same, kept.markings m, kept.refusals Argument t m h)

  step_same : (m ts : List ℕ) → Old (net_of net) (step_modes ts) → test_step_refusal sheet m ts ≡ test_step_refusal net m ts
  unfolding test_step_refusal
  step_same m ts old = rw (w, w', same, kept.markings m, kept.steps (step_modes ts) m old)

  before_same : (movements m : List ℕ) → before_run sheet movements m ≡ before_run net movements m
  unfolding before_run
  before_same movements m = rw (w, w', same, kept.markings m)

  run-same : (movements m : List ℕ) → Old (net_of net) (movements_of movements) → run_of sheet movements m ≡ run_of net movements m
  unfolding run_of
  run-same movements m old = rw (before_same movements m, same, kept.runs (movements_of movements) m old)

  visits-same : (movements m : List ℕ) → Old (net_of net) (movements_of movements) → visited_by sheet movements m ≡ visited_by net movements m
  unfolding visited_by
  visits-same movements m old = rw (before_same movements m, same, kept.visits (movements_of movements) m old)

  certify-same : (movements claim : List ℕ) → Old (net_of net) (movements_of movements) → certify_refusal sheet movements claim ≡ certify_refusal net movements claim
  unfolding certify_refusal
  certify-same movements claim old = rw (w, w', same, kept.certificates (movements_of movements) claim old)

  -- a run of old modes from the first marking
  outcome-same : (ts : List Mode) → Old (net_of net) ts → run (net_of sheet) ts (net_of sheet).start ≡ run (net_of net) ts (net_of net).start
  outcome-same ts old =
      ap (λ n. run n ts n.start) same ∙ ap (run (strip (net_of net) p k) ts) kept.start ∙ kept.runs ts (net_of net).start old

  trial-same : (damaged : List ℕ) → Old (net_of net) (modes_in damaged) → trial net damaged ≡ trial sheet damaged
  unfolding trial
  trial-same damaged old = sym (outcome-same (modes_in damaged) old)

  voyage_same : (weights movements : List ℕ) → Old (net_of net) (movements_of movements) → voyage_of (ship sheet weights movements) ≡ voyage_of (ship net weights movements)
  unfolding voyage_of
  voyage_same weights movements old =
      let ts = movements_of movements in
      let n = (run (net_of net) ts (net_of net).start).accepted in
      rw (outcome-same ts old, same, added-same (net_of net) p k (weights_of weights) n ts old, removed-same (net_of net) p k (weights_of weights) n ts old)

  ship-same : (found : Fleet) (weights movements : List ℕ) → Old (net_of net) (movements_of movements)
      → entered found (ship sheet weights movements) ≡ entered found (ship net weights movements)
  unfolding entered ship_refusal ship_figures
  ship-same found weights movements old = rw (w, w', same, kept.pairs, voyage_same weights movements old)

  figure-same : (weights m : List ℕ) → figure_refusal sheet weights m ≡ figure_refusal net weights m
  unfolding figure_refusal
  figure-same weights m = rw (w, w', same, kept.pairs, kept.markings m)

  absent-same : (t : Mode) → t.0 < modes (net_of net) → absent Argument (modes (strip (net_of net) p k)) t ≡ absent Argument (modes (net_of net)) t
  absent-same t h =
      mode-there Argument (modes (strip (net_of net) p k)) t (omega (arith, modes-many (net_of net) p k)) ∙ sym (mode-there Argument (modes (net_of net)) t h)

  change-same : (weights : List ℕ) (t : Mode) → t.0 < modes (net_of net) → change_refusal sheet weights t ≡ change_refusal net weights t
  unfolding change_refusal
  change-same weights t h = rw (w, w', same, kept.pairs, absent-same t h)

  dead-refusal-same : (t : Mode) → t.0 < modes (net_of net) → dead_refusal sheet t ≡ dead_refusal net t
  unfolding dead_refusal
  dead-refusal-same t h = rw (w, w', same, absent-same t h)

  dead-same : (t : Mode) → t.0 < modes (net_of net) → is_dead (net_of sheet) t ≡ is_dead (net_of net) t
  unfolding is_dead
  dead-same t h = ap (λ n. is_dead n t) same ∙ ap found (kept.dead t h)

  module _ (well : WellFormed (net_of net)) (well' : WellFormed (strip (net_of net) p k)) (bounded : K (net_of net) p.0 ≡ fin k) (v : Version) (has : HasSheet v (strip (net_of net) p k)) (is : sheet ≡ sheet_of v (strip (net_of net) p k)) where
    texts-same : (more : List ℕ) → Bytes net → length (net ++ more) ≤ 65536 → length (sheet ++ more) ≤ 65536
        → Old (net_of net) (movements_of (rest (answer (weights_refusal (pairs (net_of net)) more)) more)) → replay_text (sheet ++ more) ≡ replay_text (net ++ more)
    texts-same more bytes l l' old =
        ap (λ s. replay_text (s ++ more)) is
        ∙ text-written v (strip (net_of net) p k) well' has more (subst (λ s. length (s ++ more) ≤ 65536) is l')
        ∙ weights-text-same (net_of net) p k more old
        ∙ sym (text-before net bytes w more l)

    old_calls_lem : OldCalls net sheet
    unfolding stated stated_in
    old_calls_lem =
        record {
          begin = λ m a l h. rw (begin-same m, same, kept.start) h;
          test = λ m t l answer left h. rw (test-same m t l) h;
          fire = λ m t l answer left h. rw (test-same m t l, same, kept.afterwards t m l) h;
          test_step = λ m ts old answer left h. rw (step_same m ts old) h;
          fire_step = λ m ts old answer left h. rw (step_same m ts old, same, kept.after_steps (step_modes ts) m old) h;
          run = λ movements m old answer left h. rw (run-same movements m old, visits-same movements m old) h;
          certify = λ movements claim old answer left h. rw (certify-same movements claim old) h;
          salvage = λ damaged out old answer left h. (
            h.0 ∙ salvage-told net sheet damaged (w ∙ sym w') (trial-same damaged old) out,
            h.1 ∙ salvage-left net sheet damaged (w ∙ sym w') (trial-same damaged old) out,
          );
          figure = λ weights m answer left h. rw (figure-same weights m, same, kept.figures (weights_of weights) m) h;
          change = λ weights t l answer left h. rw (change-same weights t l, same, kept.changes (weights_of weights) t l) h;
          add_ship = λ found weights movements old answer left h. rw (ship-same found weights movements old) h;
          is_dead = λ t l answer left h. rw (dead-refusal-same t l, dead-same t l) h;
          first_dead = λ answer left h. rw (w', same, no_new-dead (net_of net) p k well bounded) (rw w at h);
          statement = λ more out bytes l l' old answer left h. rw (texts-same more bytes l l' old) h;
        }

    module _ (there : p.0 < pairs (net_of net)) where
      bare : (m : List ℕ) → marking_refusal (net_of net) m ≡ none → StripsBare (net_of net) p k m
      bare m a = bare-after (net_of net) p k well there bounded m ((marking-test (net_of net) m).0 a)

      -- a marking that the net accepts
      mode-alone : (m : List ℕ) (t : Mode) → marking_refusal (net_of net) m ≡ none → test_refusal sheet m t ≡ mode_refusal Argument (strip (net_of net) p k) t m
      unfolding test_refusal
      mode-alone m t a = none_then w' (rw same (none_then (kept.markings m ∙ a) refl))

      bare-calls : BareCalls net sheet p k
      bare-calls =
          record {
            test = λ m marked n l told allows.
                let a = (marking-test (net_of net) m).1 marked in (
                  λ e. ((bare m a).enabled Argument n l).0 (number-none _ (sym (ap number (allows ∙ ap answer (mode-alone m (new_mode (net_of net) n) a))) ∙ e)),
                  λ e. ap number (allows ∙ ap answer (mode-alone m (new_mode (net_of net) n) a ∙ ((bare m a).enabled Argument n l).1 e)),
                );
            fire = λ m marked. fires m ((marking-test (net_of net) m).1 marked);
          }
        where
          fires : (m : List ℕ) → marking_refusal (net_of net) m ≡ none → (o : Answer × List ℕ) → FireAllows sheet m (new_mode (net_of net) (count m p.0)) o
              → (number o.0 ≡ 0) × (count o.1 p.0 ≡ 0) × ((q : ℕ) → q ≢ p.0 → count o.1 q ≡ count m q)
          fires m a o allows =
              let t = new_mode (net_of net) (count m p.0) in
              let b = bare m a in
              let accepted : test_refusal sheet m t ≡ none = mode-alone m t a ∙ (b.enabled Argument (count m p.0) b.counted).1 refl in
              let left : o.1 ≡ fired (strip (net_of net) p k) t m = allows.1 ∙ rw (accepted, same) refl in
              (ap number (allows.0 ∙ ap answer accepted), ap (λ c. count c p.0) left ∙ b.bare, λ q d. ap (λ c. count c q) left ∙ b.others q d)

-- K of the pair, where it is not refused
bound-is : (b : ℕ∞) → finite b ≡ true → b ≡ fin (bound_of b)
bound-is (fin k) e = refl
bound-is ∞ e = absurd (false≢true e)

pair-there : (net : PNet) (p : Pair) → strip_refusal net p ≡ none → (p.0 < pairs net) × (K net p.0 ≡ fin (bound_of (K net p.0)))
unfolding strip_refusal
pair-there net p e = (
  leb-false _ _ (only_if_none _ _ (left-none _ _ e)),
  bound-is (K net p.0) (not-false _ (only_if_none _ _ (left-none _ _ (right-none _ _ e)))),
)

pub stripping : (net : List ℕ) (p : Pair) (out : List ℕ) (o : Result ℕ Refusal × List ℕ) (n : ℕ) → StripAllows net p out o → answered o.0 ≡ yields n
    → StripWritten net p out o.1 n
unfolding whole_net
stripping net p out o n allows e =
    let told = sym (ap answered allows.0) ∙ e in
    let sheet = stripped_sheet net p in
    let k = bound_of (K (net_of net) p.0) in
    let w = whole_before net p out n told in
    let r = sheet-reads net p out n told in
    let pair = pair-there (net_of net) p (pair-accepted net p out n told) in
    let well = well_formed_lem net (left-none (net_refusal net) _ w) in
    let well' : WellFormed (strip (net_of net) p k) = subst WellFormed r.same (well_formed_lem sheet (left-none (net_refusal sheet) _ r.accepted)) in
    let is = ap (λ left. take n left) allows.1 ∙ sheet-there net p out n told in
    record {
      untouched = ap (λ left. drop n left) allows.1 ∙ rest-there net p out n told;
      version = rw is r.version;
      rule = rw is r.rule;
      accepted = rw is r.accepted;
      same = rw is r.same;
      bare_calls = rw is (bare-calls net sheet p k w r.accepted r.same well well' pair.1 (version_of net) (has_sheet net p) refl pair.0);
      old_calls = rw is (old_calls_lem net sheet p k w r.accepted r.same well well' pair.1 (version_of net) (has_sheet net p) refl);
    }

pub stripped : (net : List ℕ) (p : Pair) (sheet : List ℕ) → StripWrote net p sheet → Stripped net p sheet
stripped net p sheet w =
    let k = stripping net p w.out w.outcome (length sheet) w.allowed w.answered in
    record {
      accepted = rw w.written at k.accepted;
      same = rw w.written at k.same;
      version = rw w.written at k.version;
      rule = rw w.written at k.rule;
      bare_calls = subst (λ s. BareCalls net s p (bound_of (K (net_of net) p.0))) w.written k.bare_calls;
      old_calls = subst (λ s. OldCalls net s) w.written k.old_calls;
    }

pub strip-writes : (net : List ℕ) (p : Pair) → WritesLength (StripAllows net p)
strip-writes net p = writes-length (StripAllows net p) (λ out. stripping_refusal net p (length out)) (stripped_sheet net p) (λ out o h. h)
