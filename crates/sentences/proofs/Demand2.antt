-- Demand 2, from what the crates below prove of the refusals that the calls find first.
use Rattle.model.specs.declared.Pair.{Pair}
use Rattle.std.specs.Prelude.{Option as Perhaps, Result}
use Prim.Native.Nat.{ℕ}
use mathlib.Core.Path.{◌≡◌, refl, sym, ◌∙◌, ap}
use mathlib.Core.Bool.{Bool, true, false}
use mathlib.Core.List.{List}
use mathlib.Core.Logic.{◌↔◌}
use mathlib.Core.Option.{Option, none, some, none-ne-some}
use lib.ListN.{length}
use Rattle.model.specs.declared.Mode.{Mode}
use Rattle.model.specs.declared.Refusal.{Refusal}
use Rattle.model.specs.Refusals.{answer, number}
use Rattle.model.specs.Replies.{yields}
use Rattle.model.specs.First.{Lowest, ◌▸◌, first as first-of}
use Rattle.model.specs.Nets.{mode_no, entry_at}
use Rattle.model.specs.declared.Thing.TheVariants.{Argument}
use Rattle.movement.specs.Figures.{figure, change}
use Rattle.model.proofs.First.{none_then}
use Rattle.movement.proofs.Markings.{marking-test, without-arcs, mode-rule, marking-after}
use Rattle.model.specs.Lists.{joined}
use Rattle.second_form.specs.Complement.{bounded, complement_row, new_places, arcs_of, complement}
use Rattle.both_forms.specs.WorkedExamples.{own_example}
use Rattle.second_form.specs.Dead.{DeadMode, dead_pair, is_dead, first_dead}
use Rattle.second_form.proofs.Dead.{dead-modes}
use Rattle.second_form.proofs.Figure64.{figure_64}
use Rattle.both_forms.proofs.ArcByArc.{arc-by-arc}
use Rattle.sheets.specs.Whole.{whole_net, rest}
use Rattle.sheets.specs.Decoded.{net_of}
use Rattle.sheets.proofs.Accepted.{well_formed_lem}
use Rattle.sheets.proofs.Listed.{movements-within, weights-within}
use Rattle.sheets.proofs.lists.Signs.{signed-weights}
use Rattle.sheets.proofs.written.RoundTrip.{written-then-read, read-then-written}
use Rattle.sheets.proofs.written.Largest.{example_lengths_lem}
use Rattle.sentences.proofs.Largest.{largest-sheet}
use Rattle.statement.proofs.Example.{printed}
use Rattle.fire.specs.Calls.{test_refusal}
use Rattle.fire.proofs.Promises.{accepted-begin, accepted-fire}
use Rattle.run.specs.declared.Ran.{Ran}
use Rattle.run.specs.Calls.{before_run, run_of}
use Rattle.run.specs.Allowed.{RunAllows}
use Rattle.run.proofs.Promises.{runs_leave_lem, certified}
use Rattle.complement.specs.Complemented.{complementing_refusal, complement_sheet}
use Rattle.opened.specs.dead.IsDead as one
use Rattle.opened.specs.dead.FirstDead as first
use Rattle.opened.specs.dead.IsDead.{dead_refusal}
use Rattle.opened.specs.dead.Allowed.{IsDeadAllows, FirstDeadAllows}
use Rattle.opened.proofs.dead.Promises.{names_first_lem}
use Rattle.statement.specs.weigh.Calls as figuring
use Rattle.statement.specs.Replay.{replay_text, statement_refusal, stated, stated_in}
use Rattle.text.proofs.Decimals.{decimals}
use Rattle.sentences.specs.Outcomes.{Begins}
use Rattle.sentences.specs.Demand2.{HandsBack, Reading, Firing, RunReturns, Complementing, Certifying, DeadAt, NamingDead, Summing, Replay, Demand2}
use Rattle.sentences.proofs.Accepting.{number-none}
use Rattle.sentences.proofs.Outcomes.{accepted-none, none-accepted, weighed-none, begins-none, none-begins, writes-length, wrote-is}
use Rattle.sentences.proofs.FigureOverRun.{says, figure-over-list}
use Rattle.sentences.proofs.TextRoom.{by-statement, by-statement-for-c}
use Rattle.sentences.proofs.TextLength.{text-most}

-- the part after a sheet, by the refusal of the sheet
hands_back : (s part : List ℕ) (o : Option Refusal) → part ≡ rest (answer o) s → HandsBack s part o
unfolding rest
hands_back s part none h = record { accepted = λ e. h; refused = λ e. absurd (e refl) }
hands_back s part (some r) h = record { accepted = λ e. absurd (none-ne-some r (sym e)); refused = λ e. h }

reading : Reading
reading =
    record {
      net = well_formed_lem;
      movements = movements-within;
      weights = weights-within;
      signs = signed-weights;
      written_then_read = written-then-read;
      read_then_written = read-then-written;
      largest = largest-sheet;
      after_net = λ s part h. hands_back s part _ h;
      after_weights = λ s part pairs h. hands_back s part _ h;
      after_movements = λ s part h. hands_back s part _ h;
    }

pub firing : Firing
unfolding test_refusal
firing =
    record {
      test = λ net m t a h. (λ z. (accepted-fire.exactly net m t).0 (accepted-none h z), λ f. none-accepted h ((accepted-fire.exactly net m t).1 f));
      fire = λ net m left t a h. (λ z. (accepted-fire.exactly net m t).0 (accepted-none h.0 z), λ f. none-accepted h.0 ((accepted-fire.exactly net m t).1 f));
      leaves = λ net m left t a h z. rw h.1 (accepted-fire.leaves net m t (accepted-none h.0 z));
      without_arcs = λ net m left t a h w k there no.
          let both = without-arcs Argument (net_of net) t m there no k in
          let e : test_refusal net m t ≡ none = none_then w (none_then ((marking-test (net_of net) m).1 k) both.0) in
          (none-accepted h.0 e, h.1 ∙ rw e both.1);
      mode_rule = mode-rule;
      marking_after = marking-after;
      begin = λ net m left a h z. h.1 ∙ accepted-begin net m (accepted-none h.0 z);
    }

-- a run
module _ (net movements marking left : List ℕ) (r : Ran) (h : RunAllows net movements marking (r, left)) where
  accepted-is : r.accepted ≡ (run_of net movements marking).accepted
  accepted-is = ap (λ r. r.accepted) h.0

  answer-is : r.answer ≡ answer (run_of net movements marking).refusal
  answer-is = ap (λ r. r.answer) h.0

  unbegun : (¬ Begins net movements marking) → (o : Option Refusal) → before_run net movements marking ≡ o → (r.accepted ≡ 0) × (left ≡ marking)
  unbegun h' none e = absurd (h' (none-begins net movements marking e))
  unbegun h' (some x) e =
      let k = (runs_leave_lem net movements marking).before x e in
      (accepted-is ∙ k.1, h.1 ∙ k.2)

  run-returns : RunReturns net movements marking left r
  run-returns =
      let k = runs_leave_lem net movements marking in
      record {
        part = rw accepted-is k.part;
        leads = rw (accepted-is, h.1) k.leads;
        whole = (
          λ z. let w = k.whole.0 (accepted-none answer-is z) in (none-begins net movements marking w.0, accepted-is ∙ w.1),
          λ b. none-accepted answer-is (k.whole.1 (begins-none net movements marking b.0, sym accepted-is ∙ b.1)),
        );
        before = λ h'. unbegun h' (before_run net movements marking) refl;
      }

own-complement : complement own_example.net ≡ own_example.printed
unfolding is_dead dead_pair first-of ◌▸◌ complement arcs_of new_places complement_row bounded joined entry_at
own-complement = refl

complementing : Complementing
complementing =
    record {
      figure64 = figure_64;
      arc_by_arc = arc-by-arc;
      writes = λ net. writes-length _ (λ out. complementing_refusal net (length out)) (complement_sheet net) (λ out o h. h);
      own_example = (own-complement, example_lengths_lem.complement);
    }

certifying : Certifying
certifying net movements claim a h = (
  λ z. (certified net movements claim).0 (accepted-none h z),
  λ l. none-accepted h ((certified net movements claim).1 l),
)

-- dead modes: what is told of an accepted sheet
says-it : (o : Option Refusal) (b : Bool) → (one.told (one.deadness o b)).carried.number ≡ number (answer o)
says-it none true = refl
says-it none false = refl
says-it (some r) b = refl

says_yes : (b : Bool) → one.told (one.deadness none b) ≡ yields b
says_yes true = refl
says_yes false = refl

names-it : (o : Option Refusal) (d : Option DeadMode) → (first.told (first.named o d)).carried.number ≡ number (answer o)
names-it none none = refl
names-it none (some d) = refl
names-it (some r) d = refl

names-yes : (d : Option DeadMode) → first.told (first.named none d) ≡ yields d
names-yes none = refl
names-yes (some d) = refl

module _ (net : List ℕ) (t : Mode) (d : Result Bool Refusal) (h : IsDeadAllows net t d) (z : (one.told d).carried.number ≡ 0) where
  pub dead-accepted : dead_refusal net t ≡ none
  dead-accepted = number-none (dead_refusal net t) (sym (ap (λ d. (one.told d).carried.number) h ∙ says-it (dead_refusal net t) (is_dead (net_of net) t)) ∙ z)

  pub dead-told : one.told d ≡ yields (is_dead (net_of net) t)
  dead-told = ap one.told h ∙ rw dead-accepted (says_yes (is_dead (net_of net) t))

  pub told-dead : (one.told d ≡ yields true) ↔ (is_dead (net_of net) t ≡ true)
  told-dead = (
    λ e. let v : some (is_dead (net_of net) t) ≡ some true = ap (λ r. r.value) (sym dead-told ∙ e) in cc,
    λ e. dead-told ∙ ap yields e,
  )

module _ (net : List ℕ) (d : Result (Perhaps (Mode × Pair)) Refusal) (h : FirstDeadAllows net d) (z : (first.told d).carried.number ≡ 0) where
  net-accepted : whole_net net ≡ none
  net-accepted = number-none (whole_net net) (sym (ap (λ d. (first.told d).carried.number) h ∙ names-it (whole_net net) (first_dead (net_of net))) ∙ z)

  first-told : first.told d ≡ yields (first_dead (net_of net))
  first-told = ap first.told h ∙ rw net-accepted (names-yes (first_dead (net_of net)))

  told-first : (x : Option DeadMode) → (first.told d ≡ yields x) ↔ ((first.told (first.first_dead_of net)).value ≡ some x)
  told-first x = (
    λ e. ap (λ r. r.value) (ap first.told (sym h) ∙ e),
    λ e. let v : some (first_dead (net_of net)) ≡ some x = ap (λ r. r.value) (sym first-told ∙ ap first.told h) ∙ e in first-told ∙ ap yields cc,
  )

-- the lowest, by either of two words for one thing
lowest_by : {n : ℕ} {P Q : ℕ → Type 0} → ((i : ℕ) → P i → Q i) → ((i : ℕ) → Q i → P i) → (i : ℕ) → Lowest n P i → Lowest n Q i
lowest_by to back i l = record { below = l.below; holds = to i l.holds; none_lower = λ j h q. l.none_lower j h (back j q) }

dead-to : (net : List ℕ) (u : ℕ) → is_dead (net_of net) (mode_no u) ≡ true → (p : ℕ) × DeadAt net u p
dead-to net u e = let d = (dead-modes (net_of net) (mode_no u)).0 e in (d.0, (d.1, d.2))

dead-back : (net : List ℕ) (u : ℕ) → ((p : ℕ) × DeadAt net u p) → is_dead (net_of net) (mode_no u) ≡ true
dead-back net u d = (dead-modes (net_of net) (mode_no u)).1 (d.0, d.1.0, d.1.1)

naming-dead : NamingDead
naming-dead =
    record {
      is_dead = λ net t d h z. (
        λ e. dead-to net t.0 ((told-dead net t d h z).0 e),
        λ p. (told-dead net t d h z).1 (dead-back net t.0 p),
      );
      first_dead = λ net d h z t p.
          let named = (names_first_lem net (net-accepted net d h z)).at t p in (
            λ e. let k = named.0 ((told-first net d h z _).0 e) in (lowest_by (dead-to net) (dead-back net) t k.0, k.1),
            λ k. (told-first net d h z _).1 (named.1 (lowest_by (dead-back net) (dead-to net) t k.0, k.1)),
          );
      none = λ net d h z.
          let named = (names_first_lem net (net-accepted net d h z)).nowhere in (
            λ e u l q. named.0 ((told-first net d h z _).0 e) u l (dead-back net u q),
            λ h'. (told-first net d h z _).1 (named.1 (λ u l q. h' u l (dead-to net u q))),
          );
    }

summing : Summing
unfolding figure change
summing =
    record {
      figure = λ net weights m f h z. ap figuring.told h ∙ says (weighed-none _ h z);
      change = λ net weights t f h z. ap figuring.told h ∙ says (weighed-none _ h z);
    }

replay : Replay
unfolding stated stated_in
replay =
    record {
      writes = λ input. writes-length _ (λ out. statement_refusal (length out)) (replay_text input) (λ out o h. h);
      text = λ input text w. wrote-is _ (λ out. statement_refusal (length out)) (replay_text input) (λ out o h. h) text w;
      statement = by-statement;
      statement_for_c = by-statement-for-c;
      longest = text-most;
      decimals = decimals;
      printed = printed;
    }

pub demand2 : Demand2
demand2 =
    record {
      reading = reading;
      firing = firing;
      running = run-returns;
      complementing = complementing;
      certifying = certifying;
      naming_dead = naming-dead;
      summing = summing;
      figure_over_list = figure-over-list;
      replay = replay;
    }
