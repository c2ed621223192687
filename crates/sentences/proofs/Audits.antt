-- An audit of what the calls leave: no refusal stands before it, and it finds what the model's does.
use Rattle.model.specs.declared.Pair.{Pair}
use Rattle.std.specs.Prelude.{Option as Perhaps, Result, ℤ}
use lib.IntN.{pos}
use Rattle.model.specs.First.{lowest}
use Rattle.model.specs.Refusals.{number, answer}
use Rattle.complement.proofs.audit.Promises.{says-audited}
use lib.Dec.{ltb}
use Rattle.model.specs.declared.Refusal.{Refusal}
use Rattle.complement.specs.audit.Allowed.{AuditAllows}
use Prim.Native.Nat.{ℕ, ◌<◌}
use mathlib.Core.Path.{refl, ◌≡◌, ◌∙◌, ap, sym}
use mathlib.Core.List.{List}
use mathlib.Core.Option.{none, some, Option}
use lib.ListN.{length}
use borrow.Author.Tests.{eq-eqb, ltb-true, lt-ltb}
use Rattle.model.specs.declared.Mode.{Mode}
use Rattle.model.specs.declared.Thing.TheVariants.{Argument}
use Rattle.model.specs.Nets.{PNet, pairs, pair_no}
use Rattle.model.specs.Replies.{yields}
use Rattle.model.specs.Markings.{marking_refusal, Marking}
use Rattle.model.specs.Firing.{mode_refusal, fired}
use Rattle.second_form.specs.Complement.{complement, complement_refusal, Corresponds}
use Rattle.second_form.specs.DemandThree.{Complementable}
use Rattle.both_forms.specs.Audit.{audited, audit_refusal, marked, Finding, takes}
use Rattle.model.proofs.First.{left-none, right-none, none_then, Decides, lowest-some, lowest-none}
use Rattle.model.proofs.Tables.{table-length}
use Rattle.movement.proofs.Markings.{fired-length, marking-test}
use Rattle.both_forms.proofs.OutOfStep.{in_step_lem}
use Rattle.second_form.proofs.CorrespondingMoves.{accepts}
use Rattle.both_forms.proofs.OutOfStepMoves.{mark_shows_lem}
use Rattle.sheets.specs.Decoded.{net_of}
use Rattle.sheets.specs.Whole.{whole_net}
use Rattle.fire.specs.Calls.{test_refusal, fired_by}
use Rattle.complement.specs.Complemented.{room_refusal, complementing_refusal}
use Rattle.complement.specs.audit.Audits.{told, auditing_refusal, audited_of, finds}
use Rattle.complement.proofs.audit.Answers.{told-found}
use Rattle.sentences.specs.Audit.{Finds, AuditsOf}
use Rattle.sentences.specs.Wrote.{ComplementWrote}
use Rattle.sentences.proofs.Accepting.{number-none}
use Rattle.sentences.proofs.Outcomes.{accepts-test}
use Rattle.sentences.proofs.Written.{accepts as accepted-by, can-complement, sheet-whole, sheet-same}
use Rattle.sentences.proofs.TwoRuns.{marking-beside, run-match}

-- a net that complementing accepts, and one count for each pair: what is told is what is found
module _ (net : List ℕ) (room : ℕ) (e : complementing_refusal net room ≡ none) (m m' : List ℕ) where
  audit-accepted : length m ≡ pairs (net_of net) → length m' ≡ pairs (complement (net_of net)) → auditing_refusal net m m' ≡ none
  unfolding complementing_refusal room_refusal auditing_refusal audit_refusal
  audit-accepted h h' =
      none_then (left-none _ _ e)
      (none_then (left-none _ _ (right-none _ _ e)) (none_then (rw (eq-eqb (length m) (pairs (net_of net)) h)) (rw (eq-eqb (length m') (pairs (complement (net_of net))) h'))))

  pub told-audited : length m ≡ pairs (net_of net) → length m' ≡ pairs (complement (net_of net)) → told (audited_of net m m') ≡ yields (audited (net_of net) m m')
  told-audited h h' = told-found (audited (net_of net) m m') (audit-accepted h h')

  pub told_in_step : Corresponds (net_of net) m m' → told (audited_of net m m') ≡ yields none
  told_in_step c = told-audited c.one_each c.one_each' ∙ ap yields (in_step_lem (net_of net) m m' c)

mode-accepted : (net marking : List ℕ) (t : Mode) → test_refusal net marking t ≡ none → mode_refusal Argument (net_of net) t marking ≡ none
unfolding test_refusal
mode-accepted net marking t e = right-none _ _ (right-none _ _ e)

-- what the net accepts, the complement accepts
accepted-beside : (net : PNet) → Complementable net → (t : Mode) (m m' : List ℕ) → Corresponds net m m' → mode_refusal Argument net t m ≡ none
    → mode_refusal Argument (complement net) t m' ≡ none
unfolding complement_refusal
accepted-beside net c t m m' h e = accepts net c.well_formed c.offset (left-none _ _ c.accepted) Argument t m m' h e

finds-number : (o : Option Refusal) (f : Option Finding) → (told (finds o f)).carried.number ≡ number (answer o)
unfolding finds
finds-number none none = refl
finds-number none (some f) = refl
finds-number (some r) f = refl

value_of : {A : Type 0} {x y : A} → some x ≡ some y → x ≡ y
value_of e = cc

-- what fire leaves where the marking and the mode are accepted
module _ (sheet marking : List ℕ) (t : Mode) (of : PNet) (same : net_of sheet ≡ of) where
  test-accepted : whole_net sheet ≡ none → marking_refusal (net_of sheet) marking ≡ none → mode_refusal Argument of t marking ≡ none → test_refusal sheet marking t ≡ none
  unfolding test_refusal
  test-accepted w a e = none_then w (none_then a (ap (λ n. mode_refusal Argument n t marking) same ∙ e))

  fired_from : test_refusal sheet marking t ≡ none → fired_by sheet marking t ≡ fired of t marking
  fired_from e = rw (e, same)

-- what an audit that is accepted finds
pub audit-finds-so : (net marking beside : List ℕ) (f : Result (Perhaps (Pair × ℤ)) Refusal) → AuditAllows net marking beside f → (told f).carried.number ≡ 0 → Finds net marking beside f
audit-finds-so net marking beside f h z =
    let e = number-none (auditing_refusal net marking beside) (sym (ap (λ f. (told f).carried.number) h ∙ finds-number _ (audited (net_of net) marking beside)) ∙ z) in
    let is = ap told h ∙ told-found (audited (net_of net) marking beside) e in
    let says = says-audited net marking beside e in
    record {
      nothing = (
        λ q. says.nothing.0 (ap (λ r. r.value) (ap told (sym h) ∙ q)),
        λ c. is ∙ ap yields (value_of (ap (λ r. r.value) (sym is ∙ ap told h) ∙ says.nothing.1 c)),
      );
      at = λ p. (
        λ q. (says.at p).0 (ap (λ r. r.value) (ap told (sym h) ∙ q)),
        λ l. is ∙ ap yields (value_of (ap (λ r. r.value) (sym is ∙ ap told h) ∙ (says.at p).1 l)),
      );
    }

-- the lowest pair that a mode takes from
takes-some : (net : PNet) (t : Mode) → Decides (λ p. ltb 0 (takes net t p)) (λ p. 0 < takes net t p)
takes-some net t = record { sound = λ p. ltb-true 0 (takes net t p); complete = λ p. lt-ltb 0 (takes net t p) }

pub audits : (net sheet : List ℕ) → ComplementWrote net sheet → (m m' : List ℕ) → Marking (net_of net) m → Corresponds (net_of net) m m' → AuditsOf net sheet m m'
audits net sheet w m m' k h =
    let a = (marking-test (net_of net) m).1 k in
    let c = can-complement net sheet w in
    let same = sheet-same net sheet w in
    let room = length w.out in
    let q = accepted-by net sheet w in
    record {
      after_runs = λ movements r r' left left' ran ran' f found.
          ap told found ∙ told_in_step net room q left left' (rw (ran.1, ran'.1) ((run-match net sheet w).onwards movements m m' a h).at_end);
      left_behind = λ t tested told-a left fires f found.
          let g = mode-accepted net m t (accepts-test net m t tested) in
          let is : left ≡ fired (complement (net_of net)) t m' =
          fires.1
          ∙ fired_from sheet m' t (complement (net_of net)) same
          (test-accepted sheet m' t (complement (net_of net)) same (sheet-whole net sheet w) (marking-beside net sheet m m' c same a h)
          (accepted-beside (net_of net) c t m m' h g)) in
          let all : told f ≡ yields (lowest (pairs (net_of net)) (λ p. ltb 0 (takes (net_of net) t p)) (λ p. record { pair = pair_no p; excess = pos (takes (net_of net) t p) })) =
          ap told found
          ∙ (rw is
          (told-audited net room q (marked (net_of net) t m) (fired (complement (net_of net)) t m') (table-length (pairs (net_of net)) _) (fired-length (complement (net_of net)) t m')
          ∙ ap yields (mark_shows_lem Argument (net_of net) c t m m' h g).in_net)) in
          record {
            at = λ p l. all ∙ ap yields (lowest-some (takes-some (net_of net) t) _ (pairs (net_of net)) p l);
            nothing = λ n. all ∙ ap yields (lowest-none (takes-some (net_of net) t) _ (pairs (net_of net)) n);
          };
    }
