-- What is done alike to a net and to its complement keeps the two markings in step.
use Prim.Native.Nat.{ℕ, ◌<◌}
use mathlib.Core.Path.{◌≡◌, refl, sym, ◌∙◌, ap}
use mathlib.Core.List.{List}
use mathlib.Core.Option.{Option, none, some, none-ne-some}
use lib.ListN.{length}
use lib.Seq.{ext_get_or}
use native.Mathlib.Omega.{arith}
use Rattle.model.specs.declared.Mode.{Mode}
use Rattle.model.specs.declared.Thing.TheVariants.{Argument}
use Rattle.model.specs.declared.Refusal.{Refusal}
use Rattle.model.specs.Refusals.{answer, number}
use Rattle.model.specs.Replies.{yields}
use Rattle.model.specs.Nets.{pairs}
use Rattle.model.specs.Markings.{marking_refusal}
use Rattle.model.specs.Firing.{mode_refusal}
use Rattle.second_form.specs.Complement.{complement, complement_refusal, refusal15, Corresponds}
use Rattle.both_forms.specs.Audit.{audited}
use Rattle.model.proofs.First.{left-none, none_then}
use Rattle.movement.proofs.Markings.{marking-test}
use Rattle.second_form.proofs.ComplementNet.{start-corresponds}
use Rattle.both_forms.proofs.OutOfStep.{audit-finds}
use Rattle.second_form.proofs.CorrespondingMoves.{accepts as accepted-there, accepts-back, move_corresponds}
use Rattle.sheets.specs.Decoded.{net_of}
use Rattle.fire.specs.Calls.{test_refusal, fired_by, begin_refusal, begun as begun_by}
use Rattle.fire.proofs.Promises.{start-marks, marking-stays}
use Rattle.run.specs.Calls.{run_of}
use Rattle.run.proofs.Promises.{runs_keep_lem}
use Rattle.fire.specs.step.Calls.{test_step_refusal, stepped_by}
use Rattle.complement.specs.audit.Audits.{audited_of}
use Rattle.complement.specs.audit.Audits as audits
use Rattle.sentences.proofs.Accepting.{number-none}
use Rattle.sentences.proofs.TwoRuns.{marking-beside, run-match}
use Rattle.sentences.proofs.TwoSteps.{StepsMatch, step-match}
use Rattle.sentences.proofs.DemandOne.{step_keeps as refused-keeps}
use Rattle.sentences.proofs.Audits.{told-audited, told_in_step}
use Rattle.sentences.specs.Wrote.{ComplementWrote}
use Rattle.sentences.specs.more.Reached.{ReachedBeside, given, begun, fired, stepped, ran}
use Rattle.sentences.specs.more.InStep.{InStep}
use Rattle.sentences.proofs.Written.{accepts, can-complement, net-whole, sheet-whole, sheet-same}
use Rattle.sentences.proofs.more.Steps.{step_keeps}

pub record Kept (net m m' : List ℕ) : Type 0 where
  pub marked : marking_refusal (net_of net) m ≡ none
  pub corresponds : Corresponds (net_of net) m m'

module _ (net sheet : List ℕ) (w : ComplementWrote net sheet) where
  no15 : refusal15 (can-complement net sheet w).offset (net_of net) ≡ none
  unfolding complement_refusal
  no15 = left-none _ _ (can-complement net sheet w).accepted

  -- a marking beside one that the net accepts, the complement accepts
  pub beside-accepted : (m m' : List ℕ) → Kept net m m' → marking_refusal (net_of sheet) m' ≡ none
  beside-accepted m m' k = marking-beside net sheet m m' (can-complement net sheet w) (sheet-same net sheet w) k.marked k.corresponds

  module _ (m m' : List ℕ) (k : Kept net m m') (t : Mode) where
    -- at a marking that is accepted, test asks the mode alone
    here : test_refusal net m t ≡ mode_refusal Argument (net_of net) t m
    unfolding test_refusal
    here = none_then (net-whole net sheet w) (none_then k.marked refl)

    there : test_refusal sheet m' t ≡ mode_refusal Argument (complement (net_of net)) t m'
    unfolding test_refusal
    there =
        none_then (sheet-whole net sheet w) (none_then (beside-accepted m m' k) refl)
        ∙ ap (λ n. mode_refusal Argument n t m') (sheet-same net sheet w)

    pub test-forth : test_refusal net m t ≡ none → test_refusal sheet m' t ≡ none
    test-forth e = there ∙ accepted-there (net_of net) (can-complement net sheet w).well_formed (can-complement net sheet w).offset no15 Argument t m m' k.corresponds (sym here ∙ e)

    pub test_back : test_refusal sheet m' t ≡ none → test_refusal net m t ≡ none
    test_back e = here ∙ accepts-back (net_of net) (can-complement net sheet w).well_formed (can-complement net sheet w).offset no15 Argument t m m' k.corresponds (sym there ∙ e)

    fire-corresponds : (o o' : Option Refusal) → test_refusal net m t ≡ o → test_refusal sheet m' t ≡ o' → Corresponds (net_of net) (fired_by net m t) (fired_by sheet m' t)
    fire-corresponds none none e e' =
        rw (e, e', sheet-same net sheet w)
        (move_corresponds (net_of net) (can-complement net sheet w).well_formed (can-complement net sheet w).offset no15 Argument t m m' k.corresponds (sym here ∙ e))
    fire-corresponds none (some r) e e' = absurd (none-ne-some r (sym (test-forth e) ∙ e'))
    fire-corresponds (some r) none e e' = absurd (none-ne-some r (sym (test_back e') ∙ e))
    fire-corresponds (some r) (some s) e e' = rw (e, e') k.corresponds

    pub fire-kept : Kept net (fired_by net m t) (fired_by sheet m' t)
    fire-kept = record { marked = marking-stays.fires net m t k.marked; corresponds = fire-corresponds _ _ refl refl }

  pub steps-agree : (m m' modes : List ℕ) → Kept net m m' → StepsMatch net sheet m m' modes
  steps-agree m m' modes k =
      step-match net sheet w m m' modes k.marked k.corresponds

  step_kept : (m m' modes : List ℕ) → Kept net m m' → (number (answer (test_step_refusal net m modes)) ≡ 0 → number (answer (test_step_refusal sheet m' modes)) ≡ 0)
      → Kept net (stepped_by net m modes) (stepped_by sheet m' modes)
  step_kept m m' modes k alike =
      record { marked = step_keeps net m modes k.marked; corresponds = go (test_step_refusal net m modes) (test_step_refusal sheet m' modes) refl refl }
    where
      go : (o o' : Option Refusal) → test_step_refusal net m modes ≡ o → test_step_refusal sheet m' modes ≡ o'
          → Corresponds (net_of net) (stepped_by net m modes) (stepped_by sheet m' modes)
      go o none e e' = (steps-agree m m' modes k).after e'
      go none (some r) e e' = absurd (none-ne-some r (sym (number-none (test_step_refusal sheet m' modes) (alike (rw e))) ∙ e'))
      go (some r) (some s) e e' = rw (e, e') k.corresponds

  run-kept : (m m' movements : List ℕ) → Kept net m m' → Kept net (run_of net movements m).marking (run_of sheet movements m').marking
  run-kept m m' movements k =
      record {
        marked = runs_keep_lem net movements m k.marked;
        corresponds = ((run-match net sheet w).onwards movements m m' k.marked k.corresponds).at_end;
      }

  begin-kept : (m m' : List ℕ) → begin_refusal net m ≡ none → begin_refusal sheet m' ≡ none → Kept net (begun_by net m) (begun_by sheet m')
  begin-kept m m' e e' = record { marked = marking-stays.begins net m e; corresponds = (run-match net sheet w).at_start m m' e e' }

  pub kept : {m m' : List ℕ} → ReachedBeside net sheet m m' → Kept net m m'
  kept (given a c) = record { marked = a; corresponds = c }
  kept (begun m m' told told' a z a' z') =
      rw (a.1, a'.1)
      (begin-kept m m' (number-none (begin_refusal net m) (sym (ap number a.0) ∙ z)) (number-none (begin_refusal sheet m') (sym (ap number a'.0) ∙ z')))
  kept (fired {m} {m'} b t told told' a a') = rw (a.1, a'.1) (fire-kept m m' (kept b) t)
  kept (stepped {m} {m'} b modes told told' a a' alike) =
      rw (a.1, a'.1) (step_kept m m' modes (kept b) (λ z. sym (ap number a'.0) ∙ alike (ap number a.0 ∙ z)))
  kept (ran {m} {m'} b movements told told' a a') = rw (a.1, a'.1) (run-kept m m' movements (kept b))

  -- the first markings
  pub first-beside : ReachedBeside net sheet (net_of net).start (net_of sheet).start
  first-beside =
      given {m' = (net_of sheet).start} ((marking-test (net_of net) (net_of net).start).1 (start-marks net (net-whole net sheet w)))
      (rw (sheet-same net sheet w) (start-corresponds (net_of net) (can-complement net sheet w).well_formed))

  -- two markings that correspond to one are one
  corresponds-once : (m after m' : List ℕ) → Corresponds (net_of net) m m' → Corresponds (net_of net) after m' → after ≡ m
  corresponds-once m after m' c d =
      ext_get_or 0 after m (d.one_each ∙ sym c.one_each)
      (λ p h. let l : p < pairs (net_of net) = omega (arith, d.one_each) in sym (d.equal p l) ∙ c.equal p l)

  -- where an audit finds none, the markings correspond
  none-corresponds : (m m' : List ℕ) → length m ≡ pairs (net_of net) → length m' ≡ pairs (complement (net_of net)) → audits.told (audited_of net m m') ≡ yields none
      → Corresponds (net_of net) m m'
  none-corresponds m m' h h' e =
      let v : some (audited (net_of net) m m') ≡ some none = ap (λ r. r.value) (sym (told-audited net (length w.out) (accepts net sheet w) m m' h h') ∙ e) in
      ((audit-finds (net_of net) m m').nothing h h').0 (cc)

pub in_step_lem : InStep
in_step_lem net sheet w =
    record {
      always = λ m m' b o a. ap audits.told a ∙ told_in_step net (length w.out) (accepts net sheet w) m m' (kept net sheet w b).corresponds;
      parted = λ m m' modes after after' told told' b f f' refused moved o a found.
          let k = kept net sheet w b in
          let stays : after' ≡ m' = refused-keeps (sheet, m', modes) told' after' f' refused in
          let one = ((marking-test (net_of net) after).0 (rw f.1 (step_keeps net m modes k.marked))).one_each in
          let c = rw stays at (none-corresponds net sheet w after after' one (rw stays k.corresponds.one_each') (sym (ap audits.told a) ∙ found)) in
          moved (corresponds-once net sheet w m after m' k.corresponds c);
    }
