-- An audit of what the calls leave: no refusal stands before it, and it finds what the model's does.
use Prim.Native.Nat.{ℕ}
use mathlib.Core.Path.{◌≡◌, ◌∙◌, ap}
use mathlib.Core.List.{List}
use mathlib.Core.Option.{none}
use lib.ListN.{length}
use borrow.Author.Tests.{eq-eqb}
use Rattle.model.specs.declared.Mode.{Mode}
use Rattle.model.specs.declared.Thing.TheVariants.{Argument}
use Rattle.model.specs.Nets.{PNet, pairs}
use Rattle.model.specs.Replies.{yields}
use Rattle.model.specs.Markings.{marking_refusal}
use Rattle.model.specs.Firing.{mode_refusal, fired}
use Rattle.second_form.specs.Complement.{complement, complement_refusal, Corresponds}
use Rattle.second_form.specs.DemandThree.{Complementable}
use Rattle.both_forms.specs.Audit.{audited, audit_refusal, marked}
use Rattle.model.proofs.First.{left-none, right-none, none_then}
use Rattle.model.proofs.Tables.{table-length}
use Rattle.movement.proofs.Markings.{fired-length}
use Rattle.both_forms.proofs.OutOfStep.{in_step_lem}
use Rattle.second_form.proofs.CorrespondingMoves.{accepts}
use Rattle.both_forms.proofs.OutOfStepMoves.{mark_shows_lem}
use Rattle.sheets.specs.Decoded.{net_of}
use Rattle.sheets.specs.Whole.{whole_net}
use Rattle.fire.specs.Calls.{test_refusal, fired_by}
use Rattle.complement.specs.Complemented.{room_refusal, complementing_refusal}
use Rattle.complement.specs.audit.Audits.{told, auditing_refusal, audited_of}
use Rattle.complement.proofs.audit.Answers.{told-found}
use Rattle.promises.specs.DemandThree.{as_written}
use Rattle.promises.specs.Audits.{Audits}
use Rattle.promises.proofs.DemandThree.{complementable}
use Rattle.promises.proofs.TwoRuns.{length-accepted, written, marking-beside, two_runs_lem}

-- a net that complementing accepts, and one count for each pair: what is told is what is found
module _ (net : List ℕ) (room : ℕ) (e : complementing_refusal net room ≡ none) (m m' : List ℕ) where
  audit-accepted : length m ≡ pairs (net_of net) → length m' ≡ pairs (complement (net_of net)) → auditing_refusal net m m' ≡ none
  unfolding complementing_refusal room_refusal auditing_refusal audit_refusal
  audit-accepted h h' =
      none_then (left-none _ _ e)
      (none_then (left-none _ _ (right-none _ _ e)) (none_then (rw (eq-eqb (length m) (pairs (net_of net)) h)) (rw (eq-eqb (length m') (pairs (complement (net_of net))) h'))))

  pub told-audited : length m ≡ pairs (net_of net) → length m' ≡ pairs (complement (net_of net)) → told (audited_of net m m') ≡ yields (audited (net_of net) m m')
  told-audited h h' = told-found (audited (net_of net) m m') (audit-accepted h h')

  pub told_in_step : Corresponds (net_of net) m m' → told (audited_of net m m') ≡ yields none
  told_in_step c = told-audited c.one_each c.one_each' ∙ ap yields (in_step_lem (net_of net) m m' c)

mode-accepted : (net marking : List ℕ) (t : Mode) → test_refusal net marking t ≡ none → mode_refusal Argument (net_of net) t marking ≡ none
unfolding test_refusal
mode-accepted net marking t e = right-none _ _ (right-none _ _ e)

-- what the net accepts, the complement accepts
accepted-beside : (net : PNet) → Complementable net → (t : Mode) (m m' : List ℕ) → Corresponds net m m' → mode_refusal Argument net t m ≡ none
    → mode_refusal Argument (complement net) t m' ≡ none
unfolding complement_refusal
accepted-beside net c t m m' h e = accepts net c.well_formed c.offset (left-none _ _ c.accepted) Argument t m m' h e

-- what fire leaves where the marking and the mode are accepted
module _ (sheet marking : List ℕ) (t : Mode) (of : PNet) (same : net_of sheet ≡ of) where
  test-accepted : whole_net sheet ≡ none → marking_refusal (net_of sheet) marking ≡ none → mode_refusal Argument of t marking ≡ none → test_refusal sheet marking t ≡ none
  unfolding test_refusal
  test-accepted w a e = none_then w (none_then a (ap (λ n. mode_refusal Argument n t marking) same ∙ e))

  fired_from : test_refusal sheet marking t ≡ none → fired_by sheet marking t ≡ fired of t marking
  fired_from e = rw (e, same)

pub audits : Audits
audits net out n e marking marking' a h =
    let q = length-accepted (complementing_refusal net (length out)) _ e in
    let c = complementable net (length out) q in
    let w = written net out q e in
    let sheet = as_written net out n in
    record {
      after_runs = λ movements. told_in_step net (length out) q _ _ ((two_runs_lem net out n e).onwards movements marking marking' a h).at_end;
      left_behind = λ t f.
          let g = mode-accepted net marking t f in
          let left =
          fired_from sheet marking' t (complement (net_of net)) w.same
          (test-accepted sheet marking' t (complement (net_of net)) w.same w.reads_back (marking-beside net sheet marking marking' c w.same a h)
          (accepted-beside (net_of net) c t marking marking' h g)) in
          rw left
          (told-audited net (length out) q (marked (net_of net) t marking) (fired (complement (net_of net)) t marking') (table-length (pairs (net_of net)) _) (fired-length (complement (net_of net)) t marking')
          ∙ ap yields (mark_shows_lem Argument (net_of net) c t marking marking' h g).in_net);
    }
