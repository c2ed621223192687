-- The run calls over a net sheet and over its complement's, from corresponding markings: two runs of the model, where the movement sheet is accepted.
use Prim.Native.Nat.{ℕ}
use mathlib.Core.Path.{◌≡◌, refl, sym, ◌∙◌, ap, subst}
use mathlib.Core.List.{List}
use mathlib.Core.Option.{Option, none, some, none-ne-some}
use lib.ListN.{length}
use Rattle.model.specs.declared.Refusal.{Refusal}
use Rattle.model.specs.Nets.{PNet}
use Rattle.model.specs.Replies.{yields}
use Rattle.movement.specs.Runs.{Outcome, go_on, run}
use Rattle.model.specs.Markings.{marking_refusal}
use Rattle.second_form.specs.Complement.{complement, refusal15, complement_refusal, Corresponds}
use Rattle.second_form.specs.DemandThree.{Complementable}
use Rattle.model.proofs.First.{left-none, none_then, then-none}
use Rattle.movement.proofs.Markings.{marking-test}
use Rattle.second_form.proofs.ComplementNet.{start-corresponds}
use Rattle.second_form.proofs.ComplementWellFormed.{corresponds-marking}
use Rattle.second_form.proofs.Demand3.{runs-alike, refusals}
use Rattle.sheets.specs.Whole.{whole_net, whole_movements}
use Rattle.sheets.specs.Decoded.{net_of, movements_of}
use Rattle.sheets.specs.Emitted.{emitted, told}
use Rattle.fire.specs.Calls.{begin_refusal, begun}
use Rattle.run.specs.Calls.{run_of, before_run}
use Rattle.complement.specs.Complemented.{complementing_refusal, complement_of}
use Rattle.promises.specs.DemandThree.{as_written, WrittenComplement}
use Rattle.promises.specs.TwoRuns.{RunsAgree, TwoRuns}
use Rattle.promises.proofs.Accepting.{yielded}
use Rattle.promises.proofs.DemandThree.{complementable, over_bytes_lem}

-- a call that answers a length was accepted
pub length-accepted : (o : Option Refusal) (l : ℕ) {n : ℕ} → told (emitted o l) ≡ yields n → o ≡ none
length-accepted o l e = (yielded (λ o. told (emitted o l)) l refl (λ r. refl) o e).0

-- two answers of one length
pub length-is : {l n : ℕ} → yields l ≡ yields n → l ≡ n
length-is {l} {n} e = let v : some l ≡ some n = ap (λ r. r.value) e in cc

pub written : (net out : List ℕ) {n : ℕ} → complementing_refusal net (length out) ≡ none → told (complement_of net out) ≡ yields n → WrittenComplement net out n
written net out q e =
    let w = over_bytes_lem net out q in
    subst (λ (n : ℕ). WrittenComplement net out n) (length-is (sym w.1.answered ∙ e)) w.1

-- what the run call gives from a marking that is accepted: the movement sheet's refusal, or the run of the net
abbrev after_sheet : PNet → List ℕ → List ℕ → Outcome
after_sheet net movements m = go_on (whole_movements movements) 0 m (run net (movements_of movements) m)

before_from : (net movements marking : List ℕ) → whole_net net ≡ none → marking_refusal (net_of net) marking ≡ none → before_run net movements marking ≡ whole_movements movements
unfolding before_run
before_from net movements marking w a = none_then w (rw a (then-none (whole_movements movements)))

run_from_lem : (net movements marking : List ℕ) → whole_net net ≡ none → marking_refusal (net_of net) marking ≡ none
    → run_of net movements marking ≡ after_sheet (net_of net) movements marking
unfolding run_of
run_from_lem net movements marking w a = rw (before_from net movements marking w a)

-- a marking that corresponds to one that the net accepts, the complement accepts
pub marking-beside : (net sheet marking marking' : List ℕ) → Complementable (net_of net) → net_of sheet ≡ complement (net_of net)
    → marking_refusal (net_of net) marking ≡ none → Corresponds (net_of net) marking marking' → marking_refusal (net_of sheet) marking' ≡ none
marking-beside net sheet marking marking' c same a h =
    rw same
    ((marking-test (complement (net_of net)) marking').1
    (corresponds-marking (net_of net) marking marking' c.well_formed ((marking-test (net_of net) marking).0 a) h))

module _ (net sheet movements marking marking' : List ℕ) (c : Complementable (net_of net)) (same : net_of sheet ≡ complement (net_of net))
    (w : whole_net net ≡ none) (w' : whole_net sheet ≡ none) (a : marking_refusal (net_of net) marking ≡ none) (h : Corresponds (net_of net) marking marking') where
  in_net_lem : run_of net movements marking ≡ after_sheet (net_of net) movements marking
  in_net_lem = run_from_lem net movements marking w a

  in_complement_lem : run_of sheet movements marking' ≡ after_sheet (complement (net_of net)) movements marking'
  in_complement_lem = run_from_lem sheet movements marking' w' (marking-beside net sheet marking marking' c same a h) ∙ ap (λ n. after_sheet n movements marking') same

  no15 : refusal15 c.offset (net_of net) ≡ none
  unfolding complement_refusal
  no15 = left-none _ _ c.accepted

  agreed : (o : Option Refusal) → whole_movements movements ≡ o → RunsAgree net sheet movements marking marking'
  agreed none e =
      let ts = movements_of movements in
      let both = runs-alike (net_of net) c.well_formed c.offset no15 ts marking marking' h in
      record {
        accepted = rw (in_net_lem, in_complement_lem, e) both.accepted;
        sheet_refused = λ r q. absurd (none-ne-some r (sym e ∙ q));
        refusal = λ q. rw (in_net_lem, in_complement_lem, e) (refusals (net_of net) c.well_formed c.offset no15 ts marking marking' h);
        at_end = rw (in_net_lem, in_complement_lem, e) both.marking;
      }
  agreed (some x) e =
      record {
        accepted = rw (in_net_lem, in_complement_lem, e);
        sheet_refused = λ r q. rw (in_net_lem, in_complement_lem, e) (sym e ∙ q, sym e ∙ q, refl);
        refusal = λ q. absurd (none-ne-some x (sym q ∙ e));
        at_end = rw (in_net_lem, in_complement_lem, e) h;
      }

begun-start : (net marking : List ℕ) → begin_refusal net marking ≡ none → begun net marking ≡ (net_of net).start
begun-start net marking b = rw b

pub net-accepted : (net : List ℕ) (room : ℕ) → complementing_refusal net room ≡ none → whole_net net ≡ none
unfolding complementing_refusal
net-accepted net room e = left-none _ _ e

pub two_runs_lem : TwoRuns
two_runs_lem net out n e =
    let q = length-accepted (complementing_refusal net (length out)) _ e in
    let c = complementable net (length out) q in
    let w = written net out q e in
    record {
      at_start = λ marking marking' b b'.
          rw (begun-start net marking b, begun-start (as_written net out n) marking' b', w.same) (start-corresponds (net_of net) c.well_formed);
      onwards = λ movements marking marking' a h.
          agreed net (as_written net out n) movements marking marking' c w.same (net-accepted net (length out) q) w.reads_back a h
          (whole_movements movements) refl;
    }
