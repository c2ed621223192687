-- An outcome by the refusal that was found first: it has number 0 exactly where there is none.
use native.Mathlib.Omega.{arith}
use Prim.Native.Nat.{ℕ}
use mathlib.Core.Path.{◌≡◌, refl, sym, ◌∙◌, ap}
use mathlib.Core.List.{List, ◌++◌}
use mathlib.Core.Option.{Option, none, some}
use lib.IntN.{ℤ}
use lib.ListN.{length, take, drop}
use Rattle.model.specs.declared.Mode.{Mode}
use Rattle.model.specs.declared.Refusal.{Refusal}
use Rattle.model.specs.Refusals.{Answer}
use Rattle.std.specs.Prelude.{Ok, Err, Result}
use Rattle.model.specs.Refusals.{answer, number, carried}
use Rattle.model.specs.Replies.{yields}
use Rattle.model.proofs.First.{left-none, right-none, none_then}
use Rattle.movement.proofs.Markings.{marking-test}
use Rattle.sheets.specs.Decoded.{net_of}
use Rattle.sheets.specs.Emitted.{told, emitted, output}
use Rattle.fire.specs.Calls.{test_refusal}
use Rattle.fire.specs.step.Calls.{test_step_refusal}
use Rattle.run.specs.Calls.{before_run, run_of, visited_by, ran_of}
use Rattle.statement.specs.weigh.Calls as figuring
use Rattle.statement.specs.weigh.Calls.{figured, figure_refusal}
use Rattle.statement.specs.exclude.Calls.{exclude_refusal}
use lib.Seq.{take-append_seam, drop-append_seam}
use Rattle.sentences.specs.Calls.{Public}
use Rattle.sentences.specs.Outcomes.{Accepts, Begins}
use Rattle.sentences.specs.Wrote.{Writing, CallWrote, WritesLength}
use Rattle.sentences.proofs.Accepting.{number-none, yielded}

pub accepted-none : {a : Answer} {o : Option Refusal} → a ≡ answer o → number a ≡ 0 → o ≡ none
accepted-none {o = o} e z = number-none o (sym (ap number e) ∙ z)

pub none-accepted : {a : Answer} {o : Option Refusal} → a ≡ answer o → o ≡ none → number a ≡ 0
none-accepted e n = ap number (e ∙ ap answer n)

pub zero-accepted : (a : Answer) → number a ≡ 0 → a ≡ Ok tt
zero-accepted (Ok tt) e = refl
zero-accepted (Err r) e = let z = number-none (some r) e in let y : ◌≡◌ {A = ℕ} 0 1 = cc in absurd (omega arith)

-- the figure and the change
pub weighs-it : (o : Option Refusal) (z : ℤ) → (figuring.told (figured o z)).carried ≡ carried (answer o)
unfolding figured
weighs-it none z = refl
weighs-it (some r) z = refl

pub weighed-none : {f : Result ℤ Refusal} {o : Option Refusal} (z : ℤ) → f ≡ figured o z → (figuring.told f).carried.number ≡ 0 → o ≡ none
weighed-none {o = o} z e n = number-none o (sym (ap (λ f. (figuring.told f).carried.number) e ∙ ap (λ c. c.number) (weighs-it o z)) ∙ n)

-- calls that are accepted
module _ (net m : List ℕ) (t : Mode) where
  pub test-accepts : test_refusal net m t ≡ none → Accepts Public.test (net, m, t)
  test-accepts e = record { answer = answer (test_refusal net m t); left = tt; allowed = refl; accepted = none-accepted refl e }

  pub accepts-test : Accepts Public.test (net, m, t) → test_refusal net m t ≡ none
  accepts-test a = accepted-none a.allowed a.accepted

module _ (net m steps : List ℕ) where
  pub step-accepts : test_step_refusal net m steps ≡ none → Accepts Public.test_step (net, m, steps)
  step-accepts e = record { answer = answer (test_step_refusal net m steps); left = tt; allowed = refl; accepted = none-accepted refl e }

  pub accepts-step : Accepts Public.test_step (net, m, steps) → test_step_refusal net m steps ≡ none
  accepts-step a = accepted-none a.allowed a.accepted

pub run-accepts : (net movements m : List ℕ) → (run_of net movements m).refusal ≡ none → Accepts Public.run (net, movements, m)
run-accepts net movements m e =
    record {
      answer = ran_of (run_of net movements m) (visited_by net movements m);
      left = (run_of net movements m).marking;
      allowed = (refl, refl);
      accepted = none-accepted refl e;
    }

pub accepts-figure : (net weights m : List ℕ) → Accepts Public.figure (net, weights, m) → figure_refusal net weights m ≡ none
accepts-figure net weights m a = weighed-none _ a.allowed a.accepted

pub accepts-exclude : (net weights claim : List ℕ) → Accepts Public.exclude (net, weights, claim) → exclude_refusal net weights claim ≡ none
accepts-exclude net weights claim a = accepted-none a.allowed a.accepted

-- a run that begins
module _ (net movements m : List ℕ) where
  pub begins-none : Begins net movements m → before_run net movements m ≡ none
  unfolding before_run
  begins-none b = none_then b.sheet (none_then b.list ((marking-test (net_of net) m).1 b.marked))

  pub none-begins : before_run net movements m ≡ none → Begins net movements m
  unfolding before_run
  none-begins e =
      record {
        sheet = left-none _ _ e;
        list = left-none _ _ (right-none _ _ e);
        marked = (marking-test (net_of net) m).0 (right-none _ _ (right-none _ _ e));
      }

-- a call that answers a length was accepted
pub length-accepted : (o : Option Refusal) (l : ℕ) {n : ℕ} → told (emitted o l) ≡ yields n → o ≡ none
length-accepted o l e = (yielded (λ o. told (emitted o l)) l refl (λ r. refl) o e).0

-- what is left where a length is told: the bytes, and then what was found
module _ (o : Option Refusal) (bytes out left : List ℕ) {n : ℕ} (is : left ≡ output o bytes out) (e : told (emitted o (length bytes)) ≡ yields n) where
  abbrev both : (o ≡ none) × (n ≡ length bytes)
  both = yielded (λ o. told (emitted o (length bytes))) (length bytes) refl (λ r. refl) o e

  pub left_is : left ≡ bytes ++ drop (length bytes) out
  left_is = is ∙ ap (λ o. output o bytes out) both.0

  pub taken_is : take n left ≡ bytes
  taken_is = rw (both.1, left_is) (take-append_seam bytes _)

  pub rest-is : drop n left ≡ drop n out
  rest-is = rw (both.1, left_is) (drop-append_seam bytes _)

  pub length-is : n ≡ length (take n left)
  length-is = both.1 ∙ ap length (sym taken_is)

-- so a call that is known by such an equation wrote the length that it told
pub writes-length : (Allows : Writing) (refusal : List ℕ → Option Refusal) (bytes : List ℕ)
    → ((out : List ℕ) (o : Result ℕ Refusal × List ℕ) → Allows out o → (o.0 ≡ emitted (refusal out) (length bytes)) × (o.1 ≡ output (refusal out) bytes out)) → WritesLength Allows
writes-length Allows refusal bytes known out left e n h t =
    let k = known out (e, left) h in
    let f = sym (ap told k.0) ∙ t in (
      record {
        out = out;
        outcome = (e, left);
        allowed = h;
        answered = t ∙ ap yields (length-is (refusal out) bytes out left k.1 f);
        written = ap (λ i. take i left) (sym (length-is (refusal out) bytes out left k.1 f));
      },
      rest-is (refusal out) bytes out left k.1 f,
    )

-- and the bytes are those
pub wrote-is : (Allows : Writing) (refusal : List ℕ → Option Refusal) (bytes : List ℕ)
    → ((out : List ℕ) (o : Result ℕ Refusal × List ℕ) → Allows out o → (o.0 ≡ emitted (refusal out) (length bytes)) × (o.1 ≡ output (refusal out) bytes out))
    → (written : List ℕ) → CallWrote Allows written → written ≡ bytes
wrote-is Allows refusal bytes known written w =
    let k = known w.out w.outcome w.allowed in
    sym w.written ∙ taken_is (refusal w.out) bytes w.out w.outcome.1 k.1 (sym (ap told k.0) ∙ w.answered)
