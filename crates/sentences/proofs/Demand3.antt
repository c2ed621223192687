-- Demand 3 by outcomes: what is written reads back, and what becomes of a refusal is 11 where it was 12 or 13.
use Prim.Native.Nat.{ℕ}
use mathlib.Core.Path.{◌≡◌, refl, sym, ◌∙◌, ap}
use mathlib.Core.List.{List}
use mathlib.Core.Logic.{◌⊎◌, ◌≢◌, ⊎_elim}
use mathlib.Core.Option.{Option, none, some}
use native.Mathlib.Omega.{arith}
use borrow.Author.Tests.{ne_eqb}
use Rattle.model.specs.declared.Mode.{Mode}
use Rattle.model.specs.declared.Thing.{Thing}
use Rattle.model.specs.declared.Thing.TheVariants.{Movements}
use Rattle.model.specs.declared.Refusal.{Refusal}
use Rattle.model.specs.Refusals.{answer, number, carried}
use Rattle.model.specs.Rows.{Row, Capacities, Counts}
use Rattle.model.specs.Nets.{PNet, pairs, K, row, count}
use Rattle.model.specs.Markings.{Marking}
use Rattle.model.specs.declared.Why.TheVariants.{Lacking}
use Rattle.model.specs.Firing.{stopped, rooms}
use Rattle.model.proofs.First.{first_found, only_if_some}
use Rattle.movement.specs.Runs.{run}
use Rattle.movement.proofs.Runs.{runs}
use Rattle.movement.proofs.Markings.{marking-test}
use Rattle.second_form.specs.Complement.{complement_pair, complement, Corresponds}
use Rattle.second_form.proofs.Demand3.{demand3 as three}
use Rattle.second_form.specs.DemandThree.{Agreement, crowded, crowded_by, lowest_crowded, becomes}
use Rattle.sheets.specs.Whole.{whole_net, whole_movements}
use Rattle.sheets.specs.Decoded.{net_of}
use Rattle.fire.proofs.Promises.{marking-stays}
use Rattle.run.specs.declared.Ran.{Ran}
use Rattle.run.specs.Calls.{run_of}
use Rattle.run.specs.Allowed.{RunAllows}
use Rattle.run.proofs.Promises.{runs_leave_lem, runs_keep_lem}
use Rattle.sentences.specs.Wrote.{ComplementWrote}
use Rattle.sentences.specs.Demand3.{Becomes, Agreeing, RunsAgree, RunAlike, InComplement, Demand3}
use Rattle.sentences.proofs.Outcomes.{accepted-none, begins-none}
use Rattle.sentences.proofs.TwoRuns.{RunsMatch, RunMatch, run-match}
use Rattle.sentences.proofs.Written.{net-whole, can-complement, sheet-whole, sheet-same, sheet-version}
use Rattle.sentences.proofs.DemandThree.{rule-stays}

-- a refusal of 12 or 13 becomes one of 11, if it becomes one at all
found-11 : (thing : Thing) (n : ℕ) (k room : Capacities) (r : Row) (M : Counts) (o : Option Refusal) → lowest_crowded thing n k room r M ≡ o → o ≢ none → number (answer o) ≡ 11
found-11 thing n k room r M none e h = absurd (h refl)
found-11 thing n k room r M (some x) e h =
    let f = first_found n _ x e in
    let p = f.0 in
    let named = stopped thing Lacking (complement_pair n k p) (crowded_by (r p) (room p) (M p)) in
    let is : named ≡ x = (only_if_some (crowded (r p) (room p) (M p)) named f.3).1 in
    ap (λ y. number (answer (some y))) (sym is)

module _ (net : PNet) (t : Mode) (m : List ℕ) (r r' : Option Refusal) (e : r' ≡ becomes Movements net t m r) where
  abbrev n : ℕ
  n = number (answer r)

  stays : n ≢ 12 → n ≢ 13 → carried (answer r') ≡ carried (answer r)
  unfolding becomes
  stays a b = let same : r' ≡ r = e ∙ rw (ne_eqb n 12 a, ne_eqb n 13 b) in ap (λ o. carried (answer o)) same

  turns : (n ≡ 12) ⊎ (n ≡ 13) → r' ≢ none → number (answer r') ≡ 11
  unfolding becomes
  turns h h' =
      let crowd : r' ≡ lowest_crowded Movements (pairs net) (K net) (rooms net (row net t)) (row net t) (count m) =
      ⊎_elim (λ a. e ∙ rw a) (λ b. e ∙ rw b) h in
      found-11 Movements (pairs net) (K net) (rooms net (row net t)) (row net t) (count m) r' (sym crowd) h'

  pub becomes-so : (r' ≡ none → r ≡ none) → Becomes (carried (answer r)) (carried (answer r'))
  becomes-so back =
      record {
        stays = stays;
        becomes = λ h. turns h (λ z. let y : n ≡ 0 = ap (λ o. number (answer o)) (back z) in ⊎_elim (λ a. absurd (omega arith)) (λ a. absurd (omega arith)) h);
      }

-- two runs that accept the same movements are refused alike
module _ (net other : PNet) (ts : List Mode) (m m' : List ℕ) (same : (run other ts m').accepted ≡ (run net ts m).accepted) where
  pub whole-alike : (run other ts m').refusal ≡ none → (run net ts m).refusal ≡ none
  whole-alike e = (runs net ts m).whole.1 (sym same ∙ (runs other ts m').whole.0 e)

agreeing : (net : PNet) (ts : List Mode) → Agreement net ts → Agreeing net (complement net) ts
agreeing net ts a =
    record {
      accepted = a.accepted;
      stop = becomes-so net _ _ _ _ a.refusal (whole-alike net (complement net) ts net.start (complement net).start a.accepted);
      agree = a.agree;
    }

-- the run call, and what the two calls tell and leave
module _ (net sheet : List ℕ) (w : whole_net net ≡ none) (match : RunMatch net sheet) where
  module _ (movements m m' : List ℕ) (k : Marking (net_of net) m) (c : Corresponds (net_of net) m m') where
    abbrev matched : RunsMatch net sheet movements m m'
    matched = match.onwards movements m m' ((marking-test (net_of net) m).1 k) c

    both-whole : whole_movements movements ≡ none → (run_of sheet movements m').refusal ≡ none → (run_of net movements m).refusal ≡ none
    both-whole l e =
        (runs_leave_lem net movements m).whole.1
        (begins-none net movements m (record { sheet = w; list = l; marked = k }), sym matched.accepted ∙ ((runs_leave_lem sheet movements m').whole.0 e).1)

    refused-alike : (o : Option Refusal) → whole_movements movements ≡ o → o ≢ none → (run_of sheet movements m').refusal ≡ (run_of net movements m).refusal
    refused-alike none e h = absurd (h refl)
    refused-alike (some x) e h = let both = matched.sheet_refused x e in both.1 ∙ sym both.0

    runs-agree : (r r' : Ran) (left left' : List ℕ) → RunAllows net movements m (r, left) → RunAllows sheet movements m' (r', left') → RunsAgree net movements r r' left left'
    runs-agree r r' left left' h h' =
        let told = ap (λ r. r.answer) h.0 in
        let told' = ap (λ r. r.answer) h'.0 in
        record {
          accepted = ap (λ r. r.accepted) h'.0 ∙ matched.accepted ∙ sym (ap (λ r. r.accepted) h.0);
          stop = λ l. rw (told, told') (becomes-so (net_of net) _ _ _ _ (matched.refusal l) (both-whole l));
          no_list = λ l. told' ∙ ap answer (refused-alike (whole_movements movements) refl l) ∙ sym told;
          marking = rw h.1 ((marking-test (net_of net) _).0 (runs_keep_lem net movements m ((marking-test (net_of net) m).1 k)));
          agree = rw (h.1, h'.1) matched.at_end;
        }

  pub alike-outcomes : RunAlike net sheet
  alike-outcomes =
      record {
        begin = λ m m' left left' a a' h z h' z'.
            let e = accepted-none h.0 z in
            rw (h.1, h'.1) ((marking-test (net_of net) _).0 (marking-stays.begins net m e), match.at_start m m' e (accepted-none h'.0 z'));
        run = runs-agree;
      }

pub run-alike : (net sheet : List ℕ) → ComplementWrote net sheet → RunAlike net sheet
run-alike net sheet w = alike-outcomes net sheet (net-whole net sheet w) (run-match net sheet w)

pub in_complement_lem : (net sheet : List ℕ) → ComplementWrote net sheet → InComplement net sheet
in_complement_lem net sheet w =
    let agreed = three (net_of net) (can-complement net sheet w) in
    record {
      reads_back = sheet-whole net sheet w;
      same = sheet-same net sheet w;
      version = sheet-version net sheet w;
      rule = ap (λ n. n.rule) (sheet-same net sheet w) ∙ rule-stays (net_of net);
      along = λ ts. rw (sheet-same net sheet w) (agreeing (net_of net) ts (agreed.runs ts));
      calls = run-alike net sheet w;
    }

pub demand3 : Demand3
demand3 = record { complement = in_complement_lem }
