-- One movement of a net and of its complement at corresponding markings: the refusals correspond, and so do the markings after.
use Prim.Native.Nat.{ℕ, ◌+◌, ◌≤◌, ◌<◌}
use mathlib.Core.Path.{◌≡◌, sym, ◌∙◌, ap}
use mathlib.Core.List.{List}
use mathlib.Core.Logic.{⊎_elim}
use mathlib.Core.Option.{none}
use native.Mathlib.Omega.{arith}
use Rattle.model.specs.declared.Mode.{Mode}
use Rattle.model.specs.declared.Thing.{Thing}
use Rattle.model.specs.declared.Why.{Why}
use Rattle.model.specs.declared.Why.TheVariants.{Lacking, OverCapacity, Inhibited, OverLimit}
use Rattle.model.specs.Numbers.{fin, ∞, limit}
use Rattle.model.specs.Rows.{Entry, Row, Capacities, Counts}
use Rattle.model.specs.Nets.{PNet, pairs, modes, K, count, row}
use Rattle.model.specs.WellFormed.{WellFormed}
use Rattle.model.specs.Firing.{after, rooms, lowest_stop, rule_refusal, row_refusal, mode_refusal, fired}
use Rattle.second_form.specs.Dead.{is_dead}
use Rattle.second_form.specs.Complement.{complement_pair, complement_row, all_pairs, complement, refusal15, Corresponds}
use Rattle.second_form.specs.DemandThree.{becomes}
use Rattle.model.proofs.First.{below_or, first_ext}
use Rattle.model.proofs.Firing.{passes_conditions, there, missing, accepted-there, accepted-passes, accepted-enough}
use Rattle.movement.proofs.Markings.{fired-at, fired-length}
use Rattle.second_form.proofs.Bounded.{bounded-number}
use Rattle.second_form.proofs.ComplementRow.{sum_kept, row-original, row-complement}
use Rattle.second_form.proofs.ComplementStep.{answer_in_complement, row_step}
use Rattle.second_form.proofs.ComplementNet.{modes-complement, pairs-complement, room-complement, rows-complement, uninhibited, corresponds-within}
use Rattle.second_form.proofs.RefusalsCorrespond.{row-becomes, none-becomes}
use Rattle.second_form.proofs.Possible.{enabled-live}

-- a row's refusal depends on what stands at its pairs alone
pub row_ext : (thing : Thing) (n : ℕ) (K K' : Capacities) (r r' : Row) (M : Counts)
    → ((p : ℕ) → p < n → K p ≡ K' p) → ((p : ℕ) → p < n → r p ≡ r' p) → row_refusal thing n K r M ≡ row_refusal thing n K' r' M
unfolding row_refusal rule_refusal
row_ext thing n K K' r r' M f g = rw (stop_ext Lacking, stop_ext OverCapacity, stop_ext Inhibited, stop_ext OverLimit)
  where
    stop_ext : (why : Why) → lowest_stop thing n K r M why ≡ lowest_stop thing n K' r' M why
    stop_ext why = first_ext n _ _ (λ p h. rw (f p h, g p h))

-- of a net that 15 was not given to
module _ (net : PNet) (wf : WellFormed net) (offset : ℕ → ℕ) (no15 : refusal15 offset net ≡ none) where
  capacity-limit : (p k : ℕ) → p < pairs net → K net p ≡ fin k → k ≤ limit
  capacity-limit p k h e = rw e at (wf.capacity_in_range p h)

  module _ (thing : Thing) (t : Mode) (m m' : List ℕ) (c : Corresponds net m m') where
    pub step-there : t.0 < modes net
        → mode_refusal thing (complement net) t m' ≡ answer_in_complement thing (pairs net) (K net) (rooms net (row net t)) (row net t) (count m)
    step-there h =
        there thing (complement net) t m' (rw modes-complement h)
        ∙ rw pairs-complement
        (row_ext thing (all_pairs net) (rooms (complement net) (row (complement net) t)) (λ p. ∞) (row (complement net) t) (complement_row net.rule (is_dead net t) (pairs net) (K net) (row net t))
        (count m') (λ p l. room-complement net p (row (complement net) t p).pre) (λ p l. rows-complement net t p h l))
        ∙ row_step thing net.rule (is_dead net t) (pairs net) (K net) (row net t) (count m) (count m') c.equal c.add_up (λ p l. uninhibited net offset no15 t p)
        capacity-limit

    pub step : mode_refusal thing (complement net) t m' ≡ becomes thing net t m (mode_refusal thing net t m)
    unfolding becomes
    step =
        ⊎_elim
        (λ (h : t.0 < modes net).
        step-there h
        ∙ sym (ap (becomes thing net t m) (there thing net t m h) ∙ row-becomes thing (pairs net) (K net) (rooms net (row net t)) (row net t) (count m)))
        (λ (h : modes net ≤ t.0).
        missing thing (complement net) t m' (rw modes-complement h) ∙ sym (ap (becomes thing net t m) (missing thing net t m h)))
        (below_or t.0 (modes net))

    -- what the complement accepts, the net accepts
    pub accepts-back : mode_refusal thing (complement net) t m' ≡ none → mode_refusal thing net t m ≡ none
    accepts-back e =
        let h : t.0 < modes net = rw modes-complement at (accepted-there thing (complement net) t m' e) in
        there thing net t m h ∙ none-becomes thing (pairs net) (K net) (rooms net (row net t)) (row net t) (count m) (sym (step-there h) ∙ e)

    module _ (e : mode_refusal thing net t m ≡ none) where
      pub accepts : mode_refusal thing (complement net) t m' ≡ none
      unfolding becomes
      accepts = step ∙ ap (becomes thing net t m) e

      inside : {p : ℕ} → p < all_pairs net → p < pairs (complement net)
      inside h = rw pairs-complement h

      reads : {p : ℕ} {x : Entry} → p < all_pairs net → complement_row net.rule (is_dead net t) (pairs net) (K net) (row net t) p ≡ x → row (complement net) t p ≡ x
      reads {p} h f = rows-complement net t p (accepted-there thing net t m e) h ∙ f

      count-after : (p : ℕ) {x : Entry} → p < all_pairs net → complement_row net.rule (is_dead net t) (pairs net) (K net) (row net t) p ≡ x
          → count (fired (complement net) t m') p ≡ after x (count m' p)
      count-after p h f = rw (reads h f) at (fired-at (complement net) t m' p (inside h))

      moves-equal : (p : ℕ) → p < pairs net → count (fired (complement net) t m') p ≡ count (fired net t m) p
      moves-equal p h =
          count-after p (omega arith) (row-original net.rule (is_dead net t) (pairs net) (K net) (row net t) p h)
          ∙ rw (c.equal p h) (sym (fired-at net t m p h))

      moves-add_up : (p k : ℕ) → p < pairs net → K net p ≡ fin k
          → count (fired net t m) p + count (fired (complement net) t m') (complement_pair (pairs net) (K net) p) ≡ k
      moves-add_up p k h f =
          let q = complement_pair (pairs net) (K net) p in
          let l : q < all_pairs net = omega (arith, bounded-number (K net) (pairs net) p k h f) in
          let g = row-complement net.rule (is_dead net t) (pairs net) (K net) (row net t) p k h f in
          rw (fired-at net t m p h, count-after q l g, enabled-live net t (count m) (λ _. corresponds-within net m m' c) (passes_conditions (accepted-passes thing net t m e)))
          (sum_kept net.rule k (count m p) (count m' q) (row net t p) (c.add_up p k h f) (accepted-enough thing net t m e p h)
          (rw (reads l g) at (accepted-enough thing (complement net) t m' accepts q (inside l))))

      pub move_corresponds : Corresponds net (fired net t m) (fired (complement net) t m')
      move_corresponds =
          record {
            one_each = fired-length net t m;
            one_each' = fired-length (complement net) t m';
            equal = moves-equal;
            add_up = λ p k h. moves-add_up p k (omega arith);
          }
