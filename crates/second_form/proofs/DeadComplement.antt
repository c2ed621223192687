-- The complement of a net with locally dead modes: its numbers are in range, and what is dead in the net is refused there.
use Prim.Native.Nat.{ℕ, suc, ◌<◌}
use mathlib.Core.Path.{◌≡◌, refl, sym, ◌∙◌, ap}
use mathlib.Core.Bool.{Bool, true, true≢false}
use mathlib.Core.List.{List}
use mathlib.Core.Logic.{◌⊎◌, inl, inr, ⊎_elim}
use mathlib.Core.Option.{Option, none, some}
use native.Mathlib.Omega.{arith}
use Rattle.model.specs.declared.CapacityRule.{CapacityRule}
use Rattle.model.specs.declared.CapacityRule.TheVariants.{Strong, Weak}
use Rattle.model.specs.declared.Mode.{Mode}
use Rattle.model.specs.declared.Thing.{Thing}
use Rattle.model.specs.declared.Why.TheVariants.{Lacking, OverCapacity, Inhibited, OverLimit}
use Rattle.model.specs.declared.Fault.{Fault}
use Rattle.model.specs.declared.Fault.TheVariants.{CutShort, WrongVersion, WrongLength, CountOutside, NumberOutside, MarkingOutside, NotThereAt, NotThere, NotRising, Blank, StartAboveCapacity, MarkingAboveCapacity, NoRoom, Stopped, InhibitedUnbounded, NotOneEach, EndsElsewhere, NotUnbounded, NotAnExport, Unbalanced, EqualFigures, RuleLost, FigurePast, RecordOutside}
use Rattle.model.specs.declared.Refusal.{Refusal}
use Rattle.model.specs.Refusals.{Answer}
use Rattle.std.specs.Prelude.{Ok, Err}
use Rattle.model.specs.First.{◌▸◌, lowest}
use Rattle.model.specs.Refusals.{line, number, answer}
use Rattle.model.specs.Numbers.{ℕ∞, ∞, Above, least_of}
use Rattle.model.specs.Rows.{Entry, Row, Capacities, Counts}
use Rattle.model.specs.Nets.{PNet, pairs, modes, mode_no, K, count, row}
use Rattle.model.specs.Firing.{stops, stopped_by, stopped, lowest_stop, rooms, mode_refusal}
use Rattle.second_form.specs.Dead.{pre_room, Kills, is_dead, first_dead}
use Rattle.second_form.specs.Complement.{complement_pair, complement, refusal15, complement_refusal, Corresponds}
use Rattle.second_form.specs.DemandThree.{Complementable, crowded, crowded_by, lowest_crowded}
use Rattle.second_form.specs.DeadComplement.{Never16, DeadInComplement}
use Rattle.model.proofs.First.{left-none, none_then, first_found, only_if_some}
use Rattle.model.proofs.Firing.{Conditions, row_conditions}
use Rattle.second_form.proofs.Dead.{dead-modes, none-dead}
use Rattle.second_form.proofs.Possible.{enabled-live}
use Rattle.second_form.proofs.ComplementStep.{answer_in_complement}
use Rattle.second_form.proofs.RefusalsCorrespond.{uncrowded}
use Rattle.second_form.proofs.ComplementNet.{modes-complement, pairs-complement, capacity-complement, rows-complement, corresponds-within}
use Rattle.second_form.proofs.ComplementRow.{row-uninhibited}
use Rattle.second_form.proofs.ComplementWellFormed.{numbers_in_range}
use Rattle.second_form.proofs.CorrespondingMoves.{step-there}

not_16 : (fault : Fault) → ¬ ((line fault).number ≡ 16)
not_16 CutShort e = omega arith
not_16 (WrongVersion at) e = omega arith
not_16 (WrongLength at) e = omega arith
not_16 (CountOutside at) e = omega arith
not_16 (NumberOutside at) e = omega arith
not_16 (MarkingOutside p) e = omega arith
not_16 (NotThereAt at) e = omega arith
not_16 NotThere e = omega arith
not_16 (NotRising at) e = omega arith
not_16 (Blank at) e = omega arith
not_16 (StartAboveCapacity at) e = omega arith
not_16 (MarkingAboveCapacity p) e = omega arith
not_16 NoRoom e = omega arith
not_16 (Stopped Lacking p by) e = omega arith
not_16 (Stopped OverCapacity p by) e = omega arith
not_16 (Stopped Inhibited p by) e = omega arith
not_16 (Stopped OverLimit p by) e = omega arith
not_16 (InhibitedUnbounded at) e = omega arith
not_16 (NotOneEach at) e = omega arith
not_16 (EndsElsewhere p) e = omega arith
not_16 (NotUnbounded at) e = omega arith
not_16 (NotAnExport at) e = omega arith
not_16 (Unbalanced t) e = omega arith
not_16 EqualFigures e = omega arith
not_16 RuleLost e = omega arith
not_16 FigurePast e = omega arith
not_16 RecordOutside e = omega arith

reserved : (a : Answer) → ¬ (number a ≡ 16)
reserved (Ok tt) e = omega arith
reserved (Err r) e = not_16 r.fault e

pub never16 : Never16
never16 = record { numbers = numbers_in_range; reserved = reserved }

-- a search whose every name is 11
by_11 : (n : ℕ) (test : ℕ → Bool) (name : ℕ → Refusal) → ((i : ℕ) → number (answer (some (name i))) ≡ 11)
    → (lowest n test name ≡ none) ⊎ (number (answer (lowest n test name)) ≡ 11)
by_11 n test name is = go (lowest n test name) refl
  where
    go : (o : Option Refusal) → lowest n test name ≡ o → (lowest n test name ≡ none) ⊎ (number (answer (lowest n test name)) ≡ 11)
    go none e = inl e
    go (some x) e =
        let r = first_found n _ x e in
        let named = only_if_some (test r.0) (name r.0) r.3 in
        inr (ap (λ o. number (answer o)) e ∙ ap (λ x. number (answer (some x))) (sym named.1) ∙ is r.0)

-- the first of two, by a number
first_by : (a b : Option Refusal) (n : ℕ) → number (answer a) ≡ suc n → number (answer (a ▸ b)) ≡ suc n
unfolding ◌▸◌
first_by none b n e = absurd (omega arith)
first_by (some r) b n e = e

module _ (about : Thing) (n : ℕ) (c k : Capacities) (r : Row) (M : Counts) where
  -- what is not enabled in the net lacks something in the complement
  lacks : ¬ Conditions n k r M → number (answer (answer_in_complement about n c k r M)) ≡ 11
  lacks never =
      ⊎_elim
      (λ l.
      ap (λ o. number (answer o)) (none_then l refl)
      ∙ ⊎_elim (λ no. absurd (never ((row_conditions about n k r M).0 (uncrowded about n c k r M l no)))) (first_by (lowest_crowded about n c k r M) _ 10)
      (by_11 n (λ p. crowded (r p) (k p) (M p)) (λ p. stopped about Lacking (complement_pair n c p) (crowded_by (r p) (k p) (M p))) (λ p. refl)))
      (first_by (lowest_stop about n k r M Lacking) _ 10)
      (by_11 n (λ p. stops Lacking (r p) (k p) (M p)) (λ p. stopped about Lacking p (stopped_by Lacking (r p) (k p) (M p))) (λ p. refl))

refused : (net : PNet) → Complementable net → (t : Mode) → t.0 < modes net → is_dead net t ≡ true
    → (about : Thing) (m m' : List ℕ) → Corresponds net m m' → number (answer (mode_refusal about (complement net) t m')) ≡ 11
unfolding complement_refusal
refused net able t h dead about m m' c =
    let no15 = left-none (refusal15 able.offset net) _ able.accepted in
    ap (λ o. number (answer o)) (step-there net able.well_formed able.offset no15 about t m m' c h)
    ∙ lacks about (pairs net) (K net) (rooms net (row net t)) (row net t) (count m)
    (λ e. true≢false (sym dead ∙ enabled-live net t (count m) (λ _. corresponds-within net m m' c) e))

-- where K and I are unbounded nothing is above them
unbounded-lives : (rule : CapacityRule) (e : Entry) (k : ℕ∞) → k ≡ ∞ → e.inhibitor ≡ ∞ → ¬ Kills rule e k
unbounded-lives rule e k u i d = ⊎_elim (go rule k e.inhibitor u i) (λ (a : Above e.post k). rw u at a) d
  where
    go : (rule : CapacityRule) (k i : ℕ∞) → k ≡ ∞ → i ≡ ∞ → ¬ Above e.pre (least_of (pre_room rule e k) i)
    go Strong k i u f a = rw (u, f) at a
    go Weak k i u f a = rw (u, f) at a

nowhere : (net : PNet) → first_dead (complement net) ≡ none
nowhere net =
    (none-dead (complement net)).1
    (λ t h dead.
    let r = (dead-modes (complement net) (mode_no t)).0 dead in
    let p = r.0 in
    unbounded-lives (complement net).rule (row (complement net) (mode_no t) p) (K (complement net) p) (capacity-complement net p)
    (ap (λ e. e.inhibitor) (rows-complement net (mode_no t) p (rw modes-complement at h) (rw pairs-complement at r.1))
    ∙ row-uninhibited net.rule (is_dead net (mode_no t)) (pairs net) (K net) (row net (mode_no t)) p)
    r.2)

pub dead_in_complement_lem : DeadInComplement
dead_in_complement_lem = record { nowhere = nowhere; refused = refused }
