-- Old modes have the rows that they had, and so all that follows from a row.
use Prim.Native.Nat.{ℕ, zero, suc, ◌+◌, ◌≤◌, ◌<◌}
use mathlib.Core.Path.{◌≡◌, refl, sym, ◌∙◌, ap, ap₂, fun_ext}
use mathlib.Core.Bool.{Bool, true, false, cond}
use mathlib.Core.List.{List, [], ◌∷◌, ◌++◌, map}
use mathlib.Core.Option
use mathlib.Core.Option.{none}
use lib.Dec.{eqb}
use lib.IntN.{ℤ, pos, ◌-ℤ◌, ◌*ℤ◌}
use lib.ListN.{length, take, get_or}
use native.Mathlib.Omega.{arith}
use borrow.Author.Tests.{eqb-true, ne_eqb, lt-ltb}
use Rattle.model.specs.declared.CapacityRule.{CapacityRule}
use Rattle.model.specs.declared.CapacityRule.TheVariants.{Strong, Weak}
use Rattle.model.specs.declared.Pair.{Pair}
use Rattle.model.specs.declared.Mode.{Mode}
use Rattle.model.specs.declared.Thing.{Thing}
use Rattle.model.specs.declared.Thing.TheVariants.{Movements, Argument}
use Rattle.model.specs.First.{◌▸◌, first, lowest}
use Rattle.model.specs.Numbers.{ℕ∞, fin, ∞, ◌≤∞◌}
use Rattle.model.specs.Rows.{no_arc}
use Rattle.model.specs.Nets.{NetArc, PNet, total, pairs, modes, mode_no, pair_no, K, count, row}
use Rattle.model.specs.Markings.{unequal, marking_refusal}
use Rattle.model.specs.WellFormed.{WellFormed}
use Rattle.model.specs.Firing.{row_refusal, rooms, mode_refusal, fired_row, fired}
use Rattle.movement.specs.Runs.{run_from, run, elsewhere, ends_at, certificate_refusal}
use Rattle.both_forms.specs.Steps.{beside, together, step_outside, step_refusal, fired_together}
use Rattle.both_forms.specs.Visits.{arcs_among, arcs_of_mode, visited}
use Rattle.movement.specs.Figures.{sum, weight, figure, change}
use Rattle.second_form.specs.Dead.{pre_room, highest_pre, kills, dead_pair, first_dead}
use Rattle.model.proofs.First.{then-none, first_ext, first-all, first-split}
use Rattle.model.proofs.Numbers.{false_above, below-least}
use Rattle.movement.proofs.Each.{Each}
use Rattle.model.proofs.Firing.{mode-there, there}
use Rattle.bare.specs.Strip.{strip_entry, new_mode, strip}
use Rattle.bare.specs.Promises.{Old, OldModes, NoNewDead}
use Rattle.bare.proofs.Arcs.{new_arcs, each-new, same-pairs, modes-many, old_row, new_row}

-- arcs of other modes do not count
arcs-none : (ys : List NetArc) (t : Mode) → Each (λ a. ¬ (a.mode.0 ≡ t.0)) ys → arcs_among ys t ≡ 0
unfolding arcs_among
arcs-none [] t h = refl
arcs-none (a ∷ ys) t h = rw (ne_eqb a.mode.0 t.0 h.0) (omega (arith, arcs-none ys t h.1))

arcs-before : (xs ys : List NetArc) (t : Mode) → Each (λ a. ¬ (a.mode.0 ≡ t.0)) ys → arcs_among (xs ++ ys) t ≡ arcs_among xs t
unfolding arcs_among
arcs-before [] ys t h = arcs-none ys t h
arcs-before (a ∷ xs) ys t h = ap (λ n. cond (eqb a.mode.0 t.0) 1 0 + n) (arcs-before xs ys t h)

-- "Where no arc is written" nothing makes a mode dead
zero_below : (b : ℕ∞) → 0 ≤∞ b
zero_below (fin k) = omega arith
zero_below ∞ = tt

no_arc-lives : (rule : CapacityRule) (b : ℕ∞) → kills rule no_arc b ≡ false
no_arc-lives rule b = rw (false_above 0 (highest_pre rule no_arc b) (zero_below (highest_pre rule no_arc b)), false_above 0 b (zero_below b))

-- Pre n and I n within K
strip-lives : (rule : CapacityRule) (n k : ℕ) → n ≤ k → kills rule (strip_entry n) (fin k) ≡ false
strip-lives rule n k h =
    rw (false_above n (highest_pre rule (strip_entry n) (fin k)) ((below-least n (pre_room rule (strip_entry n) (fin k)) _).1 (within rule, omega arith)), false_above 0 (fin k) (omega arith))
  where
    within : (rule : CapacityRule) → n ≤∞ pre_room rule (strip_entry n) (fin k)
    within Strong = omega arith
    within Weak = h

-- what each old mode keeps, the first of a list of them keep
pub each_old : {A : Type 0} (net : PNet) (f g : Mode → A) → ((t : Mode) → t.0 < modes net → f t ≡ g t)
    → (n : ℕ) (ts : List Mode) → Old net ts → map f (take n ts) ≡ map g (take n ts)
each_old net f g same zero ts old = refl
each_old net f g same (suc n) [] old = refl
each_old net f g same (suc n) (t ∷ ts) old = rw (same t (old 0 (omega arith)), each_old net f g same n ts (λ i l. old (suc i) (omega arith)))

module _ (net : PNet) (p : Pair) (k : ℕ) where
  there_still : (t : Mode) → t.0 < modes net → t.0 < modes (strip net p k)
  there_still t h = omega (arith, modes-many net p k)

  old_refusal : (about : Thing) (t : Mode) (m : List ℕ) → t.0 < modes net → mode_refusal about (strip net p k) t m ≡ mode_refusal about net t m
  unfolding strip
  old_refusal about t m h =
      there about (strip net p k) t m (there_still t h)
      ∙ ap (λ r. row_refusal about (pairs net) (rooms net r) r (count m)) (old_row net p k t h)
      ∙ sym (there about net t m h)

  old_fired : (t : Mode) (m : List ℕ) → t.0 < modes net → fired (strip net p k) t m ≡ fired net t m
  unfolding strip fired
  old_fired t m h = ap (λ r. fired_row (pairs net) r m) (old_row net p k t h)

  old_run : (n : ℕ) (ts : List Mode) (m : List ℕ) → Old net ts → run_from (strip net p k) n ts m ≡ run_from net n ts m
  unfolding run_from
  old_run n [] m old = refl
  old_run n (t ∷ ts) m old =
      let h = old 0 (omega arith) in
      rw (old_refusal Movements t m h, old_fired t m h, old_run (n + 1) ts (fired net t m) (λ i l. old (suc i) (omega arith)))

  old_certificate : (ts : List Mode) (claim : List ℕ) → Old net ts → certificate_refusal (strip net p k) ts claim ≡ certificate_refusal net ts claim
  unfolding certificate_refusal ends_at strip
  old_certificate ts claim old =
      ap (λ o. unequal net claim ▸ o.refusal ▸ first (pairs net) (elsewhere o.marking claim)) (old_run 0 ts net.start old)

  -- several at once
  old_together : (ts : List Mode) → Old net ts → together (strip net p k) ts ≡ together net ts
  unfolding together
  old_together [] old = refl
  old_together (t ∷ ts) old =
      fun_ext (λ q. ap₂ beside (ap (λ r. r q) (old_row net p k t (old 0 (omega arith)))) (ap (λ r. r q) (old_together ts (λ i l. old (suc i) (omega arith)))))

  old_step : (ts : List Mode) (m : List ℕ) → Old net ts → step_refusal (strip net p k) ts m ≡ step_refusal net ts m
  unfolding step_refusal strip
  old_step ts m old =
      ap₂ (λ missing sums. step_outside ts ▸ missing ▸ sums)
      (first_ext (length ts) _ _
      (λ i l.
      mode-there Argument (modes (strip net p k)) (get_or ts i (mode_no 0)) (there_still (get_or ts i (mode_no 0)) (old i l))
      ∙ sym (mode-there Argument (modes net) (get_or ts i (mode_no 0)) (old i l))))
      (ap (λ r. row_refusal Argument (pairs net) (rooms net r) r (count m)) (old_together ts old))

  old_after-step : (ts : List Mode) (m : List ℕ) → Old net ts → fired_together (strip net p k) ts m ≡ fired_together net ts m
  unfolding fired_together strip
  old_after-step ts m old = ap (λ r. fired_row (pairs net) r m) (old_together ts old)

  -- the arcs that a run visits
  old_among : (t : Mode) → t.0 < modes net → arcs_among (strip net p k).arcs t ≡ arcs_among net.arcs t
  unfolding strip
  old_among t h = arcs-before net.arcs (new_arcs net p (k + 1)) t (each-new net p (λ a. ¬ (a.mode.0 ≡ t.0)) (k + 1) (λ i l e. omega arith))

  old_arcs : (t : Mode) → t.0 < modes net → arcs_of_mode (strip net p k) t ≡ arcs_of_mode net t
  unfolding arcs_of_mode
  old_arcs t h = rw (lt-ltb t.0 (modes (strip net p k)) (there_still t h), lt-ltb t.0 (modes net) h) (old_among t h)

  old_visits : (ts : List Mode) (m : List ℕ) → Old net ts → visited (strip net p k) ts m ≡ visited net ts m
  unfolding visited
  old_visits ts m old =
      ap (λ o. total (map (arcs_of_mode (strip net p k)) (take (suc o.accepted) ts))) (old_run 0 ts m old)
      ∙ ap total (each_old net (arcs_of_mode (strip net p k)) (arcs_of_mode net) old_arcs (suc (run net ts m).accepted) ts old)

  -- weight changes and deadness
  old_change : (weights : List ℤ) (t : Mode) → t.0 < modes net → change (strip net p k) weights t ≡ change net weights t
  unfolding change strip
  old_change weights t h = ap (λ r. sum (pairs net) (λ q. weight weights q *ℤ (pos (r q).post -ℤ pos (r q).pre))) (old_row net p k t h)

  old_dead : (t : Mode) → t.0 < modes net → dead_pair (strip net p k) t ≡ dead_pair net t
  unfolding dead_pair strip
  old_dead t h = ap (λ r. lowest (pairs net) (λ q. kills net.rule (r q) (K net q)) (λ q. q)) (old_row net p k t h)

  same-markings : (m : List ℕ) → marking_refusal (strip net p k) m ≡ marking_refusal net m
  unfolding marking_refusal strip
  same-markings m = refl

  same-figures : (weights : List ℤ) (m : List ℕ) → figure (strip net p k) weights m ≡ figure net weights m
  unfolding figure strip
  same-figures weights m = refl

  same_start_lem : (strip net p k).start ≡ net.start
  unfolding strip
  same_start_lem = refl

  -- at its pair and elsewhere no new mode is killed
  module _ (well : WellFormed net) (bounded : K net p.0 ≡ fin k) where
    new-lives : (n q : ℕ) → n ≤ k → kills net.rule (row (strip net p k) (new_mode net n) q) (K net q) ≡ false
    new-lives n q h = rw (new_row net p k well n q h) (go (eqb p.0 q) refl)
      where
        go : (b : Bool) → eqb p.0 q ≡ b → kills net.rule (cond b (strip_entry n) no_arc) (K net q) ≡ false
        go true e = rw (← eqb-true p.0 q e, bounded) (strip-lives net.rule n k h)
        go false e = no_arc-lives net.rule (K net q)

    new-dead : (n : ℕ) → n ≤ k → dead_pair (strip net p k) (new_mode net n) ≡ none
    unfolding dead_pair strip
    new-dead n h = first-all (pairs net) _ (λ q l. rw (new-lives n q h) refl)

    pub first-dead-same : first_dead (strip net p k) ≡ first_dead net
    unfolding first_dead
    first-dead-same =
        rw (modes-many net p k) (first-split (modes net) (k + 1) _)
        ∙ ap₂ ◌▸◌
        (first_ext (modes net) _ _ (λ t l. ap (Option.map (λ q. record { mode = mode_no t; pair = pair_no q })) (old_dead (mode_no t) l)))
        (first-all (k + 1) _ (λ n l. ap (Option.map (λ q. record { mode = new_mode net n; pair = pair_no q })) (new-dead n (omega arith))))
        ∙ then-none _

pub old_modes_lem : OldModes
old_modes_lem net p k =
    record {
      rows = old_row net p k;
      refusals = old_refusal net p k;
      afterwards = old_fired net p k;
      runs = old_run net p k 0;
      steps = old_step net p k;
      after_steps = old_after-step net p k;
      certificates = old_certificate net p k;
      visits = old_visits net p k;
      changes = old_change net p k;
      dead = old_dead net p k;
      pairs = same-pairs net p k;
      markings = same-markings net p k;
      figures = same-figures net p k;
      start = same_start_lem net p k;
    }

pub no_new-dead : NoNewDead
no_new-dead net p k well bounded = first-dead-same net p k well bounded
