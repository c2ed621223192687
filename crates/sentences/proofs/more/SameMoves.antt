-- Two nets of unbounded K that have the same pairs, modes, first marking and arcs move alike, whatever their places and their rules.
use Prim.Native.Nat.{ℕ, suc, ◌+◌, ◌<◌}
use mathlib.Core.Path.{◌≡◌, refl, sym, ◌∙◌, ap, ap₂}
use mathlib.Core.Bool.{not}
use mathlib.Core.List.{List, [], ◌∷◌, map}
use mathlib.Core.Option
use mathlib.Core.Option.{Option}
use lib.Dec.{eqb}
use lib.IntN.{ℤ}
use lib.ListN.{length, take}
use Rattle.model.specs.declared.CapacityRule.{CapacityRule}
use Rattle.model.specs.declared.CapacityRule.TheVariants.{Strong, Weak}
use Rattle.model.specs.declared.Mode.{Mode}
use Rattle.model.specs.declared.Thing.{Thing}
use Rattle.model.specs.declared.Thing.TheVariants.{Net, Movements, Argument}
use Rattle.model.specs.declared.Fault.TheVariants.{NotOneEach, EqualFigures}
use Rattle.model.specs.declared.Refusal.{Refusal}
use Rattle.model.specs.First.{◌▸◌, first, only_if, lowest}
use Rattle.model.specs.Refusals.{wrong}
use Rattle.model.specs.Numbers.{∞}
use Rattle.model.specs.Rows.{Row, Counts}
use Rattle.model.specs.Nets.{PNet, total, pairs, modes, pair_no, mode_no, K, count, entry_at, row}
use Rattle.model.specs.Markings.{unequal, count_at_refusal, marking_refusal}
use Rattle.model.specs.Firing.{rooms, row_refusal, mode_refusal, fired}
use Rattle.movement.specs.Runs.{Outcome, run_from, run, elsewhere, ends_at, certificate_refusal}
use Rattle.both_forms.specs.Steps.{beside, together, step_refusal, fired_together}
use Rattle.both_forms.specs.Visits.{arcs_of_mode, visited}
use Rattle.movement.specs.Figures.{figure, change}
use Rattle.movement.specs.Exclusion.{equal, unbalanced_at, same_figure, claim_refusal}
use Rattle.second_form.specs.Dead.{kills, dead_pair, first_dead}
use Rattle.model.proofs.First.{first_ext}
use Rattle.movement.proofs.Rooms.{room-unbounded}
use Rattle.second_form.proofs.CorrespondingMoves.{row_ext}

pub record Same (a b : PNet) : Type 0 where
  pub same_pairs : pairs a ≡ pairs b
  pub same_modes : modes a ≡ modes b
  pub same_start : a.start ≡ b.start
  pub same_arcs : a.arcs ≡ b.arcs
  pub unbounded : (p : ℕ) → p < pairs a → K a p ≡ ∞
  pub unbounded_too : (p : ℕ) → p < pairs a → K b p ≡ ∞

module _ (a b : PNet) (same : Same a b) where
  refusal-same : (about : Thing) (r : Row) (M : Counts) → row_refusal about (pairs a) (rooms a r) r M ≡ row_refusal about (pairs b) (rooms b r) r M
  refusal-same about r M =
      row_ext about (pairs a) (rooms a r) (rooms b r) r r M
      (λ p h. rw (same.unbounded p h, same.unbounded_too p h) (room-unbounded a.rule (r p).pre ∙ sym (room-unbounded b.rule (r p).pre))) (λ p h. refl)
      ∙ ap (λ n. row_refusal about n (rooms b r) r M) same.same_pairs

  pub mode-same : (about : Thing) (t : Mode) (m : List ℕ) → mode_refusal about a t m ≡ mode_refusal about b t m
  unfolding mode_refusal
  mode-same about t m = rw (same.same_modes, same.same_arcs, refusal-same about (row b t) (count m))

  pub fired-same : (t : Mode) (m : List ℕ) → fired a t m ≡ fired b t m
  unfolding fired
  fired-same t m = rw (same.same_pairs, same.same_arcs)

  run_from_same : (k : ℕ) (ts : List Mode) (m : List ℕ) → run_from a k ts m ≡ run_from b k ts m
  unfolding run_from
  run_from_same k [] m = refl
  run_from_same k (t ∷ ts) m = rw (mode-same Movements t m, fired-same t m, run_from_same (k + 1) ts (fired b t m))

  pub run-same : (ts : List Mode) (m : List ℕ) → run a ts m ≡ run b ts m
  run-same = run_from_same 0

  arcs-same : (t : Mode) → arcs_of_mode a t ≡ arcs_of_mode b t
  unfolding arcs_of_mode
  arcs-same t = rw (same.same_modes, same.same_arcs)

  pub visited-same : (ts : List Mode) (m : List ℕ) → visited a ts m ≡ visited b ts m
  unfolding visited
  visited-same ts m = ap₂ (λ (f : Mode → ℕ) (o : Outcome). total (map f (take (suc o.accepted) ts))) (λ i t. arcs-same t i) (run-same ts m)

  together-same : (ts : List Mode) (p : ℕ) → together a ts p ≡ together b ts p
  unfolding together
  together-same [] p = refl
  together-same (t ∷ ts) p = ap₂ beside (ap (λ arcs. entry_at arcs t p) same.same_arcs) (together-same ts p)

  rows_same : (ts : List Mode) → together a ts ≡ together b ts
  rows_same ts = λ i p. together-same ts p i

  pub step_same : (ts : List Mode) (m : List ℕ) → step_refusal a ts m ≡ step_refusal b ts m
  unfolding step_refusal
  step_same ts m = rw (same.same_modes, rows_same ts, refusal-same Argument (together b ts) (count m))

  pub stepped_same : (ts : List Mode) (m : List ℕ) → fired_together a ts m ≡ fired_together b ts m
  unfolding fired_together
  stepped_same ts m = rw (rows_same ts, same.same_pairs)

  pub marking-same : (m : List ℕ) → marking_refusal a m ≡ marking_refusal b m
  unfolding marking_refusal
  marking-same m =
      ap (λ o. unequal a m ▸ o) (first_ext (pairs a) (count_at_refusal a m) (count_at_refusal b m) (λ p h. rw (same.unbounded p h, same.unbounded_too p h)))
      ∙ rw same.same_pairs

  pub certificate-same : (ts : List Mode) (claim : List ℕ) → certificate_refusal a ts claim ≡ certificate_refusal b ts claim
  unfolding certificate_refusal ends_at
  certificate-same ts claim =
      ap₂ (λ (n : ℕ) (o : Outcome). only_if (not (eqb (length claim) n)) (wrong Argument (NotOneEach 0)) ▸ o.refusal ▸ first n (elsewhere o.marking claim)) same.same_pairs
      (run-same ts a.start ∙ ap (run b ts) same.same_start)

  pub figure-same : (weights : List ℤ) (m : List ℕ) → figure a weights m ≡ figure b weights m
  unfolding figure
  figure-same weights m = rw same.same_pairs

  pub change-same : (weights : List ℤ) (t : Mode) → change a weights t ≡ change b weights t
  unfolding change
  change-same weights t = rw (same.same_pairs, same.same_arcs)

  figures-same : (weights : List ℤ) (claim : List ℕ) → same_figure a weights claim ≡ same_figure b weights claim
  unfolding same_figure
  figures-same weights claim =
      ap₂ (λ (x y : ℤ). only_if (equal x y) (wrong Net EqualFigures)) (figure-same weights claim)
      (figure-same weights a.start ∙ ap (figure b weights) same.same_start)

  unbalanced_same : (weights : List ℤ) (t : ℕ) → unbalanced_at a weights t ≡ unbalanced_at b weights t
  unbalanced_same weights t = rw (change-same weights (mode_no t))

  pub claim-same : (weights : List ℤ) (claim : List ℕ) → claim_refusal a weights claim ≡ claim_refusal b weights claim
  unfolding claim_refusal
  claim-same weights claim =
      ap₂ (λ (n : ℕ) (f : ℕ → Option Refusal). first n f ▸ same_figure a weights claim) same.same_modes (λ i t. unbalanced_same weights t i)
      ∙ ap (λ o. first (modes b) (unbalanced_at b weights) ▸ o) (figures-same weights claim)

  -- where K is unbounded, both rules hold Pre to I alone
  kills-same : (t : Mode) (p : ℕ) → p < pairs a → kills a.rule (row a t p) (K a p) ≡ kills b.rule (row b t p) (K b p)
  kills-same t p h = rw (same.unbounded p h, same.unbounded_too p h, same.same_arcs) (free a.rule b.rule)
    where
      free : (r q : CapacityRule) → kills r (row b t p) ∞ ≡ kills q (row b t p) ∞
      free Strong Strong = refl
      free Strong Weak = refl
      free Weak Strong = refl
      free Weak Weak = refl

  pub dead-pair-same : (t : Mode) → dead_pair a t ≡ dead_pair b t
  unfolding dead_pair
  dead-pair-same t =
      first_ext (pairs a) _ _ (λ p h. ap (λ k. only_if k p) (kills-same t p h))
      ∙ ap (λ n. lowest n (λ p. kills b.rule (row b t p) (K b p)) (λ p. p)) same.same_pairs

  pub first-dead-same : first_dead a ≡ first_dead b
  unfolding first_dead
  first-dead-same =
      ap₂ (λ (n : ℕ) (f : ℕ → Option ℕ). first n (λ t. Option.map (λ p. record { mode = mode_no t; pair = pair_no p }) (f t))) same.same_modes (λ i t. dead-pair-same (mode_no t) i)
