-- Arcs that stand together: the arcs of a mode are a run of the net's arcs, told by their numbers.
use Prim.Native.Nat.{ℕ, ◌+◌, ◌-◌, ◌≤◌, ◌<◌}
use mathlib.Core.Path.{◌≡◌, refl, ◌∙◌, ap, ap₂}
use mathlib.Core.List.{List, [], ◌∷◌, ◌++◌, append-nil, flat_map}
use lib.ListN.{length}
use native.Mathlib.Omega.{arith}
use Rattle.model.specs.Nets.{NetArc, arc_no}
use Rattle.model.specs.Lists.{joined}
use Rattle.movement.proofs.Each.{each-joined}
use Rattle.movement.proofs.Joined.{joined_ext, joined-split}
use Rattle.sheets.specs.written.Written.{of_mode}
use Rattle.sheets.proofs.written.Sections.{by-numbers, section_one, section_joined, joined_length}
use Rattle.sheets.proofs.written.ByMode.{of-append, of-own, of_other}

-- `count` arcs from `start` on are those of mode t, and no other is
module _ (arcs : List NetArc) (t start count : ℕ) (fits : start + count ≤ length arcs)
    (own : (k : ℕ) → k < count → (arc_no arcs (start + k)).mode.0 ≡ t)
    (all : (k : ℕ) → k < length arcs → (arc_no arcs k).mode.0 ≡ t → (start ≤ k) × (k < start + count)) where
  abbrev one : ℕ → List NetArc
  one k = arc_no arcs k ∷ []

  abbrev together : List NetArc
  together = joined count (λ i. one (start + i))

  abbrev rest : ℕ
  rest = length arcs - (start + count)

  abbrev after : List NetArc
  after = joined rest (λ i. one (start + (count + i)))

  in_three : arcs ≡ joined start one ++ (together ++ after)
  in_three =
      let sum : length arcs ≡ start + (count + rest) = omega arith in
      by-numbers _ arcs
      ∙ ap (λ n. joined n one) sum
      ∙ joined-split start (count + rest) one
      ∙ ap (λ xs. joined start one ++ xs) (joined-split count rest (λ i. one (start + i)))

  none_before : of_mode (joined start one) t ≡ []
  none_before =
      of_other (joined start one) t (each-joined (λ a. ¬ (a.mode.0 ≡ t)) start one (λ k l. (λ e. omega (arith, all k (omega arith) e), tt)))

  all-inside : of_mode together t ≡ together
  all-inside = of-own together t (each-joined (λ a. a.mode.0 ≡ t) count (λ i. one (start + i)) (λ i l. (own i l, tt)))

  none_after : of_mode after t ≡ []
  none_after =
      of_other after t
      (each-joined (λ a. ¬ (a.mode.0 ≡ t)) rest (λ i. one (start + (count + i)))
      (λ i l. (λ e. omega (arith, all (start + (count + i)) (omega arith) e), tt)))

  of-together : of_mode arcs t ≡ together
  of-together =
      ap (λ xs. of_mode xs t) in_three
      ∙ of-append (joined start one) (together ++ after) t
      ∙ ap₂ ◌++◌ none_before (of-append together after t ∙ ap₂ ◌++◌ all-inside none_after ∙ append-nil together)

  pub together-count : count ≡ length (of_mode arcs t)
  together-count = omega (arith, ap length of-together, joined_length 1 (λ i. one (start + i)) (λ i. refl) count)

  pub together-each : {B : Type 0} (f : NetArc → List B) → flat_map f (of_mode arcs t) ≡ joined count (λ i. f (arc_no arcs (start + i)))
  together-each f =
      ap (flat_map f) of-together
      ∙ section_joined f count (λ i. one (start + i))
      ∙ joined_ext count _ _ (λ i l. section_one f (arc_no arcs (start + i)))
