-- The laws of sums over the pairs, and the figure along a list of movements (document 01, "Certificate, figure, dead modes").
use Prim.Native.Nat.{ℕ, zero, suc, ◌+◌, ◌*◌, ◌≤◌, ◌<◌}
use mathlib.Core.Path.{◌≡◌, refl, sym, ◌∙◌, ap, ap₂}
use mathlib.Core.List.{List}
use lib.IntN.{ℤ, pos, ◌+ℤ◌, ◌-ℤ◌, ◌*ℤ◌, nat_abs, +ℤ_assoc, +ℤ_idr, *ℤ-zero}
use native.Mathlib.Nat.{suc-mul, zero-mul, eq-or-lt_of_le, le_of_suc-le-suc, not-suc-le-zero}
use mathlib.Core.Logic.{⊎_elim}
use native.Mathlib.Numerals.{add-one}
use native.Mathlib.Omega.{arith}
use Rattle.model.specs.declared.Mode.{Mode}
use Rattle.model.specs.declared.Thing.TheVariants.{Movements}
use Rattle.model.specs.Nets.{NetArc, PNet, pairs, count, row}
use Rattle.model.specs.Firing.{fired}
use Rattle.movement.specs.Figures.{sum, weight, figure, change, changes}
use Rattle.movement.specs.Promises.{Leads, stays, moves, FigureAfter}
use Rattle.movement.proofs.ByArcs.{Listing}
use Rattle.model.proofs.Firing.{accepted-enough}
use Rattle.movement.proofs.Integers.{exchange, times-sum, pos_after, size_add}
use Rattle.movement.proofs.Runs.{runs}
use Rattle.model.proofs.Tables.{table_at}

pub sum_more : (n : ℕ) (f : ℕ → ℤ) → sum (n + 1) f ≡ sum n f +ℤ f n
unfolding sum
sum_more n f = rw add-one

pub sum-end : (i n : ℕ) {a : ℤ} (f : ℕ → ℤ) → i ≤ n → n ≤ i → a ≡ sum i f → a ≡ sum n f
sum-end i n f h l e = let q : i ≡ n = omega arith in rw q at e

pub sum_ext : (n : ℕ) (f g : ℕ → ℤ) → ((i : ℕ) → i < n → f i ≡ g i) → sum n f ≡ sum n g
unfolding sum
sum_ext zero f g h = refl
sum_ext (suc n) f g h = rw (sum_ext n f g (λ i l. h i (omega arith)), h n (omega arith))

pub sum_add : (n : ℕ) (f g : ℕ → ℤ) → sum n (λ i. f i +ℤ g i) ≡ sum n f +ℤ sum n g
unfolding sum
sum_add zero f g = refl
sum_add (suc n) f g = rw (sum_add n f g) (exchange (sum n f) (sum n g) (f n) (g n))

-- a sum over n numbers in which only those that a rising `at` names count, c of them
abbrev Sparse : (ℕ → ℤ) → (ℕ → ℕ) → ℕ → ℕ → Type 0
Sparse f at n c = ((k : ℕ) → k < c → at k < n) → ((j k : ℕ) → j < k → k < c → at j < at k)
    → ((p : ℕ) → p < n → ((k : ℕ) → k < c → ¬ (at k ≡ p)) → f p ≡ pos 0) → sum n f ≡ sum c (λ k. f (at k))

module _ (f : ℕ → ℤ) (at : ℕ → ℕ) where
  unnamed : (n c : ℕ) → ((k : ℕ) → k < c → at k < n) → Sparse f at n c → Sparse f at (suc n) c
  unfolding sum
  unnamed n c below before inside rising elsewhere =
      rw (before below rising (λ p h. elsewhere p (omega arith)), elsewhere n (omega arith) (λ k h q. omega (arith, below k h))) (+ℤ_idr _)

  -- the last number has the last name
  named : (n c : ℕ) → at c ≡ n → Sparse f at n c → Sparse f at (suc n) (suc c)
  unfolding sum
  named n c last before inside rising elsewhere =
      ap₂ ◌+ℤ◌
      (before (λ k h. omega (arith, rising k c h (omega arith))) (λ j k l h. rising j k l (omega arith))
      (λ p h nowhere.
      elsewhere p (omega arith)
      (λ k l q. ⊎_elim (λ (e : k ≡ c). omega (arith, ap at e)) (λ (b : k < c). nowhere k b q) (eq-or-lt_of_le (le_of_suc-le-suc l)))))
      (ap f (sym last))

  pub sum_sparse : (n c : ℕ) → Sparse f at n c
  unfolding sum
  sum_sparse zero zero = λ inside rising elsewhere. refl
  sum_sparse zero (suc c) = λ inside rising elsewhere. absurd (not-suc-le-zero (inside c (omega arith)))
  sum_sparse (suc n) zero = unnamed n zero (λ k h. absurd (not-suc-le-zero h)) (sum_sparse n zero)
  sum_sparse (suc n) (suc c) =
      λ inside rising elsewhere.
      ⊎_elim (λ (q : at c ≡ n). named n c q (sum_sparse n c) inside rising elsewhere)
      (λ (l : at c < n).
      unnamed n (suc c)
      (λ k h. ⊎_elim (λ (e : k ≡ c). rw e l) (λ (b : k < c). omega (arith, rising k c b (omega arith))) (eq-or-lt_of_le (le_of_suc-le-suc h)))
      (sum_sparse n (suc c)) inside rising elsewhere)
      (eq-or-lt_of_le (le_of_suc-le-suc (inside c (omega arith))))

-- n terms, each of a size within the bound: what an exact figure needs of its integers
pub size-sum : (n : ℕ) (f : ℕ → ℤ) (bound : ℕ) → ((i : ℕ) → i < n → nat_abs (f i) ≤ bound) → nat_abs (sum n f) ≤ n * bound
unfolding sum
size-sum zero f bound h = omega (arith, zero-mul bound)
size-sum (suc n) f bound h =
    omega (arith, size_add (sum n f) (f n), size-sum n f bound (λ i l. h i (omega arith)), h n (omega arith), suc-mul n bound)

-- what an arc adds to its mode's weight change
abbrev pub gain : List ℤ → NetArc → ℤ
gain weights a = weight weights a.pair.0 *ℤ (pos a.entry.post -ℤ pos a.entry.pre)

-- a mode's own arcs give its weight change: "Where no arc is written, Pre = Post = 0"
pub change-by-arcs : (net : PNet) (weights : List ℤ) (t : Mode) {c : ℕ} {arc : ℕ → NetArc} → Listing (pairs net) (row net t) c arc
    → change net weights t ≡ sum c (λ k. gain weights (arc k))
unfolding change
change-by-arcs net weights t {c} {arc} listing =
    sum_sparse (λ p. weight weights p *ℤ (pos (row net t p).post -ℤ pos (row net t p).pre)) (λ k. (arc k).pair.0) (pairs net) c listing.inside
    listing.rising (λ p h elsewhere. rw (listing.unwritten p h elsewhere) (*ℤ-zero (weight weights p)))
    ∙ sum_ext c _ _ (λ k h. rw (listing.written k h))

-- "Firing gives M - Pre + Post": where Pre is at most M at every pair, the figure moves by the mode's weight change
pub figure-fired : (net : PNet) (weights : List ℤ) (t : Mode) (m : List ℕ) → ((p : ℕ) → p < pairs net → (row net t p).pre ≤ count m p)
    → figure net weights (fired net t m) ≡ figure net weights m +ℤ change net weights t
unfolding figure change fired
figure-fired net weights t m enough = sum_ext (pairs net) _ (λ p. before p +ℤ gain p) each ∙ sum_add (pairs net) before gain
  where
    post_less_pre : ℕ → ℤ
    post_less_pre p = pos (row net t p).post -ℤ pos (row net t p).pre

    before : ℕ → ℤ
    before p = weight weights p *ℤ pos (count m p)

    gain : ℕ → ℤ
    gain p = weight weights p *ℤ post_less_pre p

    each : (p : ℕ) → p < pairs net → weight weights p *ℤ pos (count (fired net t m) p) ≡ before p +ℤ gain p
    each p h = rw (table_at, pos_after, enough p h) (times-sum (weight weights p) (pos (count m p)) (post_less_pre p))

pub figure-leads : (net : PNet) (weights : List ℤ) {ts : List Mode} {m m' : List ℕ} → Leads net ts m m'
    → figure net weights m' ≡ figure net weights m +ℤ changes net weights ts
unfolding changes
figure-leads net weights (stays {m}) = sym (+ℤ_idr (figure net weights m))
figure-leads net weights (moves {t} {ts} {m} {m'} e leads) =
    figure-leads net weights leads ∙ ap (λ z. z +ℤ changes net weights ts) (figure-fired net weights t m (accepted-enough Movements net t m e))
    ∙ +ℤ_assoc (figure net weights m) (change net weights t) (changes net weights ts)

pub figure-after : FigureAfter
figure-after net weights ts m = figure-leads net weights (runs net ts m).leads
