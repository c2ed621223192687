-- What was left behind is what the figure is wrong by, and is 0 in step.
use Prim.Native.Nat.{ℕ, ◌+◌, ◌≤◌, ◌<◌}
use mathlib.Core.Path.{◌≡◌, refl, sym, ◌∙◌, ap}
use mathlib.Core.Bool.{Bool, true, false}
use mathlib.Core.List.{List}
use mathlib.Core.Logic.{⊎_elim}
use lib.Dec.{eqb}
use lib.IntN.{ℤ, pos, negsuc, ◌+ℤ◌, ◌-ℤ◌, ◌*ℤ◌, +ℤ_comm, +ℤ_invr, +ℤ-neg_ℤ_cancel, -ℤ-+ℤ_cancel}
use native.Mathlib.Omega.{arith}
use Rattle.model.specs.Numbers.{ℕ∞, fin, ∞}
use Rattle.model.specs.Nets.{PNet, pairs, K, count}
use Rattle.movement.specs.Figures.{sum, weight, figure}
use Rattle.second_form.specs.Complement.{Corresponds}
use Rattle.both_forms.specs.Audit.{excess_of, count_beside, excess}
use Rattle.left_behind.specs.LeftBehind.{left_behind, WrongBy}
use Rattle.model.proofs.First.{below_or}
use Rattle.model.proofs.Numbers.{minus_is, minus-below}
use Rattle.movement.proofs.Integers.{times-sum}
use Rattle.movement.proofs.Figures.{sum_ext, sum_add}

-- what is added to b to give a is a less b
pub less-is : {a : ℤ} (b c : ℤ) → a ≡ b +ℤ c → c ≡ a -ℤ b
less-is b c e = sym (+ℤ-neg_ℤ_cancel c b) ∙ ap (λ z. z -ℤ b) (+ℤ_comm c b ∙ sym e)

-- a difference stays where both have c more
both-more : (a b c : ℕ) → pos (a + c) -ℤ pos (b + c) ≡ pos a -ℤ pos b
both-more a b c =
    ⊎_elim (λ (l : a < b). minus-below (a + c) (b + c) (omega arith) ∙ ap negsuc (omega arith) ∙ sym (minus-below a b l))
    (λ (l : b ≤ a). minus_is (a + c) (b + c) (omega arith) ∙ ap pos (omega arith) ∙ sym (minus_is a b l))
    (below_or a b)

-- at one pair: the complement's marking is in step with the count f
excess-is : (m m' c : ℕ) (k : ℕ∞) (f : ℕ) → m' ≡ f → ((j : ℕ) → k ≡ fin j → f + c ≡ j) → excess_of k m m' c ≡ pos m -ℤ pos f
excess-is m m' c (fin k) f q sum = go (eqb (m + c) k) refl
  where
    go : (t : Bool) → eqb (m + c) k ≡ t → excess_of (fin k) m m' c ≡ pos m -ℤ pos f
    go true g = rw (g, q)
    go false g = rw (g, ← sum k refl) (both-more m f c)
excess-is m m' c ∞ f q sum = rw q

-- in step, a count is the true one and the excess
excess-adds : (net : PNet) (m m' t : List ℕ) → Corresponds net t m' → (p : ℕ) → p < pairs net → pos (count m p) ≡ pos (count t p) +ℤ excess net m m' p
excess-adds net m m' t c p h =
    sym
    (ap (λ z. pos (count t p) +ℤ z) (excess-is (count m p) (count m' p) (count_beside net m m' p) (K net p) (count t p) (c.equal p h) (λ j f. c.add_up p j h f))
    ∙ +ℤ_comm (pos (count t p)) (pos (count m p) -ℤ pos (count t p)) ∙ -ℤ-+ℤ_cancel (pos (count m p)) (pos (count t p)))

pub figure-adds : (net : PNet) (weights : List ℤ) (m m' t : List ℕ) → Corresponds net t m'
    → figure net weights m ≡ figure net weights t +ℤ left_behind net weights m m'
unfolding figure left_behind
figure-adds net weights m m' t c =
    sum_ext (pairs net) _ (λ p. weight weights p *ℤ pos (count t p) +ℤ weight weights p *ℤ excess net m m' p)
    (λ p h.
    ap (λ z. weight weights p *ℤ z) (excess-adds net m m' t c p h)
    ∙ times-sum (weight weights p) (pos (count t p)) (excess net m m' p))
    ∙ sum_add (pairs net) (λ p. weight weights p *ℤ pos (count t p)) (λ p. weight weights p *ℤ excess net m m' p)

pub wrong-by : WrongBy
wrong-by net weights m m' t c = less-is (figure net weights t) (left_behind net weights m m') (figure-adds net weights m m' t c)

pub nothing-in-step : (net : PNet) (weights : List ℤ) (m m' : List ℕ) → Corresponds net m m' → left_behind net weights m m' ≡ pos 0
nothing-in-step net weights m m' c = wrong-by net weights m m' m c ∙ +ℤ_invr (figure net weights m)
