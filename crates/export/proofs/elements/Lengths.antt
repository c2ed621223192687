-- How long each line is.
use Prim.Native.Nat.{ℕ, zero, suc, ◌+◌, ◌≤◌}
use mathlib.Core.Path.{◌≡◌, refl}
use mathlib.Core.Logic.{◌≢◌}
use lib.ListN.{length, length-append}
use native.Mathlib.Omega.{arith}
use Rattle.model.specs.Numbers.{limit}
use Rattle.text.specs.Decimals.{decimal}
use Rattle.text.proofs.Decimals.{length-at-most, length_above}
use Rattle.pnml.specs.Pnml.{three, place_text, transition_text, weight_text, pre_text, post_text, positive}
use Rattle.export.specs.elements.Sizes.{place_size, weight_size}

pub place-length : (p n : ℕ) → length (place_text p n) ≡ place_size n
unfolding place_text three place_size
place-length p n = simp length-append (omega arith)

pub transition-length : (t : ℕ) → length (transition_text t) ≡ 30
unfolding transition_text three
transition-length t = refl

pre-length : (t p w : ℕ) → length (pre_text t p w) ≡ 100 + length (decimal w)
unfolding pre_text weight_text three
pre-length t p w = simp length-append (omega arith)

post-length : (t p w : ℕ) → length (post_text t p w) ≡ 100 + length (decimal w)
unfolding post_text weight_text three
post-length t p w = simp length-append (omega arith)

pub some-pre-length : (t p w : ℕ) → length (positive w (pre_text t p)) ≡ weight_size w
unfolding weight_size
some-pre-length t p zero = refl
some-pre-length t p (suc n) = pre-length t p (suc n)

pub some-post-length : (t p w : ℕ) → length (positive w (post_text t p)) ≡ weight_size w
unfolding weight_size
some-post-length t p zero = refl
some-post-length t p (suc n) = post-length t p (suc n)

-- at least one digit, and at most seven
digits-least : (n : ℕ) → 1 ≤ length (decimal n)
digits-least n = length_above n 0 (omega arith)

pub digits-most : (n : ℕ) → n ≤ limit → length (decimal n) ≤ 7
digits-most n h = length-at-most n 6 (omega arith)

pub place-least : (n : ℕ) → 79 ≤ place_size n
unfolding place_size
place-least n = omega (arith, digits-least n)

pub place-most : (n : ℕ) → n ≤ limit → place_size n ≤ 85
unfolding place_size
place-most n h = omega (arith, digits-most n h)

pub weight-none : (w : ℕ) → w ≡ 0 → weight_size w ≡ 0
unfolding weight_size
weight-none w e = rw e refl

pub weight-some : (w : ℕ) → w ≢ 0 → weight_size w ≡ 100 + length (decimal w)
unfolding weight_size
weight-some zero d = absurd (d refl)
weight-some (suc n) d = refl

pub weight-least : (w : ℕ) → w ≢ 0 → 101 ≤ weight_size w
weight-least w d = omega (arith, weight-some w d, digits-least w)

pub weight-most : (w : ℕ) → w ≤ limit → weight_size w ≤ 107
unfolding weight_size
weight-most zero h = omega arith
weight-most (suc n) h = omega (arith, digits-most (suc n) h)
