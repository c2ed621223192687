-- The excess at one pair: exact, and by a capacity as the sheet writes it, and where the complement pair's count stands.
use Prim.Native.Nat.{ℕ, ◌+◌, ◌<◌}
use mathlib.Core.Path.{◌≡◌, refl, sym}
use mathlib.Core.Bool.{true, false, false≢true}
use mathlib.Core.List.{List}
use lib.IntN.{pos, ◌-ℤ◌}
use lib.ListN.{length, get_or}
use native.Mathlib.Omega.{arith}
use Rattle.model.specs.Numbers.{ℕ∞, fin}
use Rattle.model.specs.Nets.{pairs, K}
use Rattle.second_form.specs.Complement.{finite, complement_pair, complement}
use Rattle.both_forms.specs.Audit.{excess_of}
use Rattle.second_form.proofs.Bounded.{bounded-number}
use Rattle.second_form.proofs.ComplementNet.{pairs-complement}
use Rattle.sheets.specs.Decoded.{net_of}
use Rattle.opened.specs.declared.shape.NetShape.{NetShape}
use Rattle.opened.specs.Shape.{Open}
use Rattle.opened.proofs.Shapes.{sizes}
use Rattle.halves.specs.Bounded.{BelowAre}
use Rattle.halves.proofs.Below.{entry-is}
use Rattle.fields.specs.Numbers.{bound}
use Rattle.fields.proofs.Bounds.{by-bound}

-- K as the sheet writes it, where it is unbounded and where it is not
module _ (x : ℕ) {k : ℕ∞} (m m' c : ℕ) (e : bound x ≡ k) where
  pub unbounded-excess : finite (bound x) ≡ false → pos m -ℤ pos m' ≡ excess_of k m m' c
  unbounded-excess f = rw (← e) (by-bound (λ b. finite b ≡ false → pos m -ℤ pos m' ≡ excess_of b m m' c) x (λ _ _. refl) (λ g. absurd (false≢true (sym g))) f)

  pub finite-excess : finite (bound x) ≡ true → excess_of (fin x) m m' c ≡ excess_of k m m' c
  finite-excess f = rw (← e) (by-bound (λ b. finite b ≡ true → excess_of (fin x) m m' c ≡ excess_of b m m' c) x (λ _ g. absurd (false≢true g)) (λ _. refl) f)

  capacity-is : finite (bound x) ≡ true → k ≡ fin x
  capacity-is f = rw (← e) (by-bound (λ b. finite b ≡ true → b ≡ fin x) x (λ _ g. absurd (false≢true g)) (λ _. refl) f)

-- the complement pair of a bounded pair of an open net, by the table
module _ {s : List ℕ} {net : NetShape} (o : Open s net) {below : List ℕ} (are : BelowAre (net_of s) below) {p q : ℕ} (h : p < net.pairs)
    (at : q ≡ net.pairs + get_or below p 0) where
  pub beside-is : q ≡ complement_pair (pairs (net_of s)) (K (net_of s)) p
  beside-is = omega (arith, entry-is o are p (omega arith), (sizes o).pairs)

  pub beside-inside : (x : ℕ) (beside : List ℕ) → bound x ≡ K (net_of s) p → finite (bound x) ≡ true → length beside ≡ pairs (complement (net_of s)) → q < length beside
  beside-inside x beside e f l =
      omega (
        arith,
        beside-is,
        pairs-complement (net_of s),
        bounded-number (K (net_of s)) (pairs (net_of s)) p x (omega (arith, (sizes o).pairs)) (capacity-is x 0 0 0 e f),
      )
