-- A sum that the machine adds up term by term: each of its steps is exact.
use Prim.Native.Nat.{ℕ, ◌+◌, ◌*◌, ◌^◌, ◌≤◌, ◌<◌}
use mathlib.Core.Path.{◌≡◌, sym, ◌∙◌, ap₂}
use mathlib.Core.List.{List}
use mathlib.Core.Option.{none}
use lib.IntN.{ℤ, pos, nat_abs, ◌+ℤ◌, ◌-ℤ◌, ◌*ℤ◌}
use lib.Signed.{mag}
use mir.Syntax.{w64}
use mir.Val.{SFits, hbits, to_z, of_z}
use mir.Facts.{to_z-of_z}
use native.Mathlib.Omega.{arith}
use Rattle.model.specs.declared.Mode.{Mode}
use Rattle.model.specs.Nets.{pairs, arc_no, count, row}
use Rattle.model.specs.Markings.{Marking}
use Rattle.movement.specs.Figures.{sum, weight, change}
use Rattle.second_form.proofs.ComplementNet.{row_small}
use Rattle.movement.proofs.Integers.{size_add}
use Rattle.movement.proofs.Figures.{sum_more, size-sum, gain, change-by-arcs}
use Rattle.opened.specs.declared.shape.NetShape.{NetShape}
use Rattle.sheets.specs.lists.Weights.{weights_refusal}
use Rattle.sheets.specs.Decoded.{net_of, weights_of}
use Rattle.opened.specs.Shape.{Open}
use Rattle.opened.specs.Starts.{ModeArcs}
use Rattle.opened.proofs.Segments.{mode_lists}
use Rattle.sheets.proofs.Listed.{weights-within}
use Rattle.opened.proofs.Shapes.{sizes}
use Rattle.statement.proofs.weigh.Sizes.{fits-size, size_product, size-difference}

-- at most 2,048 terms, each a weight times a number within 1,000,000
pub record Terms (n : ℕ) (f : ℕ → ℤ) : Type 0 where
  pub few : n ≤ 2048
  pub small : (k : ℕ) → k < n → nat_abs (f k) ≤ 1000000 * 1000000

-- one term more, r, which a call has given
module _ {n : ℕ} {f : ℕ → ℤ} (terms : Terms n f) (i : ℕ) (h : i < n) {a r : ℤ} (fits : mag r < 2 ^ hbits w64) (p : a ≡ sum i f) (q : r ≡ f i) where
  next : a +ℤ to_z w64 (of_z w64 r) ≡ sum i f +ℤ f i
  next = ap₂ ◌+ℤ◌ p (to_z-of_z {w = w64} (record { sfits = fits }) ∙ q)

  pub next_fits : SFits w64 (a +ℤ to_z w64 (of_z w64 r))
  next_fits =
      rw next
      (fits-size w64 (sum i f +ℤ f i)
      (omega (arith, size_add (sum i f) (f i), size-sum i f 1000000000000 (λ k b. terms.small k (omega arith)), terms.small i h)))

  pub next-is : to_z w64 (of_z w64 (a +ℤ to_z w64 (of_z w64 r))) ≡ sum (i + 1) f
  next-is = to_z-of_z next_fits ∙ next ∙ sym (sum_more i f)

module _ {s : List ℕ} {net : NetShape} (o : Open s net) (w : List ℕ) (accepted : weights_refusal net.pairs w ≡ none) where
  pub figure_terms : {m : List ℕ} → Marking (net_of s) m → Terms net.pairs (λ p. weight (weights_of w) p *ℤ pos (count m p))
  figure_terms {m} marking =
      record {
        few = omega (arith, (sizes o).pairs_within);
        small =
            λ p h.
            size_product (weight (weights_of w) p) (pos (count m p)) ((weights-within net.pairs w accepted).1 p h)
            (marking.in_range p (rw (← (sizes o).pairs) h));
      }

  pub change_terms : (start count : ℕ) → start + count ≤ net.arcs → Terms count (λ k. gain (weights_of w) (arc_no (net_of s).arcs (start + k)))
  change_terms start count fits =
      record {
        few = omega (arith, (sizes o).arcs_within);
        small =
            λ k h.
            let arc = (sizes o).well_formed.each_arc (start + k) (omega (arith, (sizes o).arcs)) in
            size_product (weight (weights_of w) (arc_no (net_of s).arcs (start + k)).pair.0) _
            ((weights-within net.pairs w accepted).1 _ (rw (sizes o).pairs arc.pair))
            (size-difference _ _ arc.post arc.pre);
      }

  -- a weight change: at most 256 pairs of a weight and a difference within 1,000,000
  pub change-size : (t : Mode) → nat_abs (change (net_of s) (weights_of w) t) ≤ 256000000000000
  unfolding change
  change-size t =
      omega (
        arith,
        (sizes o).pairs,
        (sizes o).pairs_within,
        size-sum (pairs (net_of s)) (λ p. weight (weights_of w) p *ℤ (pos (row (net_of s) t p).post -ℤ pos (row (net_of s) t p).pre)) 1000000000000
            (λ p h.
            let e = row_small (net_of s) (sizes o).well_formed t p in
            size_product (weight (weights_of w) p) (pos (row (net_of s) t p).post -ℤ pos (row (net_of s) t p).pre)
            ((weights-within net.pairs w accepted).1 p (rw (sizes o).pairs h)) (size-difference _ _ e.1 e.0)),
      )

-- what a mode's own arcs add up to is its weight change
pub gains-change : {s : List ℕ} {net : NetShape} → Open s net → (w : List ℕ) (t : Mode) (start count : ℕ) → ModeArcs (net_of s).arcs t start count
    → sum count (λ k. gain (weights_of w) (arc_no (net_of s).arcs (start + k))) ≡ change (net_of s) (weights_of w) t
gains-change {s} o w t start count arcs =
    sym (change-by-arcs (net_of s) (weights_of w) t (mode_lists (net_of s) (sizes o).well_formed t start count arcs))
