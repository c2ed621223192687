-- The table of how many pairs of finite K stand below each pair: it is filled from the front, and what it says of an open net.
use Prim.Native.Nat.{ℕ, ◌+◌, ◌-◌, ◌≤◌, ◌<◌}
use mathlib.Core.Path.{◌≡◌, sym, ◌∙◌, ap}
use mathlib.Core.Bool.{cond}
use mathlib.Core.List.{List}
use mathlib.Core.Logic.{⊎_elim}
use lib.ListN.{length, get_or, set, replicate}
use lib.Seq.{get_or-set_same, get_or-set_other}
use native.Mathlib.Omega.{arith}
use native.Mathlib.Numerals.{add-one}
use Rattle.model.specs.Rows.{Capacities}
use Rattle.model.specs.Nets.{pairs, K}
use Rattle.second_form.specs.Complement.{finite, bounded_below, complement}
use Rattle.model.proofs.First.{below_or}
use Rattle.second_form.proofs.Bounded.{below_none, below_next, below-at-most, below-rises}
use Rattle.second_form.proofs.ComplementNet.{pairs-complement}
use Rattle.opened.specs.declared.shape.NetShape.{NetShape}
use Rattle.sheets.specs.Decoded.{net_of}
use Rattle.opened.specs.Shape.{Open}
use Rattle.opened.proofs.Shapes.{sizes}
use Rattle.halves.specs.Bounded.{BelowAre}

-- the entries 0 to p are right
abbrev pub UpTo : Capacities → List ℕ → ℕ → Type 0
UpTo K table p = (q : ℕ) → q ≤ p → get_or table q 0 ≡ bounded_below K q

module _ (K : Capacities) where
  pub none_below : UpTo K (replicate 257 0) 0
  none_below q h = let e : q ≡ 0 = omega arith in rw e (sym (below_none K))

  pub one_more_lem : (p : ℕ) {count one : ℕ} → count ≡ bounded_below K p → one ≡ cond (finite (K p)) 1 0 → count + one ≡ bounded_below K (p + 1)
  one_more_lem p e f = rw add-one (omega (arith, below_next K p))

  pub filled : (table : List ℕ) (p : ℕ) {count : ℕ} → p + 1 < length table → UpTo K table p → count ≡ bounded_below K (p + 1)
      → UpTo K (set table (p + 1) count) (p + 1)
  filled table p {count} h up_to e q l =
      ⊎_elim (λ (b : q < p + 1). get_or-set_other table (p + 1) q count 0 (λ d. omega arith) ∙ up_to q (omega arith))
      (λ (b : p + 1 ≤ q). let d : q ≡ p + 1 = omega arith in rw d (get_or-set_same table (p + 1) count 0 h ∙ e)) (below_or q (p + 1))

module _ {s : List ℕ} {net : NetShape} (o : Open s net) {below : List ℕ} (are : BelowAre (net_of s) below) where
  pub entry-is : (p : ℕ) → p ≤ net.pairs → get_or below p 0 ≡ bounded_below (K (net_of s)) p
  entry-is p h = are.each p (rw (← (sizes o).pairs) h)

  pub entry-few : (p : ℕ) → p ≤ net.pairs → get_or below p 0 ≤ p
  entry-few p h = omega (arith, entry-is p h, below-at-most (K (net_of s)) p)

  pub entries_rise : (p q : ℕ) → p ≤ q → q ≤ net.pairs → get_or below p 0 ≤ get_or below q 0
  entries_rise p q h l = omega (arith, entry-is p (omega arith), entry-is q l, below-rises (K (net_of s)) p q h)

  pub pair-count : {new : ℕ} → new ≡ get_or below net.pairs 0 - get_or below 0 0 → net.pairs + new ≡ pairs (complement (net_of s))
  pair-count e =
      omega (
        arith,
        (sizes o).pairs,
        pairs-complement (net_of s),
        entry-is net.pairs (omega arith),
        ap (bounded_below (K (net_of s))) (sizes o).pairs,
        entry-is 0 (omega arith),
        below_none (K (net_of s)),
      )
