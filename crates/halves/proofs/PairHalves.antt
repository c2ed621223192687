-- The pairs of the complement: the originals, then the complement pair of each bounded one.
use Prim.Native.Nat.{ℕ, ◌+◌, ◌-◌, ◌≤◌, ◌<◌}
use mathlib.Core.Path.{◌≡◌, refl, sym, ◌∙◌, ap₂}
use mathlib.Core.List.{List, ◌++◌}
use lib.ListN.{get_or}
use native.Mathlib.Omega.{arith}
use Rattle.model.specs.Numbers.{ℕ∞, fin}
use Rattle.model.specs.Nets.{PNet, pairs, K, count}
use Rattle.model.specs.WellFormed.{WellFormed}
use Rattle.second_form.specs.Complement.{bounded, bounded_below, complement_pair, complement}
use Rattle.model.specs.Lists.{joined}
use Rattle.movement.proofs.Joined.{joined_ext, joined-split, joined_sparse}
use Rattle.second_form.proofs.Bounded.{bounded-pair, at-complements, bounded-rises, unbounded as not-bounded}
use Rattle.second_form.proofs.ComplementNet.{pairs-complement, capacity-complement, start-corresponds}
use Rattle.opened.specs.declared.shape.NetShape.{NetShape}
use Rattle.fields.specs.Numbers.{unbounded, bound}
use Rattle.sheets.specs.Decoded.{net_of}
use Rattle.opened.specs.Shape.{Open}
use Rattle.sheets.specs.written.Written.{pair_bytes, pairs_bytes}
use Rattle.fields.proofs.Bounds.{bound-unbounded}
use Rattle.opened.proofs.Shapes.{sizes}
use Rattle.halves.specs.declared.half.Half.{Half}
use Rattle.halves.specs.declared.half.Half.TheVariants.{Original, Complement}
use Rattle.halves.specs.Pairs.{new_pair, half_pair}

module _ (net : PNet) (wf : WellFormed net) where
  abbrev pair_of : ℕ → List ℕ
  pair_of p = pair_bytes (K (complement net) p) (count (complement net).start p)

  original-pair : (p : ℕ) → p < pairs net → pair_of p ≡ half_pair net Original p
  original-pair p h = rw (capacity-complement net p, (start-corresponds net wf).equal p h)

  complement-pair : (p k : ℕ) → p < pairs net → K net p ≡ fin k → pair_of (complement_pair (pairs net) (K net) p) ≡ half_pair net Complement p
  complement-pair p k h e =
      let cp = complement_pair (pairs net) (K net) p in
      let is : count (complement net).start cp ≡ k - count net.start p = omega (arith, (start-corresponds net wf).add_up p k h e) in
      rw (capacity-complement net cp, e, is)

  pairs_halves : pairs_bytes (complement net) ≡ joined (pairs net) (half_pair net Original) ++ joined (pairs net) (half_pair net Complement)
  unfolding pairs_bytes
  pairs_halves =
      let n = pairs net in
      let b = bounded_below (K net) n in
      let at : ℕ → ℕ = λ j. get_or (bounded (K net) n) j 0 in
      rw (pairs-complement net)
      (joined-split n b pair_of
      ∙ ap₂ (λ xs ys. xs ++ ys) (joined_ext n pair_of (half_pair net Original) original-pair)
      (joined_ext b (λ j. pair_of (n + j)) (λ j. half_pair net Complement (at j)) (at-complements (K net) n pair_of (half_pair net Complement) complement-pair)
      ∙ sym
      (joined_sparse n b (half_pair net Complement) at (λ j h. (bounded-pair (K net) n j h).below) (bounded-rises (K net) n)
      (λ p h out. rw (not-bounded (K net) n p h out)))))

-- The same of an open net.
module _ {s : List ℕ} {net : NetShape} (o : Open s net) where
  pub pair_parts : pairs_bytes (complement (net_of s)) ≡ joined net.pairs (half_pair (net_of s) Original) ++ joined net.pairs (half_pair (net_of s) Complement)
  pair_parts = rw (sizes o).pairs (pairs_halves (net_of s) (sizes o).well_formed)

  pub start-within : (p k : ℕ) → p < net.pairs → K (net_of s) p ≡ fin k → count (net_of s).start p ≤ k
  start-within p k h e = rw e at ((sizes o).well_formed.start.within p (rw (← (sizes o).pairs) h))

-- what a put of a pair writes
pub new-pair : {b : ℕ∞} {k m r : ℕ} → b ≡ fin k → r ≡ m → pair_bytes (bound unbounded) (k - r) ≡ new_pair b m
new-pair e f = rw (e, f, bound-unbounded unbounded refl)

pub old_pair : (net : PNet) (half : Half) (p : ℕ) {r : ℕ} → half ≡ Original → r ≡ count net.start p → pair_bytes (bound unbounded) r ≡ half_pair net half p
old_pair net half p e f = rw (e, f, bound-unbounded unbounded refl)
