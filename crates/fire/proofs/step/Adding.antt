-- One arc added to the tables; the arcs of a mode, added one after the other, add its row.
use Prim.Native.Nat.{ℕ, ◌+◌, ◌≤◌, ◌<◌, min}
use mathlib.Core.Path.{◌≡◌, refl, sym, ◌∙◌, ap}
use mathlib.Core.Bool.{Bool, true, false}
use mathlib.Core.List.{List}
use mathlib.Core.Logic.{⊎_elim}
use lib.Dec.{eqb}
use lib.ListN.{get_or, set, length-set}
use lib.Seq.{get_or-set_same, get_or-set_other}
use borrow.Author.Tests.{eqb-true, eqb-false}
use native.Mathlib.Omega.{arith}
use native.Mathlib.Nat.{eq-or-lt_of_le}
use Rattle.model.specs.declared.Arc.{Arc}
use Rattle.model.specs.First.{Lowest, NoneBelow}
use Rattle.model.specs.Numbers.{limit}
use Rattle.model.specs.Rows.{Row}
use Rattle.model.specs.Nets.{NetArc}
use Rattle.both_forms.specs.Steps.{beside}
use Rattle.movement.proofs.ByArcs.{Listing, named_or_not}
use Rattle.both_forms.proofs.Steps.{entry-is, alone}
use Rattle.fields.specs.Numbers.{unbounded, bound}
use Rattle.fields.proofs.BoundNumbers.{least_bounds}
use Rattle.sheets.specs.Decoded.{net_arc}
use Rattle.fire.specs.declared.step.tables.Sums.{Sums}
use Rattle.fire.specs.step.Tabled.{Tabled}
use Rattle.fire.specs.step.Sums.{sums_at, Below, Addable, Added, AddedRow}

module _ (a : Arc) (s : Sums) {x : ℕ} (h : a.pair.0 < 256) (e : x ≡ min (get_or s.low a.pair.0 0) a.inhibitor) (g : a.inhibitor ≤ unbounded) where
  abbrev at : ℕ
  at = a.pair.0

  abbrev pre : List ℕ
  pre = set s.pre at (get_or s.pre at 0 + a.pre)

  abbrev post : List ℕ
  post = set s.post at (get_or s.post at 0 + a.post)

  long : Tabled s.pre s.post s.low
  long = s.is_tabled

  pub still-tabled : Tabled pre post (set s.low at x)
  still-tabled =
      record {
        pre = length-set s.pre at _ ∙ long.pre;
        post = length-set s.post at _ ∙ long.post;
        low = length-set s.low at x ∙ long.low;
        fits = λ p l. fits p l (eqb p at) refl;
      }
    where
      fits : (p : ℕ) → p < 256 → (t : Bool) → eqb p at ≡ t → get_or (set s.low at x) p 0 ≤ unbounded
      fits p l true q = rw (eqb-true p at q, get_or-set_same s.low at x 0 (omega (arith, long.low))) (omega arith)
      fits p l false q = rw (get_or-set_other s.low at p x 0 (eqb-false p at q)) (long.fits p l)

  abbrev with-arc : Sums
  with-arc = record { pre = pre; post = post; low = set s.low at x; is_tabled = still-tabled }

  pub arc-added : Added (net_arc a) (sums_at s) (sums_at with-arc)
  arc-added =
      record {
        at =
            entry-is (get_or-set_same s.pre at _ 0 (omega (arith, long))) (get_or-set_same s.post at _ 0 (omega (arith, long)))
            (ap bound (get_or-set_same s.low at x 0 (omega (arith, long)) ∙ e) ∙ least_bounds (get_or s.low at 0) a.inhibitor (long.fits at h) g);
        other = λ p n. entry-is (get_or-set_other s.pre at p _ 0 n) (get_or-set_other s.post at p _ 0 n) (ap bound (get_or-set_other s.low at p x 0 n));
      }

-- the first i arcs, each at its own pair
pub record AddedArcs (arc : ℕ → NetArc) (i : ℕ) (old new : Row) : Type 0 where
  pub written : (k : ℕ) → k < i → new (arc k).pair.0 ≡ beside (old (arc k).pair.0) (arc k).entry
  pub kept : (p : ℕ) → ((k : ℕ) → k < i → ¬ ((arc k).pair.0 ≡ p)) → new p ≡ old p

pub added_none : {arc : ℕ → NetArc} {old : Row} → AddedArcs arc 0 old old
added_none = record { written = λ k h. absurd (omega arith); kept = λ p h. refl }

module _ {n c : ℕ} {r : Row} {arc : ℕ → NetArc} (listing : Listing n r c arc) {old : Row} where
  -- the next arc's pair is still as it was
  added_next : {i : ℕ} {mid : Row} → i < c → AddedArcs arc i old mid → mid (arc i).pair.0 ≡ old (arc i).pair.0
  added_next {i} h part = part.kept (arc i).pair.0 (λ k l e. omega (arith, listing.rising k i l h))

  pub addable : {i : ℕ} {mid : Row} {a : Arc} → i < c → AddedArcs arc i old mid → Below 63 n old → n ≤ 256 → net_arc a ≡ arc i → a.pre ≤ limit
      → a.post ≤ limit → Addable a mid
  addable {i} {mid} {a} h part below l is pre post =
      let q : a.pair.0 ≡ (arc i).pair.0 = ap (λ x. x.pair.0) is in
      let kept : mid a.pair.0 ≡ old a.pair.0 = rw q (added_next h part) in
      let inside : a.pair.0 < n = rw q (listing.inside i h) in
      let small = below.each a.pair.0 inside in
      record { inside = omega arith; pre = omega (arith, ap (λ e. e.pre) kept); post = omega (arith, ap (λ e. e.post) kept) }

  pub added_more : {i : ℕ} {mid new : Row} → i < c → AddedArcs arc i old mid → Added (arc i) mid new → AddedArcs arc (i + 1) old new
  added_more {i} {mid} h part one =
      record {
        written = λ k l.
            ⊎_elim
            (λ (q : k ≡ i).
            rw q (one.at ∙ ap (λ e. beside e (arc i).entry) (added_next h part)))
            (λ (b : k < i). one.other (arc k).pair.0 (λ e. omega (arith, listing.rising k i b h)) ∙ part.written k b)
            (eq-or-lt_of_le (omega arith));
        kept = λ p out. one.other p (λ e. out i (omega arith) (sym e)) ∙ part.kept p (λ k l. out k (omega arith));
      }

  pub added-all : {new : Row} → AddedArcs arc c old new → AddedRow n r old new
  added-all part =
      record {
        each = λ p h.
            ⊎_elim
            (λ (s : (k : ℕ) × Lowest c (λ k. (arc k).pair.0 ≡ p) k).
            rw (← s.1.holds, listing.written s.0 s.1.below) (part.written s.0 s.1.below))
            (λ (no : NoneBelow c (λ k. (arc k).pair.0 ≡ p)). part.kept p no ∙ rw (listing.unwritten p h no) (sym (alone (old p))))
            (named_or_not c arc p);
      }
