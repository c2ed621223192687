-- What the accepted arcs of a sheet of version 2 hold, mode by mode.
use Prim.Native.Nat.{ℕ, zero, suc, ◌+◌, ◌*◌, ◌-◌, ◌≤◌, ◌<◌}
use mathlib.Core.Path.{◌≡◌, refl}
use mathlib.Core.List.{List}
use mathlib.Core.Option.{none}
use native.Mathlib.Omega.{arith}
use native.Mathlib.Numerals.{add-one}
use borrow.Author.Tests.{ltb-false, leb-false, lt-ltb}
use Rattle.model.proofs.First.{left-none, right-none, first-each, only_if_none}
use Rattle.heads.specs.Bytes.{u16_at}
use Rattle.heads.specs.Layout.{sheet_end, tail_size, tail_pair_at, group_arc_at, arcs_after, arcs_before, group_at, group_count}
use Rattle.sheets.specs.nets.Groups.{pair_not_rising, pair_name_refusal, group_arc_refusal, group_refusal, group_fields}
use Rattle.sheets.proofs.nets.TailsRead.{TailRead, tail-read, and_false}

module _ (s : List ℕ) (base : ℕ) where
  pub before-none : 0 ≡ arcs_before s base 0
  unfolding arcs_before
  before-none = refl

  pub before-next : (t : ℕ) → arcs_before s base (suc t) ≡ arcs_before s base t + group_count s base t
  unfolding arcs_before
  before-next t = refl

  pub before_more : (t : ℕ) → arcs_before s base (t + 1) ≡ arcs_before s base t + group_count s base t
  before_more t = rw (add-one t) (before-next t)

-- the i-th of a mode's arcs, from `start` on
pub record GroupArcRead (s : List ℕ) (pairs start i : ℕ) : Type 0 where
  pub there : group_arc_at start i + tail_size ≤ sheet_end s
  pub pair : u16_at s (tail_pair_at (group_arc_at start i)) < pairs
  pub rises : 0 < i → u16_at s (tail_pair_at (group_arc_at start (i - 1))) < u16_at s (tail_pair_at (group_arc_at start i))
  pub tail : TailRead s (group_arc_at start i)

pub group_arc-read : (s : List ℕ) (pairs start i : ℕ) → group_arc_refusal s pairs start i ≡ none → GroupArcRead s pairs start i
unfolding group_arc_refusal pair_name_refusal pair_not_rising
group_arc-read s pairs start i e =
    let name = left-none _ _ (right-none _ _ e) in
    record {
      there = ltb-false _ _ (only_if_none _ _ (left-none _ _ e));
      pair = leb-false _ _ (only_if_none _ _ (left-none _ _ name));
      rises = λ h. leb-false _ _ (and_false _ _ (only_if_none _ _ (right-none _ _ name)) (lt-ltb 0 i h));
      tail = tail-read s _ _ (right-none _ _ (right-none _ _ e));
    }

-- a mode's arc count and its arcs
pub record GroupRead (s : List ℕ) (pairs base t : ℕ) : Type 0 where
  pub there : group_at s base t + 2 ≤ sheet_end s
  pub in_total : arcs_before s base t + group_count s base t ≤ 2048
  pub arcs : (i : ℕ) → i < group_count s base t → GroupArcRead s pairs (arcs_after (group_at s base t)) i

pub group_read : (s : List ℕ) (pairs base t : ℕ) → group_refusal s pairs base t ≡ none → GroupRead s pairs base t
unfolding group_refusal
group_read s pairs base t e =
    record {
      there = ltb-false _ _ (only_if_none _ _ (left-none _ _ e));
      in_total = ltb-false _ _ (only_if_none _ _ (left-none _ _ (right-none _ _ e)));
      arcs = λ i h. group_arc-read s pairs _ i (first-each _ (group_arc_refusal s pairs (arcs_after (group_at s base t))) (right-none _ _ (right-none _ _ e)) i h);
    }

pub groups_read : (s : List ℕ) (pairs modes base : ℕ) → group_fields s pairs modes base ≡ none → (t : ℕ) → t < modes → GroupRead s pairs base t
unfolding group_fields
groups_read s pairs modes base e t h = group_read s pairs base t (first-each modes (group_refusal s pairs base) (left-none _ _ e) t h)

-- the same by a number k that is known to be how many stand before
module _ (s : List ℕ) (pairs base t k : ℕ) (is : k ≡ arcs_before s base t) where
  pub step-there : GroupRead s pairs base t → base + 2 * t + 14 * k + 2 ≤ sheet_end s
  step-there r = rw is r.there

  pub step-next : (n : ℕ) → n ≡ u16_at s (base + 2 * t + 14 * k) → k + n ≡ arcs_before s base (t + 1)
  step-next n e = let m : n ≡ group_count s base t = rw is at e in omega (arith, before_more s base t)

  pub step-total : (n : ℕ) → n ≡ u16_at s (base + 2 * t + 14 * k) → GroupRead s pairs base t → k + n ≤ 2048
  step-total n e r = let m : n ≡ group_count s base t = rw is at e in omega (arith, r.in_total)

pub within : (s : List ℕ) (pairs base n : ℕ) → ((t : ℕ) → t < n → GroupRead s pairs base t) → arcs_before s base n ≤ 2048
within s pairs base zero read = omega (arith, before-none s base)
within s pairs base (suc n) read = omega (arith, before-next s base n, (read n (omega arith)).in_total)
