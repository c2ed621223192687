-- The complement of a well-formed net, where 10 is not given, is well formed; its numbers are in range, so 16 never occurs.
use Prim.Native.Nat.{ℕ, ◌≤◌, ◌<◌}
use mathlib.Core.Path.{◌≡◌, refl, sym, ◌∙◌}
use mathlib.Core.Bool.{Bool, true, false, ◌&&◌}
use mathlib.Core.List.{List}
use mathlib.Core.Logic.{⊎_elim}
use lib.Dec.{leb, ltb}
use lib.ListN.{length, length-append, length-replicate}
use borrow.Author.Tests.{leb-true, ltb-true}
use native.Mathlib.Omega.{arith}
use Rattle.model.specs.declared.Mode.{Mode}
use Rattle.model.specs.Numbers.{fin, ∞, limit}
use Rattle.model.specs.Nets.{PNet, pairs, modes, mode_no, K, row}
use Rattle.model.specs.WellFormed.{ArcOf, WellFormed}
use Rattle.model.specs.Markings.{Marking}
use Rattle.second_form.specs.Dead.{is_dead}
use Rattle.second_form.specs.Complement.{complement_entry, complement_row, new_places, all_pairs, complement, sheet_limits, Corresponds}
use Rattle.second_form.specs.DeadComplement.{NumbersInRange}
use Rattle.model.specs.Lists.{list_if}
use Rattle.model.proofs.Both.{and_both}
use Rattle.second_form.proofs.Bounded.{original_or}
use Rattle.second_form.proofs.ComplementRow.{claim-within, reserve-within, row-original, row-complement, row-uninhibited}
use Rattle.movement.proofs.Each.{Each, each_append, each-joined, each_at, at_each, sorted-rising}
use Rattle.second_form.proofs.WrittenRows.{not_blank_lem, each_row, sorted-rows}
use Rattle.second_form.proofs.ComplementNet.{new_colours, new_place, new-places, colours-at-most, modes-complement, pairs-complement, capacity-complement, Small, row_small, start-corresponds}
use Rattle.second_form.proofs.Possible.{lives_at, lives-beside}

-- a marking's correspondent is a marking of the complement
pub corresponds-marking : (net : PNet) (m m' : List ℕ) → WellFormed net → Marking net m → Corresponds net m m' → Marking (complement net) m'
corresponds-marking net m m' wf h c =
    record {
      one_each = c.one_each';
      in_range = λ p l.
          ⊎_elim (λ (b : p < pairs net). rw (c.equal p b) (h.in_range p b))
          (λ r. rw (← r.4) (omega (arith, c.add_up r.0 r.1 r.2 r.3, rw r.3 at (wf.capacity_in_range r.0 r.2))))
          (original_or (K net) (pairs net) p (rw pairs-complement at l));
      within = λ p l. rw (capacity-complement net p) tt;
    }

-- the numbers at the complement of a pair of finite K
complement-small : (net : PNet) → WellFormed net → (t : Mode) (q k : ℕ) → q < pairs net → K net q ≡ fin k
    → Small (complement_entry net.rule (is_dead net t) (fin k) (row net t q))
complement-small net wf t q k h e = go (is_dead net t) refl
  where
    most : k ≤ limit
    most = rw e at (wf.capacity_in_range q h)

    go : (dead : Bool) → is_dead net t ≡ dead → Small (complement_entry net.rule dead (fin k) (row net t q))
    go true d = omega (arith, most, claim-within net.rule (row net t q), row_small net wf t q, reserve-within k (row net t q).inhibitor)
    go false d = let both = lives-beside net.rule k (row net t q) (rw e at (lives_at net t d q h)) in (omega (arith, most, both.0), omega (arith, most, both.1))

-- as many colours as a place has finite pairs, where it has any: 1 up to the place's own
abbrev Countable : ℕ → Type 0
Countable c = (1 ≤ c) × (c ≤ 64)

new-place : (colours most : ℕ) → colours ≤ most → most ≤ 64 → Each Countable (list_if (ltb 0 colours) colours)
new-place colours most h l = go (ltb 0 colours) refl
  where
    go : (b : Bool) → ltb 0 colours ≡ b → Each Countable (list_if b colours)
    go true e = (omega (arith, ltb-true 0 colours e), tt)
    go false e = tt

places : (net : PNet) → WellFormed net → Each Countable (complement net).colours
unfolding complement
places net wf =
    let old = at_each Countable 0 net.colours wf.places.each in
    each_append Countable net.colours (new_places (K net) net.colours) old
    (rw (new-places (K net) net.colours)
    (each-joined Countable (length net.colours) (new_place (K net) net.colours)
    (λ i h. new-place (new_colours (K net) net.colours i) _ (colours-at-most (K net) net.colours i h) (wf.places.each i h).1)))

module _ (net : PNet) (wf : WellFormed net) where
  -- complement numbers never pass 1,000,000
  pub small : (t : Mode) (p : ℕ) → p < all_pairs net → Small (complement_row net.rule (is_dead net t) (pairs net) (K net) (row net t) p)
  small t p h =
      ⊎_elim (λ (l : p < pairs net). rw (row-original net.rule (is_dead net t) (pairs net) (K net) (row net t) p l) (row_small net wf t p))
      (λ r.
      rw (← r.4, row-complement net.rule (is_dead net t) (pairs net) (K net) (row net t) r.0 r.1 r.2 r.3)
      (complement-small net wf t r.0 r.1 r.2 r.3))
      (original_or (K net) (pairs net) p h)

  each-arc : Each (ArcOf (complement net)) (complement net).arcs
  unfolding complement
  each-arc =
      each_row (ArcOf (complement net)) (modes net) (all_pairs net) (λ t. complement_row net.rule (is_dead net t) (pairs net) (K net) (row net t))
      (λ t p h l d.
      record {
        mode = rw modes-complement h;
        pair = rw pairs-complement l;
        pre = (small (mode_no t) p l).0;
        post = (small (mode_no t) p l).1;
        inhibitor = rw (row-uninhibited net.rule (is_dead net (mode_no t)) (pairs net) (K net) (row net (mode_no t)) p) tt;
        not_blank = not_blank_lem (complement_row net.rule (is_dead net (mode_no t)) (pairs net) (K net) (row net (mode_no t)) p) d;
      })

  start-marking : Marking (complement net) (complement net).start
  start-marking = corresponds-marking net net.start (complement net).start wf wf.start (start-corresponds net wf)

  pub numbers_in_range : NumbersInRange (complement net)
  numbers_in_range =
      let arcs = each_at (ArcOf (complement net)) _ (complement net).arcs each-arc in
      record { pre = λ k h. (arcs k h).pre; post = λ k h. (arcs k h).post; start = start-marking.in_range }

  pub complement-well_formed : sheet_limits net ≡ true → WellFormed (complement net)
  unfolding complement sheet_limits
  complement-well_formed e =
      let most = and_both (leb (length (complement net).colours) 64 && leb (pairs (complement net)) 256) _ e in
      let two = and_both (leb (length (complement net).colours) 64) _ most.0 in
      record {
        some_place = omega (arith, wf.some_place, length-append net.colours (new_places (K net) net.colours));
        places =
            record {
              many = leb-true (length (complement net).colours) 64 two.0;
              each = each_at Countable 0 (complement net).colours (places net wf);
              in_total = leb-true (pairs (complement net)) 256 two.1;
            };
        transitions = wf.transitions;
        capacities = length-replicate (all_pairs net) ∞ ∙ sym (pairs-complement net);
        capacity_in_range = λ p h. rw (capacity-complement net p) tt;
        start = start-marking;
        arc_count = leb-true (length (complement net).arcs) 2048 most.1;
        each_arc = each_at (ArcOf (complement net)) _ (complement net).arcs each-arc;
        rising = sorted-rising (complement net).arcs (sorted-rows (modes net) (all_pairs net) _);
      }
