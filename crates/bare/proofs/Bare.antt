-- Of the new modes the one that the count numbers is enabled, and it leaves the pair bare.
use Prim.Native.Nat.{ℕ, ◌+◌, ◌≤◌, ◌<◌}
use mathlib.Core.Path.{◌≡◌, refl, sym, ◌∙◌, subst}
use mathlib.Core.Bool.{Bool, true, false, cond}
use mathlib.Core.List.{List}
use mathlib.Core.Logic.{◌≢◌, ⊎_elim}
use mathlib.Core.Option.{none}
use lib.Dec.{eqb}
use lib.ListN.{get_or-eq_default}
use native.Mathlib.Omega.{arith}
use borrow.Author.Tests.{eqb-true, eq-eqb, ne_eqb}
use Rattle.model.specs.declared.Pair.{Pair}
use Rattle.model.specs.declared.Thing.{Thing}
use Rattle.model.specs.Numbers.{◌≤∞◌, limit}
use Rattle.model.specs.Rows.{Entry, no_arc}
use Rattle.model.specs.Nets.{PNet, pairs, K, count, row}
use Rattle.model.specs.Markings.{Marking}
use Rattle.model.specs.WellFormed.{WellFormed}
use Rattle.model.specs.Firing.{after, room_for, mode_refusal, fired}
use Rattle.model.proofs.First.{below_or}
use Rattle.model.proofs.Numbers.{le_le∞}
use Rattle.movement.proofs.Rooms.{within-room}
use Rattle.model.proofs.Firing.{accepted-passes, passes-accepted}
use Rattle.movement.proofs.Markings.{fired-at, fired-length}
use Rattle.bare.specs.Strip.{strip_entry, new_mode, strip}
use Rattle.bare.specs.Promises.{BareAfter}
use Rattle.bare.proofs.Arcs.{same-pairs, modes-many, new_row}

module _ (net : PNet) (p : Pair) (k : ℕ) (well : WellFormed net) (there : p.0 < pairs net) (m : List ℕ) (marking : Marking net m) where
  -- what holds of Pre n and I n at the pair, and of no arc elsewhere, holds of the new mode's row
  by-entry : (P : Entry → Type 0) (n q : ℕ) → n ≤ k → (p.0 ≡ q → P (strip_entry n)) → P no_arc → P (row (strip net p k) (new_mode net n) q)
  by-entry P n q h own elsewhere = subst P (sym (new_row net p k well n q h)) (go (eqb p.0 q) refl)
    where
      go : (b : Bool) → eqb p.0 q ≡ b → P (cond b (strip_entry n) no_arc)
      go true e = own (eqb-true p.0 q e)
      go false e = elsewhere

  own-entry : (n : ℕ) → n ≤ k → row (strip net p k) (new_mode net n) p.0 ≡ strip_entry n
  own-entry n h = new_row net p k well n p.0 h ∙ rw (eq-eqb p.0 p.0 refl) refl

  other-entry : (n q : ℕ) → n ≤ k → q ≢ p.0 → row (strip net p k) (new_mode net n) q ≡ no_arc
  other-entry n q h d = new_row net p k well n q h ∙ rw (ne_eqb p.0 q (λ e. d (sym e))) refl

  still_there : (q : ℕ) → q < pairs net → q < pairs (strip net p k)
  still_there q l = rw (same-pairs net p k) l

  module _ (about : Thing) (n : ℕ) (h : n ≤ k) where
    -- Pre n lets it go from n tokens on, and I n up to n
    enabled-counted : mode_refusal about (strip net p k) (new_mode net n) m ≡ none → n ≡ count m p.0
    enabled-counted e =
        let passes = accepted-passes about (strip net p k) (new_mode net n) m e in
        let inside = still_there p.0 there in
        let enough : n ≤ count m p.0 = subst (λ entry. entry.pre ≤ count m p.0) (own-entry n h) (passes.enough p.0 inside) in
        let low = subst (λ entry. count m p.0 ≤∞ entry.inhibitor) (own-entry n h) (passes.low p.0 inside) in
        omega (arith, enough, low)

    counted-enabled : n ≡ count m p.0 → mode_refusal about (strip net p k) (new_mode net n) m ≡ none
    unfolding strip
    counted-enabled e =
        passes-accepted about (strip net p k) (new_mode net n) m (omega (arith, modes-many net p k))
        (record {
          enough = λ q l. by-entry (λ entry. entry.pre ≤ count m q) n q h (λ d. rw (← d) (omega arith)) (omega arith);
          room = λ q l.
              let held = le_le∞ (count m q + 0) (count m q) (K net q) (omega arith) (marking.within q l) in
              by-entry (λ entry. count m q + entry.post ≤∞ room_for net.rule (K net q) entry.pre) n q h (λ d. within-room net.rule (K net q) n (count m q + 0) held)
              (within-room net.rule (K net q) 0 (count m q + 0) held);
          low = λ q l. by-entry (λ entry. count m q ≤∞ entry.inhibitor) n q h (λ d. rw (← d) (omega arith)) tt;
          small = λ q l.
              by-entry (λ entry. after entry (count m q) ≤ limit) n q h (λ d. omega (arith, marking.in_range q l)) (omega (arith, marking.in_range q l));
        })

  module _ (few : count m p.0 ≤ k) where
    leaves_none : count (fired (strip net p k) (new_mode net (count m p.0)) m) p.0 ≡ 0
    leaves_none =
        fired-at (strip net p k) (new_mode net (count m p.0)) m p.0 (still_there p.0 there) ∙ rw (own-entry (count m p.0) few) (omega arith)

    keeps_others : (q : ℕ) → q ≢ p.0 → count (fired (strip net p k) (new_mode net (count m p.0)) m) q ≡ count m q
    keeps_others q d =
        ⊎_elim
        (λ (l : q < pairs net).
        fired-at (strip net p k) (new_mode net (count m p.0)) m q (still_there q l) ∙ rw (other-entry (count m p.0) q few d) (omega arith))
        (λ (l : pairs net ≤ q).
        get_or-eq_default (fired (strip net p k) (new_mode net (count m p.0)) m) 0 (omega (arith, fired-length (strip net p k) (new_mode net (count m p.0)) m, same-pairs net p k))
        ∙ sym (get_or-eq_default m 0 (omega (arith, marking.one_each))))
        (below_or q (pairs net))

pub bare-after : BareAfter
bare-after net p k well there bounded m marking =
    let few : count m p.0 ≤ k = subst (λ b. count m p.0 ≤∞ b) bounded (marking.within p.0 there) in
    record {
      counted = few;
      enabled = λ about n h. (enabled-counted net p k well there m marking about n h, counted-enabled net p k well there m marking about n h);
      bare = leaves_none net p k well there m marking few;
      others = keeps_others net p k well there m marking few;
    }
