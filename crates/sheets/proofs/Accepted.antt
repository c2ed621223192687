-- An accepted net sheet means a well-formed net.
use Prim.Native.Nat.{ℕ, ◌+◌, ◌-◌, ◌≤◌, ◌<◌}
use mathlib.Core.Path.{◌≡◌, refl, sym, ◌∙◌, subst}
use mathlib.Core.Bool.{Bool, true, false, ◌&&◌, ◌||◌}
use mathlib.Core.List.{List}
use mathlib.Core.Logic.{◌⊎◌, inl, inr}
use mathlib.Core.Option.{none}
use lib.Dec.{ltb, eqb}
use lib.ListN.{length}
use native.Mathlib.Omega.{arith}
use borrow.Author.Tests.{ltb-true, ltb-false, eqb-true, eq-eqb}
use Rattle.model.specs.declared.Version.{Version}
use Rattle.model.specs.declared.Version.TheVariants.{One, Two}
use Rattle.model.specs.Numbers.{ℕ∞, fin, ∞}
use Rattle.model.specs.Nets.{NetArc, K, count, arc_no}
use Rattle.model.specs.WellFormed.{InRange, Blank, ArcOf, Rises, Counted}
use Rattle.model.proofs.Numbers.{above_false}
use Rattle.movement.proofs.Nets.{Rising}
use Rattle.movement.proofs.Each.{Each, each_at}
use Rattle.heads.specs.Bytes.{u16_at}
use Rattle.heads.specs.Layout.{total_of, counts, pair_count, mode_count, arc_count_at, arc_count, arcs_offset, arc_at, arc_tail_at, tail_pair_at}
use Rattle.heads.specs.Version.{version_of}
use Rattle.fields.specs.Numbers.{bound, outside}
use Rattle.sheets.specs.nets.Tails.{tail_blank}
use Rattle.sheets.specs.nets.Nets.{rises_to, net_refusal}
use Rattle.sheets.specs.Decoded.{net_arc_in, net_arc_at, arcs_of, net_of}
use Rattle.sheets.specs.Accepted.{AcceptedNet}
use Rattle.fields.proofs.RunningTotals.{RunningRead}
use Rattle.fields.proofs.BoundNumbers.{unbounded-only}
use Rattle.sheets.proofs.nets.TailsRead.{TailRead}
use Rattle.sheets.proofs.nets.GroupsRead.{within}
use Rattle.sheets.proofs.nets.Valid.{counts_hold, colours_hold, modes_hold, capacity-holds, start-holds, arcs-within, arc-holds, groups_hold}
use Rattle.sheets.proofs.Meaning.{counts-length, counts-at, colours-are, modes-of-are, pairs-are, modes-are, capacities-length, capacity-at, start-length, start-at, arcs-length, arc-at, arcs-two}
use Rattle.sheets.proofs.GroupArcs.{group_arcs-length, arcs-rising, each-arcs}

in_range_lem : (x : ℕ) → outside (bound x) ≡ false → InRange (bound x)
in_range_lem x = go (bound x)
  where
    go : (b : ℕ∞) → outside b ≡ false → InRange b
    go (fin n) e = ltb-false _ _ e
    go ∞ e = tt

counts-counted : (s : List ℕ) (start n : ℕ) → n ≤ 64 → total_of s start n ≤ 256 → ((i : ℕ) → i < n → RunningRead s start i) → Counted (counts s start n)
counts-counted s start n h within each =
    record {
      many = rw counts-length h;
      each =
          λ i l.
          let i<n : i < n = omega (arith, counts-length s start n) in
          rw (counts-at s start n i i<n) ((each i i<n).count.least, (each i i<n).count.most);
      in_total = within;
    }

-- "by mode, then pair"
by_both : (a b c d : ℕ) → ltb a b || (eqb a b && ltb c d) ≡ true → (a < b) ⊎ ((a ≡ b) × (c < d))
by_both a b c d e = go (ltb a b) refl (eqb a b) refl
  where
    go : (t : Bool) → ltb a b ≡ t → (u : Bool) → eqb a b ≡ u → (a < b) ⊎ ((a ≡ b) × (c < d))
    go true l u q = inl (ltb-true a b l)
    go false l true q = inr (eqb-true a b q, ltb-true c d (rw (l, q) at e))
    go false l false q = let z : false ≡ true = rw (l, q) at e in let y : ◌≡◌ {A = ℕ} 0 1 = cc in absurd (omega arith)

rises-is : (s : List ℕ) (before at : ℕ) → rises_to s before at ≡ true → Rises (net_arc_at s before) (net_arc_at s at)
unfolding rises_to net_arc_in
rises-is s before at e = by_both _ _ _ _ e

not_blank_lem : (s : List ℕ) (t tail : ℕ) → tail_blank s tail ≡ false → ¬ Blank (net_arc_in s t tail).entry
unfolding tail_blank net_arc_in
not_blank_lem s t tail e b =
    let t : true ≡ false = rw (eq-eqb _ _ b.pre, eq-eqb _ _ b.post, eq-eqb _ _ (unbounded-only _ b.inhibitor)) at e in
    let z : ◌≡◌ {A = ℕ} 0 1 = cc in
    omega arith

arc-of : (s : List ℕ) (t tail : ℕ) → t < mode_count s → u16_at s (tail_pair_at tail) < pair_count s → TailRead s tail → ArcOf (net_of s) (net_arc_in s t tail)
unfolding net_arc_in
arc-of s t tail mode pair numbers =
    record {
      mode = rw modes-are mode;
      pair = rw pairs-are pair;
      pre = numbers.pre;
      post = numbers.post;
      inhibitor = in_range_lem _ numbers.inhibitor;
      not_blank = not_blank_lem s t tail numbers.not_blank;
    }

-- what is asked of a net's arcs
record Arcs (s : List ℕ) (arcs : List NetArc) : Type 0 where
  few : length arcs ≤ 2048
  each : (k : ℕ) → k < length arcs → ArcOf (net_of s) (arc_no arcs k)
  rising : Rising arcs

module _ (s : List ℕ) (accepted : net_refusal s ≡ none) where
  arcs-by : (v : Version) → version_of s ≡ v → Arcs s (net_of s).arcs
  arcs-by One v =
      record {
        few = rw (arcs-length s v) (arcs-within s accepted v);
        each =
            λ k h.
            let l : k < arc_count s = omega (arith, arcs-length s v) in
            let arc = arc-holds s accepted v k l in
            rw (arc-at s v k l) (arc-of s _ (arc_tail_at (arc_at (arcs_offset s) k)) arc.mode arc.pair arc.tail);
        rising =
            λ k h.
            let l : k + 1 < arc_count s = omega (arith, arcs-length s v) in
            let e : k + 1 - 1 ≡ k = omega arith in
            rw (arc-at s v k (omega arith), arc-at s v (k + 1) l)
            (rises-is s _ _ (rw e at ((arc-holds s accepted v (k + 1) l).rises (omega arith))));
      }
  arcs-by Two v =
      let base = arc_count_at s in
      let n = mode_count s in
      let read = groups_hold s accepted v in
      let all : Each (ArcOf (net_of s)) (arcs_of s base n) =
      each-arcs s base (ArcOf (net_of s)) n
      (λ t h i l. let arc = (read t h).arcs i l in arc-of s t _ h arc.pair arc.tail) in
      subst (Arcs s) (sym (arcs-two s v))
      (record {
        few = rw (group_arcs-length s base n) (within s (pair_count s) base n read);
        each = each_at (ArcOf (net_of s)) _ (arcs_of s base n) all;
        rising = arcs-rising s base (pair_count s) n read;
      })

  arcs : Arcs s (net_of s).arcs
  arcs = arcs-by (version_of s) refl

pub well_formed_lem : AcceptedNet
unfolding pair_count mode_count
well_formed_lem s accepted =
    record {
      some_place = rw (colours-are, counts-length) (counts_hold s accepted).sized.some_place;
      places = rw colours-are (counts-counted s _ _ (counts_hold s accepted).sized.places (counts_hold s accepted).pairs (colours_hold s accepted));
      transitions = rw modes-of-are (counts-counted s _ _ (counts_hold s accepted).sized.transitions (counts_hold s accepted).modes (modes_hold s accepted));
      capacities = capacities-length s ∙ sym (pairs-are s);
      capacity_in_range =
          λ p h.
          let l : p < pair_count s = omega (arith, pairs-are s) in
          rw (capacity-at s p l) (in_range_lem _ (capacity-holds s accepted p l).in_range);
      start =
          record {
            one_each = start-length s ∙ sym (pairs-are s);
            in_range = λ p h. let l : p < pair_count s = omega (arith, pairs-are s) in rw (start-at s p l) (start-holds s accepted p l).in_range;
            within =
                λ p h.
                let l : p < pair_count s = omega (arith, pairs-are s) in
                above_false (count (net_of s).start p) (K (net_of s) p) (rw (start-at s p l, capacity-at s p l) (start-holds s accepted p l).within);
          };
      arc_count = (arcs s accepted).few;
      each_arc = (arcs s accepted).each;
      rising = (arcs s accepted).rising;
    }
