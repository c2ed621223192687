-- A sheet is accepted if its net is well formed and its fields end where it ends.
use Prim.Native.Nat.{ℕ, zero, suc, ◌+◌, ◌-◌, ◌≤◌, ◌<◌}
use mathlib.Core.Path.{◌≡◌, refl, subst, subst₂}
use mathlib.Core.Bool.{Bool, true, false}
use mathlib.Core.List.{List}
use mathlib.Core.Logic.{◌⊎◌, ⊎_elim}
use mathlib.Core.Option.{none}
use lib.ListN.{length}
use native.Mathlib.Omega.{arith}
use native.Mathlib.Nat.{eq-or-lt_of_le}
use native.Mathlib.Numerals.{add-one}
use borrow.Author.Tests.{le-ltb, lt-ltb, eq-eqb, eqb-true}
use Rattle.model.specs.declared.Version.{Version}
use Rattle.model.specs.declared.Version.TheVariants.{One, Two}
use Rattle.model.specs.declared.Thing.TheVariants.{Net}
use Rattle.model.specs.First.{first}
use Rattle.model.specs.Numbers.{ℕ∞, fin, ∞, ◌≤∞◌, limit}
use Rattle.model.specs.Nets.{pairs, arc_no}
use Rattle.model.specs.WellFormed.{InRange, Blank, ArcOf, Rises, Counted, WellFormed}
use Rattle.model.proofs.Both.{and_both}
use Rattle.model.proofs.First.{none_then, first-all}
use Rattle.model.proofs.Numbers.{false_above}
use Rattle.heads.specs.Bytes.{byte_at, u16_at, u32_at}
use Rattle.heads.specs.Layout.{sheet_end, version, rule_at, count_at, counts, total_of, places_at, transitions_at, colours_at, place_count, transition_count, modes_at, mode_count, pair_count, pairs_offset, pair_at, arc_count_at, arc_count, arcs_offset, arc_at, arc_tail_at, arc_pair_at, tail_inhibitor_at, capacity_at, start_at, group_arc_at, arcs_after, arcs_before, group_at, group_count}
use Rattle.heads.specs.Version.{version_of}
use Rattle.heads.specs.Checks.{known}
use Rattle.fields.specs.Numbers.{bound, outside}
use Rattle.fields.specs.Fields.{running_refusal, each_count, count_fields, pair_refusal}
use Rattle.sheets.specs.nets.Tails.{tail_blank}
use Rattle.sheets.specs.nets.Groups.{group_fields}
use Rattle.sheets.specs.nets.Nets.{rises_to, arc_fields, arc_section, pair_and_arc_fields, net_fields, net_refusal}
use Rattle.heads.specs.Held.{Headed}
use Rattle.sheets.specs.Decoded.{net_arc_in, net_arc_at, arcs_of, net_of}
use Rattle.fields.proofs.Bounds.{bound-unbounded}
use Rattle.fields.proofs.RunningTotals.{total-more}
use Rattle.sheets.proofs.nets.TailsRead.{TailRead}
use Rattle.sheets.proofs.nets.GroupsRead.{before-next, GroupArcRead}
use Rattle.sheets.proofs.nets.Valid.{ArcRead}
use Rattle.sheets.proofs.Meaning.{counts-length, counts-at, pairs-are, modes-are, capacity-at, start-at, arcs-length, arc-at, arcs-two}
use Rattle.sheets.proofs.GroupArcs.{group_arcs-length, arc-is}
use Rattle.sheets.proofs.written.Accepts.{head-accepts, rule-accepts, count-accepts, running-accepts, pair-accepts, arc-accepts, group_accepts}
use Rattle.sheets.proofs.written.NetStands.{arcs_end, arcs-end}

-- the tests of a number, of an arc that rises and of one that is not blank, from what they test
outside_not : (k : ℕ∞) → InRange k → outside k ≡ false
outside_not (fin n) h = le-ltb limit n h
outside_not ∞ h = refl

-- arcs of one mode that rise, rise by their pairs
within-mode : (t p q : ℕ) → (t < t) ⊎ ((t ≡ t) × (p < q)) → p < q
within-mode t p q h = ⊎_elim (λ (l : t < t). absurd (omega arith)) (λ (e : (t ≡ t) × (p < q)). e.1) h

module _ (s : List ℕ) where
  rises : (before at : ℕ) → Rises (net_arc_at s before) (net_arc_at s at) → rises_to s before at ≡ true
  unfolding rises_to net_arc_in
  rises before at h =
      ⊎_elim (λ (l : u16_at s before < u16_at s at). rw (lt-ltb (u16_at s before) (u16_at s at) l))
      (λ (e : (u16_at s before ≡ u16_at s at) × (u16_at s (arc_pair_at before) < u16_at s (arc_pair_at at))).
      rw
      (le-ltb (u16_at s before) (u16_at s at) (omega arith), eq-eqb (u16_at s before) (u16_at s at) e.0, lt-ltb (u16_at s (arc_pair_at before)) (u16_at s (arc_pair_at at)) e.1))
      h

  blank_not : (t tail : ℕ) → ¬ Blank (net_arc_in s t tail).entry → tail_blank s tail ≡ false
  unfolding tail_blank net_arc_in
  blank_not t tail h = go (tail_blank s tail) refl
    where
      go : (b : Bool) → tail_blank s tail ≡ b → tail_blank s tail ≡ false
      go false e = e
      go true e =
          let inhibitor = and_both _ _ e in
          let numbers = and_both _ _ inhibitor.0 in
          absurd
          (h
          (record { pre = eqb-true _ _ numbers.0; post = eqb-true _ _ numbers.1; inhibitor = bound-unbounded _ (eqb-true _ _ inhibitor.1) }))

  tail_of : (t tail : ℕ) → ArcOf (net_of s) (net_arc_in s t tail) → TailRead s tail
  unfolding net_arc_in
  tail_of t tail of =
      record { pre = of.pre; post = of.post; inhibitor = outside_not (bound (u32_at s (tail_inhibitor_at tail))) of.inhibitor; not_blank = blank_not t tail of.not_blank }

  total_grows : (start i n : ℕ) → i ≤ n → total_of s start i ≤ total_of s start n
  total_grows start i zero h = let e : i ≡ 0 = omega arith in rw e (omega arith)
  total_grows start i (suc n) h =
      ⊎_elim (λ (e : i ≡ suc n). rw e (omega arith))
      (λ (l : i < suc n).
      let more : total_of s start (suc n) ≡ total_of s start n + u16_at s (count_at start n) = rw (← add-one n) (total-more s start n) in
      omega (arith, total_grows start i n (omega arith)))
      (eq-or-lt_of_le h)

  counts_accept : (start n : ℕ) → Counted (counts s start n) → count_at start n ≤ sheet_end s → first n (running_refusal s start) ≡ none
  counts_accept start n counted there =
      first-all n _
      (λ i h.
      let each = counted.each i (rw counts-length h) in
      let value = counts-at s start n i h in
      running-accepts s start i
      (record {
        count = record { there = omega arith; least = omega arith; most = omega arith };
        in_total = omega (arith, total_grows start (i + 1) n (omega arith), counted.in_total);
      }))

module _ (s : List ℕ) (well : WellFormed (net_of s)) (ends : arcs_end (version_of s) s ≡ sheet_end s) where
  -- the arcs come last
  arcs-there : arc_count_at s ≤ sheet_end s
  arcs-there = omega (arith, arcs-end (version_of s) s refl)

  counts-read : count_fields s ≡ none
  unfolding count_fields each_count net_of
  counts-read =
      let places = counts-length s (colours_at s) (place_count s) in
      let transitions = counts-length s (modes_at s) (transition_count s) in
      none_then
      (count-accepts s (places_at s) 1 64
      (record { there = omega (arith, arcs-there); least = omega (arith, well.some_place); most = omega (arith, well.places.many) }))
      (none_then
      (count-accepts s (transitions_at s) 0 64 (record { there = omega (arith, arcs-there); least = omega arith; most = omega (arith, well.transitions.many) }))
      (none_then (counts_accept s (colours_at s) (place_count s) well.places (omega (arith, arcs-there)))
      (counts_accept s (modes_at s) (transition_count s) well.transitions (omega (arith, arcs-there)))))

  pair_read : (p : ℕ) → p < pair_count s → pair_refusal s (pair_at (pairs_offset s) p) ≡ none
  pair_read p h =
      let at = pair_at (pairs_offset s) p in
      let k = bound (u32_at s (capacity_at at)) in
      let q : p < pairs (net_of s) = rw pairs-are h in
      pair-accepts s at
      (record { there = omega (arith, arcs-there); in_range = outside_not k (subst InRange (capacity-at s p h) (well.capacity_in_range p q)) })
      (record {
        there = omega (arith, arcs-there);
        in_range = omega (arith, start-at s p h, well.start.in_range p q);
        within = false_above (u32_at s (start_at at)) k (subst₂ ◌≤∞◌ (start-at s p h) (capacity-at s p h) (well.start.within p q));
      })

  -- version 1
  module _ (one : version_of s ≡ One) (end : arc_at (arcs_offset s) (arc_count s) ≡ sheet_end s) where
    arc-read : (k : ℕ) → k < arc_count s → ArcRead s (mode_count s) (pair_count s) (arcs_offset s) k
    unfolding net_arc_in
    arc-read k h =
        let at = arc_at (arcs_offset s) k in
        let i : k < length (net_of s).arcs = omega (arith, arcs-length s one) in
        let of : ArcOf (net_of s) (net_arc_at s at) = subst (ArcOf (net_of s)) (arc-at s one k h) (well.each_arc k i) in
        record {
          there = omega arith;
          mode = rw modes-are at of.mode;
          pair = rw pairs-are at of.pair;
          rises =
              λ l.
              let j = k - 1 in
              let before : j < arc_count s = omega arith in
              let e : j + 1 ≡ k = omega arith in
              let this : arc_no (net_of s).arcs (j + 1) ≡ net_arc_at s at = rw e (arc-at s one k h) in
              rises s (arc_at (arcs_offset s) j) at (subst₂ Rises (arc-at s one j before) this (well.rising j (omega arith)));
          tail = tail_of s _ (arc_tail_at at) of;
        }

    arcs-read : arc_fields s (mode_count s) (pair_count s) (arc_count_at s) ≡ none
    unfolding arc_fields arc_count
    arcs-read =
        none_then
        (count-accepts s (arc_count_at s) 0 2048 (record { there = omega arith; least = omega arith; most = omega (arith, arcs-length s one, well.arc_count) }))
        (none_then (first-all _ _ (λ k h. arc-accepts s _ _ _ k (arc-read k h))) (rw (le-ltb (arc_at (arcs_offset s) (arc_count s)) (sheet_end s) (omega arith))))

  -- version 2
  module _ (two : version_of s ≡ Two) (end : group_at s (arc_count_at s) (mode_count s) ≡ sheet_end s) where
    arcs-are : (n : ℕ) → n ≡ mode_count s → (net_of s).arcs ≡ arcs_of s (arc_count_at s) n
    arcs-are n e = rw e (arcs-two s two)

    before_grows : (t m n : ℕ) → t + m ≡ n → arcs_before s (arc_count_at s) t ≤ arcs_before s (arc_count_at s) n
    before_grows t zero n e = let q : t ≡ n = omega arith in rw q (omega arith)
    before_grows t (suc m) n e = omega (arith, before-next s (arc_count_at s) t, before_grows (suc t) m n (omega arith))

    in_total_lem : (t : ℕ) → t < mode_count s → arcs_before s (arc_count_at s) t + group_count s (arc_count_at s) t ≤ arcs_before s (arc_count_at s) (mode_count s)
    in_total_lem t h = omega (arith, before-next s (arc_count_at s) t, before_grows (suc t) (mode_count s - suc t) (mode_count s) (omega arith))

    -- the i-th arc of mode t, in the net
    arc-of : (t i : ℕ) → t < mode_count s → i < group_count s (arc_count_at s) t
        → arc_no (net_of s).arcs (arcs_before s (arc_count_at s) t + i) ≡ net_arc_in s t (group_arc_at (arcs_after (group_at s (arc_count_at s) t)) i)
    arc-of t i h l = rw (arcs-are (suc t + (mode_count s - suc t)) (omega arith)) (arc-is s (arc_count_at s) t (mode_count s - suc t) i l)

    arcs-many : length (net_of s).arcs ≡ arcs_before s (arc_count_at s) (mode_count s)
    arcs-many = rw (arcs-are (mode_count s) refl) (group_arcs-length s (arc_count_at s) (mode_count s))

    group_arc-read : (t i : ℕ) → t < mode_count s → i < group_count s (arc_count_at s) t → GroupArcRead s (pair_count s) (arcs_after (group_at s (arc_count_at s) t)) i
    unfolding net_arc_in
    group_arc-read t i h l =
        let k = arcs_before s (arc_count_at s) t + i in
        let at = group_arc_at (arcs_after (group_at s (arc_count_at s) t)) i in
        let inside : k < length (net_of s).arcs = omega (arith, arcs-many, in_total_lem t h) in
        let of : ArcOf (net_of s) (net_arc_in s t at) = subst (ArcOf (net_of s)) (arc-of t i h l) (well.each_arc k inside) in
        record {
          there = omega (arith, in_total_lem t h);
          pair = rw pairs-are at of.pair;
          rises =
              λ p.
              let j = i - 1 in
              let e : arcs_before s (arc_count_at s) t + j + 1 ≡ k = omega arith in
              let this : arc_no (net_of s).arcs (arcs_before s (arc_count_at s) t + j + 1) ≡ net_arc_in s t at = rw e (arc-of t i h l) in
              within-mode _ _ _ (subst₂ Rises (arc-of t j h (omega arith)) this (well.rising (arcs_before s (arc_count_at s) t + j) (omega arith)));
          tail = tail_of s t at of;
        }

    groups_read : group_fields s (pair_count s) (mode_count s) (arc_count_at s) ≡ none
    unfolding group_fields
    groups_read =
        none_then
        (first-all _ _
        (λ t h.
        group_accepts s (pair_count s) (arc_count_at s) t
        (record {
          there = omega (arith, in_total_lem t h);
          in_total = omega (arith, in_total_lem t h, arcs-many, well.arc_count);
          arcs = λ i l. group_arc-read t i h l;
        })))
        (rw (le-ltb (group_at s (arc_count_at s) (mode_count s)) (sheet_end s) (omega arith)))

  section_by : (v : Version) → version_of s ≡ v → arcs_end v s ≡ sheet_end s → arc_section v s (mode_count s) (pair_count s) (arc_count_at s) ≡ none
  unfolding arc_section
  section_by One v end = arcs-read v end
  section_by Two v end = groups_read v end

  pub net-accepts : Headed s → known Net (version s) ≡ true → rule_at + 1 ≤ sheet_end s → (version_of s ≡ Two → byte_at s rule_at ≤ 1) → net_refusal s ≡ none
  unfolding net_refusal net_fields pair_and_arc_fields
  net-accepts headed v there rule =
      none_then (head-accepts s headed v)
      (none_then (rule-accepts s (version_of s) there rule) (none_then counts-read (none_then (first-all _ _ pair_read) (section_by (version_of s) refl ends))))
