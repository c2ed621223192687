-- Each chain of checks is read off its table.
use Prim.Native.Nat.{ℕ, suc, ◌+◌, ◌*◌, ◌-◌, ◌<◌}
use mathlib.Core.Path.{◌≡◌, refl, ap, subst}
use mathlib.Core.Bool.{Bool, true, false, not, false≢true, cond}
use mathlib.Core.List.{List}
use mathlib.Core.Logic.{inl, inr, ⊎_elim, ◌≢◌}
use mathlib.Core.Option.{Option}
use lib.Dec.{ltb, eqb, lt→ltb, ltb→lt}
use lib.ListN.{length}
use lib.IntN.{ℤ, pos, negsuc, nat_abs}
use lib.Signed.{lt_z_yes}
use native.Mathlib.Omega.{arith}
use borrow.Author.Tests.{eqb-true, eqb-false}
use Rattle.model.specs.declared.Thing.{Thing}
use Rattle.model.specs.declared.Thing.TheVariants.{Net, Weights, Movements}
use Rattle.model.specs.declared.Refusal.{Refusal}
use Rattle.model.specs.declared.Fault.TheVariants.{CutShort}
use Rattle.model.specs.declared.Version.{Version}
use Rattle.model.specs.declared.Version.TheVariants.{One, Two}
use Rattle.model.specs.First.{◌▸◌, first, only_if}
use Rattle.model.specs.Numbers.{fin, ∞, limit}
use Rattle.model.specs.RefusalTables.{row, ◌then◌, Reads}
use Rattle.model.proofs.First.{then_assoc}
use Rattle.model.proofs.Decisions.{Decided, by_less, by-at-most, by_equal, by-above, by_not, by_or, by_and, by-other}
use Rattle.model.proofs.RefusalTables.{reads-row, reads_plain, reads_then, reads-each, reads-either}
use Rattle.heads.specs.Bytes.{byte_at, u16_at, u32_at}
use Rattle.heads.specs.Layout.{body_length, sheet_end, weight_count_at, version, count_at, total_of, pair_at, tail_size, arc_at, arc_size, arc_tail_at, group_arc_at, arc_count_at, arcs_after, rule_at, places_at, transitions_at, place_count, transition_count, colours_at, modes_at, pair_count, pairs_offset, mode_count, arcs_before, group_at, group_count, movement_count, movement_at, weight_count, weight_at}
use Rattle.heads.specs.Version.{version_of}
use Rattle.heads.specs.Checks.{known, head_refusal, missing, left_over, count_refusal}
use Rattle.model.specs.Refusals.{wrong, thing_number, carries}
use Rattle.sheets.specs.lists.Movements.{most_movements, movement_fields, movements_refusal}
use Rattle.sheets.specs.lists.Weights.{signed, weight_refusal, weight_fields, weights_refusal}
use Rattle.fields.specs.Numbers.{unbounded, bound, outside}
use Rattle.fields.specs.Fields.{running_refusal, capacity_refusal, start_refusal, pair_refusal, each_count, count_fields}
use Rattle.sheets.specs.nets.Tails.{tail_blank, tail_numbers}
use Rattle.sheets.specs.nets.Groups.{pair_not_rising, pair_name_refusal, group_arc_refusal, group_refusal, group_fields}
use Rattle.sheets.specs.nets.Nets.{rises_to, not_rising, arc_names_refusal, arc_refusal, arc_fields, arc_section, rule_field, pair_and_arc_fields, net_fields, net_refusal}
use Rattle.sheets.specs.RefusalTables.{head_table, past_end, left_after, count_table, movement_table, WeightOutside, weight_table, running_table, pair_table, tail_table, Higher, arc_names_table, arc_table, group_arc_table, group_table, counts_table, pairs_table, fields_table, net_table, SheetTables}

module _ (thing : Thing) (s : List ℕ) where
  head-reads : {P : Type 0} → Decided (not (known thing (version s))) P → Reads (head_table (thing_number thing) s P) (head_refusal thing s)
  unfolding head_refusal
  head-reads {P} unknown =
      subst (Reads (head_table (thing_number thing) s P)) (then_assoc (only_if (ltb (length s) 4) (wrong thing CutShort)) _ _)
      (reads_then (reads-either (wrong thing CutShort) (by_less (length s) 4) (by_less (length s) (sheet_end s)))
      (reads_then (reads_plain _ (by_equal (body_length s) 0)) (reads_plain _ unknown)))

  past-reads : (at size : ℕ) → Reads (past_end (thing_number thing) s at size) (missing thing s at size)
  past-reads at size = reads_plain _ (by_less (sheet_end s) (at + size))

  left-reads : (at : ℕ) → Reads (left_after (thing_number thing) s at) (left_over thing s at)
  left-reads at = reads_plain _ (by_less at (sheet_end s))

  count-reads : (at low high : ℕ) → Reads (count_table (thing_number thing) s at low high) (count_refusal thing s at low high)
  unfolding count_refusal
  count-reads at low high = reads_then (past-reads at 2) (reads_plain _ (by_or (by_less (u16_at s at) low) (by_less high (u16_at s at))))

-- L - 1 bytes of modes, two each, and one more
lone : (s : List ℕ) → Decided (ltb (movement_at (movement_count s)) (sheet_end s)) ((k : ℕ) × (body_length s ≡ 2 * k + 2))
lone s =
    by-other (by_less (movement_at (movement_count s)) (sheet_end s)) (λ l. (movement_count s, omega arith)) (λ e. omega (arith, e.1))

movement-reads : (s : List ℕ) → Reads (movement_table s) (movements_refusal s)
unfolding movement_table movements_refusal movement_fields known
movement-reads s =
    reads_then (head-reads Movements s (by_not (by_equal (version s) 1)))
    (reads_then (reads-row _ (lone s) (λ e. ap (λ (at : ℕ). carries 3 2 at) (omega (arith, e.1))))
    (reads_plain _ (by_less most_movements (movement_count s))))

weight-outside : (z : ℤ) → Decided (ltb limit (nat_abs z)) (WeightOutside z)
weight-outside (pos n) =
    by-other (by_less limit n) (λ l. inr (lt_z_yes (lt→ltb limit n l)))
    (elim [ inl below ↦ absurd below.lt | inr over ↦ ltb→lt limit n over.lt ])
weight-outside (negsuc n) =
    by-other (by_less limit (suc n)) (λ l. inl (lt_z_yes (lt→ltb 999999 n (omega arith))))
    (elim [ inl below ↦ omega (arith, ltb→lt 999999 n below.lt) | inr over ↦ absurd over.lt ])

weight-row : (s : List ℕ) (at : ℕ)
    → Reads (past_end 1 s at 4 then row (WeightOutside (signed (u32_at s at))) (carries 5 1 at)) (weight_refusal s at)
unfolding weight_refusal
weight-row s at = reads_then (past-reads Weights s at 4) (reads_plain _ (weight-outside (signed (u32_at s at))))

weight-reads : (pairs : ℕ) (s : List ℕ) → Reads (weight_table pairs s) (weights_refusal pairs s)
unfolding weight_table weights_refusal weight_fields known
weight-reads pairs s =
    reads_then (head-reads Weights s (by_not (by_equal (version s) 1)))
    (reads_then (past-reads Weights s weight_count_at 2)
    (reads_then (reads_plain _ (by_not (by_equal (weight_count s) pairs)))
    (reads_then (reads-each (weight_count s) (λ p l. weight-row s (weight_at p)))
    (left-reads Weights s (weight_at (weight_count s))))))

-- 4,294,967,295 is the one number above the limit that a K or I may have
bound-outside : (x : ℕ) → Decided (outside (bound x)) ((limit < x) × (x ≢ unbounded))
unfolding bound
bound-outside x = go (eqb x unbounded) refl
  where
    go : (b : Bool) → eqb x unbounded ≡ b → Decided (outside (cond (eqb x unbounded) ∞ (fin x))) ((limit < x) × (x ≢ unbounded))
    go true e = rw e (record { sound = λ f. absurd (false≢true f); complete = λ h. absurd (h.1 (eqb-true x unbounded e)) })
    go false e = rw e (by-other (by_less limit x) (λ l. (l, eqb-false x unbounded e)) (λ h. h.0))

module _ (s : List ℕ) where
  running-reads : (start i : ℕ) → Reads (running_table s start i) (running_refusal s start i)
  unfolding running_refusal
  running-reads start i = reads_then (count-reads Net s (count_at start i) 1 64) (reads_plain _ (by_less 256 (total_of s start (i + 1))))

  pair_reads : (at : ℕ) → Reads (pair_table s at) (pair_refusal s at)
  unfolding pair_refusal capacity_refusal start_refusal
  pair_reads at =
      reads_then (reads_then (past-reads Net s at 4) (reads_plain _ (bound-outside (u32_at s at))))
      (reads_then (past-reads Net s (at + 4) 4)
      (reads_then (reads_plain _ (by_less limit (u32_at s (at + 4)))) (reads_plain _ (by-above (u32_at s (at + 4)) (bound (u32_at s at))))))

  rises : (before at : ℕ) → Decided (rises_to s before at) (Higher s before at)
  unfolding rises_to
  rises before at =
      by_or (by_less (u16_at s before) (u16_at s at))
      (by_and (by_equal (u16_at s before) (u16_at s at)) (by_less (u16_at s (before + 2)) (u16_at s (at + 2))))

  names_reads : (start k : ℕ) → Reads (arc_names_table s start k) (arc_names_refusal s (mode_count s) (pair_count s) start k)
  unfolding arc_names_refusal not_rising
  names_reads start k =
      reads_then (reads_plain _ (by-at-most (mode_count s) (u16_at s (arc_at start k))))
      (reads_then (reads_plain _ (by-at-most (pair_count s) (u16_at s (arc_at start k + 2))))
      (reads_plain _ (by_and (by_less 0 k) (by_not (rises (arc_at start (k - 1)) (arc_at start k))))))

  tail-reads : (arc tail : ℕ) → Reads (tail_table s arc tail) (tail_numbers s arc tail)
  unfolding tail_numbers tail_blank
  tail-reads arc tail =
      reads_then (reads_plain _ (by_less limit (u32_at s (tail + 2))))
      (reads_then (reads_plain _ (by_less limit (u32_at s (tail + 6))))
      (reads_then (reads_plain _ (bound-outside (u32_at s (tail + 10))))
      (reads_plain _
      (by-other (by_and (by_and (by_equal (u32_at s (tail + 2)) 0) (by_equal (u32_at s (tail + 6)) 0)) (by_equal (u32_at s (tail + 10)) unbounded))
      (λ h. (h.0.0, h.0.1, h.1)) (λ h. ((h.0, h.1), h.2))))))

  arc-reads : (start k : ℕ) → Reads (arc_table s start k) (arc_refusal s (mode_count s) (pair_count s) start k)
  unfolding arc_refusal
  arc-reads start k =
      reads_then (past-reads Net s (arc_at start k) arc_size)
      (reads_then (names_reads start k) (tail-reads (arc_at start k) (arc_tail_at (arc_at start k))))

  group_arc-reads : (start i : ℕ) → Reads (group_arc_table s start i) (group_arc_refusal s (pair_count s) start i)
  unfolding group_arc_refusal pair_name_refusal pair_not_rising
  group_arc-reads start i =
      let at = group_arc_at start i in
      reads_then (past-reads Net s at tail_size)
      (reads_then
      (reads_then (reads_plain _ (by-at-most (pair_count s) (u16_at s at)))
      (reads_plain _ (by_and (by_less 0 i) (by-at-most (u16_at s at) (u16_at s (group_arc_at start (i - 1)))))))
      (tail-reads at at))

  group_reads : (base t : ℕ) → Reads (group_table s base t) (group_refusal s (pair_count s) base t)
  unfolding group_refusal
  group_reads base t =
      reads_then (past-reads Net s (group_at s base t) 2)
      (reads_then (reads_plain _ (by_less 2048 (arcs_before s base t + group_count s base t)))
      (reads-each (group_count s base t) (λ i l. group_arc-reads (arcs_after (group_at s base t)) i)))

  counts-read : Reads (counts_table s) (count_fields s)
  unfolding count_fields each_count
  counts-read =
      reads_then (count-reads Net s (places_at s) 1 64)
      (reads_then (count-reads Net s (transitions_at s) 0 64)
      (reads_then (reads-each (place_count s) (λ i l. running-reads (colours_at s) i)) (reads-each (transition_count s) (λ i l. running-reads (modes_at s) i))))

  abbrev pair_fields : Option Refusal
  pair_fields = first (pair_count s) (λ p. pair_refusal s (pair_at (pairs_offset s) p))

  pairs-read : Reads (pairs_table s) pair_fields
  pairs-read = reads-each (pair_count s) (λ p l. pair_reads (pair_at (pairs_offset s) p))

  another : (b : ℕ) → Decided (ltb 1 b) ((b ≢ 0) × (b ≢ 1))
  another b = by-other (by_less 1 b) (λ l. (λ e. omega arith, λ e. omega arith)) (λ h. omega (arith, h))

  fields_read : (v : Version)
      → Reads (fields_table s v) (rule_field v s ▸ count_fields s ▸ pair_fields ▸ arc_section v s (mode_count s) (pair_count s) (arc_count_at s))
  unfolding fields_table rule_field arc_section arc_fields group_fields ◌▸◌
  fields_read One =
      reads_then counts-read
      (reads_then pairs-read
      (reads_then (count-reads Net s (arc_count_at s) 0 2048)
      (reads_then (reads-each (u16_at s (arc_count_at s)) (λ k l. arc-reads (arcs_after (arc_count_at s)) k))
      (left-reads Net s (arc_at (arcs_after (arc_count_at s)) (u16_at s (arc_count_at s)))))))
  fields_read Two =
      reads_then (reads_then (past-reads Net s rule_at 1) (reads_plain _ (another (byte_at s rule_at))))
      (reads_then counts-read
      (reads_then pairs-read
      (reads_then (reads-each (mode_count s) (λ t l. group_reads (arc_count_at s) t)) (left-reads Net s (group_at s (arc_count_at s) (mode_count s))))))

  neither : (v : ℕ) → Decided (not (known Net v)) ((v ≢ 1) × (v ≢ 2))
  unfolding known
  neither v = by-other (by_not (by_or (by_equal v 1) (by_equal v 2))) (λ h. (λ e. h (inl e), λ e. h (inr e))) (λ h. ⊎_elim h.0 h.1)

  net-reads : Reads (net_table s) (net_refusal s)
  unfolding net_table net_refusal net_fields pair_and_arc_fields
  net-reads = reads_then (head-reads Net s (neither (version s))) (fields_read (version_of s))

pub sheet_tables : SheetTables
sheet_tables = record { movements = movement-reads; weights = weight-reads; nets = net-reads }
