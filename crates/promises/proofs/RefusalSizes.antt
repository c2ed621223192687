-- The numbers that a refusal carries are small: those of the three sheets, where they are bytes, and those of a movement.
use Prim.Native.Nat.{ℕ, zero, suc, ◌+◌, ◌*◌, ◌≤◌, ◌<◌}
use mathlib.Core.Path.{◌≡◌}
use mathlib.Core.Bool.{Bool, true, false, cond, not, ◌||◌}
use mathlib.Core.List.{List}
use mathlib.Core.Option.{Option, none, some}
use lib.Dec.{ltb, leb, eqb}
use lib.IntN.{nat_abs}
use lib.ListN.{length}
use native.Mathlib.Omega.{arith}
use Rattle.model.specs.declared.Mode.{Mode}
use Rattle.model.specs.declared.Thing.{Thing}
use Rattle.model.specs.declared.Thing.TheVariants.{Net, Weights, Movements, Argument}
use Rattle.model.specs.declared.Why.{Why}
use Rattle.model.specs.declared.Why.TheVariants.{Lacking, OverCapacity, Inhibited, OverLimit}
use Rattle.model.specs.declared.Version.{Version}
use Rattle.model.specs.declared.Version.TheVariants.{One, Two}
use Rattle.model.specs.declared.Fault.{Fault}
use Rattle.model.specs.declared.Fault.TheVariants.{CutShort, WrongVersion, WrongLength, CountOutside, NumberOutside, NotThereAt, NotThere, NotRising, Blank, StartAboveCapacity, NotOneEach, Stopped}
use Rattle.model.specs.declared.Refusal.{Refusal}
use Rattle.std.specs.Prelude.{Err}
use Rattle.model.specs.First.{◌▸◌, first, only_if}
use Rattle.model.specs.Lists.{table}
use Rattle.model.specs.Numbers.{ℕ∞, fin, ∞, above, above_by, limit}
use Rattle.model.specs.Rows.{Entry}
use Rattle.model.specs.Nets.{PNet, total, pairs, modes, count, row, pair_no}
use Rattle.model.specs.Markings.{Marking}
use Rattle.model.specs.WellFormed.{WellFormed}
use Rattle.model.specs.Firing.{compared, stops, stopped_by, stopped, lowest_stop, rule_refusal, row_refusal, rooms, mode_refusal}
use Rattle.model.specs.Refusals.{line, wrong, thing, thing_number, always_net}
use Rattle.model.proofs.First.{first_found}
use Rattle.second_form.proofs.ComplementNet.{row_small}
use Rattle.heads.specs.Bytes.{byte_at, u16_at, u32_at}
use Rattle.heads.specs.Layout.{fields_from, fields_at, counts, total_of, count_at, places_at, transitions_at, colours_at, modes_at, pairs_offset, pair_at, arc_count_at, arcs_after, arc_at, group_at, group_arc_at, arcs_before, group_count, place_count, transition_count, pair_count, mode_count, weight_count, body_length, version, sheet_end, movement_at, movement_count}
use Rattle.heads.specs.Version.{version_of}
use Rattle.heads.specs.Checks.{known, head_refusal, missing, left_over, count_refusal}
use Rattle.fields.specs.Numbers.{bound, outside}
use Rattle.fields.specs.Fields.{running_refusal, capacity_refusal, start_refusal, pair_refusal, each_count, count_fields}
use Rattle.fields.proofs.RunningTotals.{total-snoc}
use Rattle.sheets.specs.nets.Tails.{tail_blank, tail_numbers}
use Rattle.sheets.specs.nets.Groups.{pair_not_rising, pair_name_refusal, group_arc_refusal, group_refusal, group_fields}
use Rattle.sheets.specs.nets.Nets.{not_rising, arc_names_refusal, arc_refusal, arc_fields, arc_section, pair_and_arc_fields, rule_field, net_fields, net_refusal}
use Rattle.sheets.specs.lists.Weights.{signed, weight_refusal, weight_fields, weights_refusal}
use Rattle.sheets.specs.lists.Movements.{most_movements, movement_fields, movements_refusal}
use Rattle.sheets.specs.Whole.{bytes_after, whole_movements}

abbrev pub most : ℕ
most = 10000000000000000000

pub record Small (r : Refusal) : Type 0 where
  pub number : (line r.fault).number < 100
  pub position : (line r.fault).position < most
  pub amount : (line r.fault).amount < most

pub thing-small : (r : Refusal) → thing (Err r) < 10
thing-small r = go (always_net (line r.fault).number) r.thing
  where
    go : (b : Bool) (t : Thing) → cond b 0 (thing_number t) < 10
    go true t = omega arith
    go false Net = omega arith
    go false Weights = omega arith
    go false Movements = omega arith
    go false Argument = omega arith

-- what is refused, if anything is
pub record Says (o : Option Refusal) : Type 0 where
  pub small : (r : Refusal) → o ≡ some r → Small r

nothing : Says none
nothing = record { small = λ r e. let z : ◌≡◌ {A = ℕ} 0 1 = cc in absurd (omega arith) }

one : {r : Refusal} → Small r → Says (some r)
one {r} h = record { small = λ q e. let f : r ≡ q = cc in rw f at h }

infixr 20 ◌so◌
◌so◌ : {a b : Option Refusal} → Says a → Says b → Says (a ▸ b)
unfolding ◌▸◌
◌so◌ {a} {b} h l = go a h
  where
    go : (a : Option Refusal) → Says a → Says (a ▸ b)
    go none h = l
    go (some r) h = h

each : (n : ℕ) (f : ℕ → Option Refusal) → ((i : ℕ) → i < n → Says (f i)) → Says (first n f)
each n f h = record { small = λ r e. let g = first_found n f r e in (h g.0 g.1).small r g.3 }

only : (t : Bool) (about : Thing) (f : Fault) → (line f).number < 100 → (line f).position < most → (line f).amount < most → Says (only_if t (wrong about f))
only true about f n p a = one (record { number = n; position = p; amount = a })
only false about f n p a = nothing

total-most : (n : ℕ) (f : ℕ → ℕ) → ((i : ℕ) → f i < 65536) → total (table n f) ≤ 65535 * n
unfolding table
total-most zero f h = omega arith
total-most (suc n) f h = omega (arith, total-snoc (table n f) (f n), h n, total-most n f h)

module _ (s : List ℕ) (byte : (i : ℕ) → byte_at s i < 256) where
  pub u16 : (at : ℕ) → u16_at s at < 65536
  unfolding u16_at
  u16 at = omega (arith, byte at, byte (at + 1))

  u32 : (at : ℕ) → u32_at s at < 4294967296
  unfolding u32_at
  u32 at = omega (arith, u16 at, u16 (at + 2))

  fields-at : fields_at s ≤ 6
  unfolding fields_at
  fields-at = go (version_of s)
    where
      go : (v : Version) → fields_from v ≤ 6
      go One = omega arith
      go Two = omega arith

  totals : (start n : ℕ) → total_of s start n ≤ 65535 * n
  unfolding counts
  totals start n = total-most n (λ i. u16_at s (count_at start i)) (λ i. u16 _)

  pairs-most : pair_count s < 4294967296
  unfolding pair_count
  pairs-most = omega (arith, totals (colours_at s) (place_count s), u16 (places_at s))

  modes-most : mode_count s < 4294967296
  unfolding mode_count
  modes-most = omega (arith, totals (modes_at s) (transition_count s), u16 (transitions_at s))

  before-most : (base t : ℕ) → arcs_before s base t ≤ 65535 * t
  unfolding arcs_before
  before-most base zero = omega arith
  before-most base (suc t) = omega (arith, before-most base t, u16 (base + 2 * t + 14 * arcs_before s base t))

  head-says : (about : Thing) → Says (head_refusal about s)
  unfolding head_refusal
  head-says about =
      only (ltb (length s) 4) about CutShort (omega arith) (omega arith) (omega arith)
      so only (ltb (length s) (sheet_end s)) about CutShort (omega arith) (omega arith) (omega arith)
      so only (eqb (body_length s) 0) about (WrongLength 0) (omega arith) (omega arith) (omega arith)
      so only (not (known about (version s))) about (WrongVersion 4) (omega arith) (omega arith) (omega arith)

  missing-says : (about : Thing) (at size : ℕ) → at < most → Says (missing about s at size)
  missing-says about at size h = only (ltb (sheet_end s) (at + size)) about (WrongLength at) (omega arith) h (omega arith)

  left-says : (about : Thing) (at : ℕ) → at < most → Says (left_over about s at)
  left-says about at h = only (ltb at (sheet_end s)) about (WrongLength at) (omega arith) h (omega arith)

  count-says : (at low high : ℕ) → at < most → Says (count_refusal Net s at low high)
  unfolding count_refusal
  count-says at low high h = missing-says Net at 2 h so only (ltb (u16_at s at) low || ltb high (u16_at s at)) Net (CountOutside at) (omega arith) h (omega arith)

  running-says : (start i : ℕ) → count_at start i < most → Says (running_refusal s start i)
  unfolding running_refusal
  running-says start i h = count-says (count_at start i) 1 64 h so only (ltb 256 (total_of s start (i + 1))) Net (CountOutside (count_at start i)) (omega arith) h (omega arith)

  pair-says : (at : ℕ) → at + 4 < most → Says (pair_refusal s at)
  unfolding pair_refusal capacity_refusal start_refusal
  pair-says at h =
      (missing-says Net at 4 (omega arith) so only (outside (bound (u32_at s at))) Net (NumberOutside at) (omega arith) (omega arith) (omega arith))
      so missing-says Net (at + 4) 4 h
      so only (outside (fin (u32_at s (at + 4)))) Net (NumberOutside (at + 4)) (omega arith) h (omega arith)
      so only (above (u32_at s (at + 4)) (bound (u32_at s at))) Net (StartAboveCapacity (at + 4)) (omega arith) h (omega arith)

  tail-says : (arc tail : ℕ) → arc < most → tail + 10 < most → Says (tail_numbers s arc tail)
  unfolding tail_numbers
  tail-says arc tail h l =
      only (outside (fin (u32_at s (tail + 2)))) Net (NumberOutside (tail + 2)) (omega arith) (omega arith) (omega arith)
      so only (outside (fin (u32_at s (tail + 6)))) Net (NumberOutside (tail + 6)) (omega arith) (omega arith) (omega arith)
      so only (outside (bound (u32_at s (tail + 10)))) Net (NumberOutside (tail + 10)) (omega arith) l (omega arith)
      so only (tail_blank s tail) Net (Blank arc) (omega arith) h (omega arith)

  arc-says : (modes pairs start k : ℕ) → arc_at start k + 12 < most → Says (arc_refusal s modes pairs start k)
  unfolding arc_refusal arc_names_refusal
  arc-says modes pairs start k h =
      missing-says Net (arc_at start k) 16 (omega arith)
      so (only (leb modes (u16_at s (arc_at start k))) Net (NotThereAt (arc_at start k)) (omega arith) (omega arith) (omega arith)
      so only (leb pairs (u16_at s (arc_at start k + 2))) Net (NotThereAt (arc_at start k + 2)) (omega arith) (omega arith) (omega arith)
      so only (not_rising s start k) Net (NotRising (arc_at start k)) (omega arith) (omega arith) (omega arith))
      so tail-says (arc_at start k) (arc_at start k + 2) (omega arith) (omega arith)

  arcs-says : (modes pairs at : ℕ) → at < 1000000000000000000 → Says (arc_fields s modes pairs at)
  unfolding arc_fields
  arcs-says modes pairs at h =
      count-says at 0 2048 (omega arith)
      so each (u16_at s at) _ (λ k l. arc-says modes pairs (arcs_after at) k (omega (arith, u16 at)))
      so left-says Net (arc_at (arcs_after at) (u16_at s at)) (omega (arith, u16 at))

  group_arc-says : (pairs start i : ℕ) → group_arc_at start i + 10 < most → Says (group_arc_refusal s pairs start i)
  unfolding group_arc_refusal pair_name_refusal
  group_arc-says pairs start i h =
      missing-says Net (group_arc_at start i) 14 (omega arith)
      so (only (leb pairs (u16_at s (group_arc_at start i))) Net (NotThereAt (group_arc_at start i)) (omega arith) (omega arith) (omega arith)
      so only (pair_not_rising s start i) Net (NotRising (group_arc_at start i)) (omega arith) (omega arith) (omega arith))
      so tail-says (group_arc_at start i) (group_arc_at start i) (omega arith) h

  group_says : (pairs base t : ℕ) → group_at s base t < 1000000000000000000 → Says (group_refusal s pairs base t)
  unfolding group_refusal
  group_says pairs base t h =
      missing-says Net (group_at s base t) 2 (omega arith)
      so only (ltb 2048 (arcs_before s base t + group_count s base t)) Net (CountOutside (group_at s base t)) (omega arith) (omega arith) (omega arith)
      so each (group_count s base t) _ (λ i l. group_arc-says pairs (arcs_after (group_at s base t)) i (omega (arith, u16 (group_at s base t))))

  groups_says : (pairs modes base : ℕ) → modes < 4294967296 → base < 100000000000 → Says (group_fields s pairs modes base)
  unfolding group_fields
  groups_says pairs modes base h l =
      each modes _ (λ t b. group_says pairs base t (omega (arith, before-most base t)))
      so left-says Net (group_at s base modes) (omega (arith, before-most base modes))

  section_says : (v : Version) (modes pairs at : ℕ) → modes < 4294967296 → at < 100000000000 → Says (arc_section v s modes pairs at)
  unfolding arc_section
  section_says One modes pairs at h l = arcs-says modes pairs at (omega arith)
  section_says Two modes pairs at h l = groups_says pairs modes at h l

  rule-says : (v : Version) → Says (rule_field v s)
  unfolding rule_field
  rule-says One = nothing
  rule-says Two = missing-says Net 5 1 (omega arith) so only (ltb 1 (byte_at s 5)) Net (CountOutside 5) (omega arith) (omega arith) (omega arith)

  counts-says : Says (count_fields s)
  unfolding count_fields each_count
  counts-says =
      count-says (places_at s) 1 64 (omega (arith, fields-at))
      so count-says (transitions_at s) 0 64 (omega (arith, fields-at))
      so each (place_count s) _ (λ i h. running-says (colours_at s) i (omega (arith, fields-at, u16 (places_at s))))
      so each (transition_count s) _ (λ i h. running-says (modes_at s) i (omega (arith, fields-at, u16 (places_at s), u16 (transitions_at s))))

  pub net-says : Says (net_refusal s)
  unfolding net_refusal net_fields pair_and_arc_fields
  net-says =
      head-says Net
      so rule-says (version_of s)
      so counts-says
      so each (pair_count s) _ (λ p h. pair-says (pair_at (pairs_offset s) p) (omega (arith, fields-at, u16 (places_at s), u16 (transitions_at s), pairs-most)))
      so section_says (version_of s) (mode_count s) (pair_count s) (arc_count_at s) modes-most (omega (arith, fields-at, u16 (places_at s), u16 (transitions_at s), pairs-most))

  pub weights-says : (pairs : ℕ) → Says (weights_refusal pairs s)
  unfolding weights_refusal weight_fields weight_refusal
  weights-says pairs =
      head-says Weights
      so missing-says Weights 5 2 (omega arith)
      so only (not (eqb (weight_count s) pairs)) Weights (NotOneEach 5) (omega arith) (omega arith) (omega arith)
      so each (weight_count s) _ (λ p h.
      missing-says Weights (7 + 4 * p) 4 (omega (arith, u16 5)) so only (ltb limit (nat_abs (signed (u32_at s (7 + 4 * p))))) Weights (NumberOutside (7 + 4 * p)) (omega arith) (omega (arith, u16 5)) (omega arith))
      so left-says Weights (7 + 4 * weight_count s) (omega (arith, u16 5))

  pub movements-says : Says (whole_movements s)
  unfolding whole_movements movements_refusal movement_fields bytes_after
  movements-says =
      (head-says Movements
      so left-says Movements (movement_at (movement_count s)) (omega (arith, u32 0))
      so only (ltb most_movements (movement_count s)) Movements (CountOutside 5) (omega arith) (omega arith) (omega arith))
      so only (ltb (sheet_end s) (length s)) Movements (WrongLength (sheet_end s)) (omega arith) (omega (arith, u32 0)) (omega arith)

-- a movement's: the number of a pair, and an amount of numbers within 1,000,000
above-by : (n : ℕ) (b : ℕ∞) → above_by n b ≤ n
above-by n (fin k) = omega arith
above-by n ∞ = omega arith

stop-only : (t : Bool) (why : Why) (p n : ℕ) → p < most → n < most → Says (only_if t (stopped Movements why p n))
stop-only t Lacking p n h l = only t Movements (Stopped Lacking (pair_no p) n) (omega arith) h l
stop-only t OverCapacity p n h l = only t Movements (Stopped OverCapacity (pair_no p) n) (omega arith) h l
stop-only t Inhibited p n h l = only t Movements (Stopped Inhibited (pair_no p) n) (omega arith) h l
stop-only t OverLimit p n h l = only t Movements (Stopped OverLimit (pair_no p) n) (omega arith) h l

compared-most : (why : Why) (e : Entry) (k : ℕ∞) (m : ℕ) → e.pre ≤ limit → e.post ≤ limit → m ≤ limit → (compared why e k m).number ≤ 2000000
compared-most Lacking e k m h l b = omega arith
compared-most OverCapacity e k m h l b = omega arith
compared-most Inhibited e k m h l b = omega arith
compared-most OverLimit e k m h l b = omega arith

module _ (net : PNet) (well : WellFormed net) (t : Mode) {m : List ℕ} (marking : Marking net m) where
  stop-says : (why : Why) → Says (lowest_stop Movements (pairs net) (rooms net (row net t)) (row net t) (count m) why)
  stop-says why =
      each (pairs net) _
      (λ p h.
      let e = row net t p in
      let k = rooms net (row net t) p in
      let c = compared why e k (count m p) in
      let small = row_small net well t p in
      stop-only (stops why e k (count m p)) why p (stopped_by why e k (count m p)) (omega (arith, well.places.in_total))
      (omega (arith, above-by c.number c.bound, compared-most why e k (count m p) small.0 small.1 (marking.in_range p h))))

  pub mode-says : Says (mode_refusal Movements net t m)
  unfolding mode_refusal row_refusal rule_refusal
  mode-says =
      only (leb (modes net) t.0) Movements NotThere (omega arith) (omega arith) (omega arith)
      so (stop-says Lacking so stop-says OverCapacity so stop-says Inhibited) so stop-says OverLimit
