-- What is there and within the limits of documents 01 and 02 is not refused.
use Prim.Native.Nat.{ℕ, ◌+◌, ◌-◌, ◌≤◌, ◌<◌}
use mathlib.Core.Path.{◌≡◌, refl}
use mathlib.Core.Bool.{true, false}
use mathlib.Core.List.{List}
use mathlib.Core.Logic.{⊎_elim}
use mathlib.Core.Option.{none}
use lib.ListN.{length}
use native.Mathlib.Omega.{arith}
use borrow.Author.Tests.{lt-ltb, le-ltb, lt-leb, ne_eqb}
use Rattle.model.specs.declared.Version.{Version}
use Rattle.model.specs.declared.Version.TheVariants.{One, Two}
use Rattle.model.specs.declared.Thing.TheVariants.{Net}
use Rattle.model.specs.First.{◌▸◌}
use Rattle.model.specs.Numbers.{limit}
use Rattle.model.proofs.First.{none_then, first-all, below_or}
use Rattle.heads.specs.Bytes.{byte_at, u16_at, u32_at}
use Rattle.heads.specs.Layout.{body_length, sheet_end, version, rule_at, total_of, capacity_at, start_at, arc_at, arc_size, arc_mode_at, arc_tail_at, arc_pair_at, tail_size, tail_pair_at, tail_pre_at, tail_post_at, group_arc_at, arcs_after, arcs_before, group_at, group_count}
use Rattle.heads.specs.Checks.{known, head_refusal, count_refusal}
use Rattle.fields.specs.Fields.{running_refusal, capacity_refusal, start_refusal, pair_refusal}
use Rattle.sheets.specs.nets.Tails.{tail_numbers}
use Rattle.sheets.specs.nets.Groups.{pair_not_rising, pair_name_refusal, group_arc_refusal, group_refusal}
use Rattle.sheets.specs.nets.Nets.{rises_to, not_rising, arc_names_refusal, arc_refusal, rule_field}
use Rattle.heads.specs.Held.{Headed}
use Rattle.fields.proofs.RunningTotals.{CountRead, RunningRead}
use Rattle.fields.proofs.PairFields.{CapacityRead, StartRead}
use Rattle.sheets.proofs.nets.TailsRead.{TailRead}
use Rattle.sheets.proofs.nets.GroupsRead.{GroupArcRead, GroupRead}
use Rattle.sheets.proofs.nets.Valid.{ArcRead}

module _ (s : List ℕ) where
  pub head-accepts : Headed s → known Net (version s) ≡ true → head_refusal Net s ≡ none
  unfolding head_refusal ◌▸◌
  head-accepts there v =
      rw
      (le-ltb (length s) 4 (omega (arith, there.there)), le-ltb (length s) (sheet_end s) there.there, ne_eqb (body_length s) 0 (omega (arith, there.versioned)), v)

  pub rule-accepts : (v : Version) → rule_at + 1 ≤ sheet_end s → (v ≡ Two → byte_at s rule_at ≤ 1) → rule_field v s ≡ none
  unfolding rule_field ◌▸◌
  rule-accepts One there r = refl
  rule-accepts Two there r = rw (le-ltb (sheet_end s) (rule_at + 1) there, le-ltb 1 (byte_at s rule_at) (r refl))

  pub count-accepts : (at low high : ℕ) → CountRead s at low high → count_refusal Net s at low high ≡ none
  unfolding count_refusal ◌▸◌
  count-accepts at low high r =
      rw (le-ltb (sheet_end s) (at + 2) r.there, le-ltb (u16_at s at) low r.least, le-ltb high (u16_at s at) r.most)

  pub running-accepts : (start i : ℕ) → RunningRead s start i → running_refusal s start i ≡ none
  unfolding running_refusal
  running-accepts start i r = none_then (count-accepts _ 1 64 r.count) (rw (le-ltb 256 (total_of s start (i + 1)) r.in_total))

  pub pair-accepts : (at : ℕ) → CapacityRead s at → StartRead s at → pair_refusal s at ≡ none
  unfolding pair_refusal capacity_refusal start_refusal ◌▸◌
  pair-accepts at k m =
      rw
      (le-ltb (sheet_end s) (capacity_at at + 4) k.there, k.in_range, le-ltb (sheet_end s) (start_at at + 4) m.there, le-ltb limit (u32_at s (start_at at)) m.in_range, m.within)

  -- the numbers of an arc, in both versions
  tail-accepts : (arc tail : ℕ) → TailRead s tail → tail_numbers s arc tail ≡ none
  unfolding tail_numbers ◌▸◌
  tail-accepts arc tail r =
      rw (le-ltb limit (u32_at s (tail_pre_at tail)) r.pre, le-ltb limit (u32_at s (tail_post_at tail)) r.post, r.inhibitor, r.not_blank)

  -- version 1
  rising : (start k : ℕ) → (0 < k → rises_to s (arc_at start (k - 1)) (arc_at start k) ≡ true) → not_rising s start k ≡ false
  unfolding not_rising
  rising start k h =
      ⊎_elim (λ (l : 0 < k). rw (lt-ltb 0 k l, h l)) (λ (l : k ≤ 0). rw (le-ltb 0 k l)) (below_or 0 k)

  pub arc-accepts : (modes pairs start k : ℕ) → ArcRead s modes pairs start k → arc_refusal s modes pairs start k ≡ none
  unfolding arc_refusal arc_names_refusal ◌▸◌
  arc-accepts modes pairs start k r =
      let at = arc_at start k in
      rw
      (le-ltb (sheet_end s) (at + arc_size) r.there, lt-leb modes (u16_at s (arc_mode_at at)) r.mode, lt-leb pairs (u16_at s (arc_pair_at at)) r.pair, rising start k r.rises)
      (tail-accepts at (arc_tail_at at) r.tail)

  -- version 2
  pair-rising : (start i : ℕ) → (0 < i → u16_at s (tail_pair_at (group_arc_at start (i - 1))) < u16_at s (tail_pair_at (group_arc_at start i))) → pair_not_rising s start i ≡ false
  unfolding pair_not_rising
  pair-rising start i h =
      ⊎_elim (λ (l : 0 < i). rw (lt-ltb 0 i l, lt-leb _ _ (h l))) (λ (l : i ≤ 0). rw (le-ltb 0 i l)) (below_or 0 i)

  group_arc-accepts : (pairs start i : ℕ) → GroupArcRead s pairs start i → group_arc_refusal s pairs start i ≡ none
  unfolding group_arc_refusal pair_name_refusal ◌▸◌
  group_arc-accepts pairs start i r =
      let at = group_arc_at start i in
      rw
      (le-ltb (sheet_end s) (at + tail_size) r.there, lt-leb pairs (u16_at s (tail_pair_at at)) r.pair, pair-rising start i r.rises)
      (tail-accepts at at r.tail)

  pub group_accepts : (pairs base t : ℕ) → GroupRead s pairs base t → group_refusal s pairs base t ≡ none
  unfolding group_refusal ◌▸◌
  group_accepts pairs base t r =
      rw
      (le-ltb (sheet_end s) (group_at s base t + 2) r.there, le-ltb 2048 (arcs_before s base t + group_count s base t) r.in_total)
      (first-all (group_count s base t) _ (λ i h. group_arc-accepts pairs (arcs_after (group_at s base t)) i (r.arcs i h)))
