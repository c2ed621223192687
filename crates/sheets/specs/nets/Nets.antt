-- A net sheet's refusals, "the fields left to right": the head, the rule, the counts, the pairs, the arcs, and nothing after them.
use Rattle.std.specs.Prelude.{ℕ, ◌-◌, Bool, not, ◌&&◌, ◌||◌, List, ltb, leb, eqb}
use Rattle.std.proofs.Math.Option.{Option, none}
use Rattle.model.specs.declared.Thing.TheVariants.{Net}
use Rattle.model.specs.declared.Version.{Version}
use Rattle.model.specs.declared.Version.TheVariants.{One, Two}
use Rattle.model.specs.declared.Fault.TheVariants.{CountOutside, NotThereAt, NotRising}
use Rattle.model.specs.declared.Refusal.{Refusal}
use Rattle.model.specs.First.{◌▸◌, first, only_if}
use Rattle.heads.specs.Bytes.{byte_at, u16_at}
use Rattle.heads.specs.Layout.{rule_at, pair_count, mode_count, pairs_offset, pair_at, arc_count_at, arcs_after, arc_at, arc_size, arc_mode_at, arc_tail_at, arc_pair_at}
use Rattle.heads.specs.Version.{version_of}
use Rattle.heads.specs.Checks.{head_refusal, missing, left_over, count_refusal}
use Rattle.model.specs.Refusals.{wrong}
use Rattle.fields.specs.Fields.{pair_refusal, count_fields}
use Rattle.sheets.specs.nets.Tails.{tail_numbers}
use Rattle.sheets.specs.nets.Groups.{group_fields}

-- The arcs of version 1. "Arcs rise strictly by mode, then pair": the arc at `at` above the one at `before`
unfoldable pub rises_to : List ℕ → ℕ → ℕ → Bool
rises_to s before at =
    ltb (u16_at s (arc_mode_at before)) (u16_at s (arc_mode_at at))
    || (eqb (u16_at s (arc_mode_at before)) (u16_at s (arc_mode_at at)) && ltb (u16_at s (arc_pair_at before)) (u16_at s (arc_pair_at at)))

-- 7: the k-th of the arcs that stand from `start` on is "not above the one before"
unfoldable pub not_rising : List ℕ → ℕ → ℕ → Bool
not_rising s start k = ltb 0 k && not (rises_to s (arc_at start (k - 1)) (arc_at start k))

-- "For an arc all 16 bytes must be there (else 3 at the arc's first byte), then 6 for mode, 6 for pair, 7, 5 for Pre, Post and I in turn, 8."
module _ (s : List ℕ) (modes pairs : ℕ) where
  unfoldable pub arc_names_refusal : ℕ → ℕ → Option Refusal
  arc_names_refusal start k =
      only_if (leb modes (u16_at s (arc_mode_at (arc_at start k)))) (wrong Net (NotThereAt (arc_mode_at (arc_at start k))))
      ▸ only_if (leb pairs (u16_at s (arc_pair_at (arc_at start k)))) (wrong Net (NotThereAt (arc_pair_at (arc_at start k))))
      ▸ only_if (not_rising s start k) (wrong Net (NotRising (arc_at start k)))

  unfoldable pub arc_refusal : ℕ → ℕ → Option Refusal
  arc_refusal start k = missing Net s (arc_at start k) arc_size ▸ arc_names_refusal start k ▸ tail_numbers s (arc_at start k) (arc_tail_at (arc_at start k))

  -- the arc count at `at`, the arcs, and nothing after them
  unfoldable pub arc_fields : ℕ → Option Refusal
  arc_fields at =
      count_refusal Net s at 0 2048
      ▸ first (u16_at s at) (arc_refusal (arcs_after at))
      ▸ left_over Net s (arc_at (arcs_after at) (u16_at s at))

-- the arcs as each version has them, from `at` on, and nothing after them
unfoldable pub arc_section : Version → List ℕ → ℕ → ℕ → ℕ → Option Refusal
arc_section One s modes pairs at = arc_fields s modes pairs at
arc_section Two s modes pairs at = group_fields s pairs modes at

unfoldable pub pair_and_arc_fields : List ℕ → Option Refusal
pair_and_arc_fields s =
    first (pair_count s) (λ p. pair_refusal s (pair_at (pairs_offset s) p))
    ▸ arc_section (version_of s) s (mode_count s) (pair_count s) (arc_count_at s)

-- version 2's rule byte: "4 for another rule byte" than 0 and document 02's 1 (P10)
unfoldable pub rule_field : Version → List ℕ → Option Refusal
rule_field One s = none
rule_field Two s = missing Net s rule_at 1 ▸ only_if (ltb 1 (byte_at s rule_at)) (wrong Net (CountOutside rule_at))

unfoldable pub net_fields : List ℕ → Option Refusal
net_fields s = rule_field (version_of s) s ▸ count_fields s ▸ pair_and_arc_fields s

unfoldable pub net_refusal : List ℕ → Option Refusal
net_refusal s = head_refusal Net s ▸ net_fields s
