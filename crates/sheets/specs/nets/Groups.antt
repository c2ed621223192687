-- The arcs of a net sheet of version 2 (document 02, P9): "for each mode, a 2-byte arc count and that many arcs of 14 bytes without the mode".
use Rattle.std.specs.Prelude.{ℕ, ◌+◌, ◌-◌, Bool, ◌&&◌, List, ltb, leb}
use Rattle.std.proofs.Math.Option.{Option}
use Rattle.model.specs.declared.Thing.TheVariants.{Net}
use Rattle.model.specs.declared.Fault.TheVariants.{NotThereAt, NotRising, CountOutside}
use Rattle.model.specs.declared.Refusal.{Refusal}
use Rattle.model.specs.First.{◌▸◌, first, only_if}
use Rattle.model.specs.Refusals.{wrong}
use Rattle.heads.specs.Bytes.{u16_at}
use Rattle.heads.specs.Layout.{tail_size, tail_pair_at, group_arc_at, arcs_after, arcs_before, group_at, group_count}
use Rattle.heads.specs.Checks.{missing, left_over}
use Rattle.sheets.specs.nets.Tails.{tail_numbers}

-- "7 now compares pairs within a mode": the i-th of the arcs that stand from `start` on
unfoldable pub pair_not_rising : List ℕ → ℕ → ℕ → Bool
pair_not_rising s start i = ltb 0 i && leb (u16_at s (tail_pair_at (group_arc_at start i))) (u16_at s (tail_pair_at (group_arc_at start (i - 1))))

module _ (s : List ℕ) (pairs : ℕ) where
  unfoldable pub pair_name_refusal : ℕ → ℕ → Option Refusal
  pair_name_refusal start i =
      only_if (leb pairs (u16_at s (tail_pair_at (group_arc_at start i)))) (wrong Net (NotThereAt (tail_pair_at (group_arc_at start i))))
      ▸ only_if (pair_not_rising s start i) (wrong Net (NotRising (group_arc_at start i)))

  unfoldable pub group_arc_refusal : ℕ → ℕ → Option Refusal
  group_arc_refusal start i =
      missing Net s (group_arc_at start i) tail_size ▸ pair_name_refusal start i ▸ tail_numbers s (group_arc_at start i) (group_arc_at start i)

  -- 4 "at the arc count whose running total passes 2,048": the arc count of mode t, and its arcs, of those that stand from `base` on
  unfoldable pub group_refusal : ℕ → ℕ → Option Refusal
  group_refusal base t =
      missing Net s (group_at s base t) 2
      ▸ only_if (ltb 2048 (arcs_before s base t + group_count s base t)) (wrong Net (CountOutside (group_at s base t)))
      ▸ first (group_count s base t) (group_arc_refusal (arcs_after (group_at s base t)))

  -- mode by mode, and nothing after them
  unfoldable pub group_fields : ℕ → ℕ → Option Refusal
  group_fields modes base = first modes (group_refusal base) ▸ left_over Net s (group_at s base modes)
