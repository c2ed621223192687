-- Where each part of the net that a sheet means stands in the sheet.
use Prim.Native.Nat.{ℕ, ◌<◌}
use mathlib.Core.Path.{◌≡◌, refl, ◌∙◌, ap}
use mathlib.Core.List.{List}
use lib.ListN.{length, get_or}
use Rattle.model.specs.declared.Version.TheVariants.{One, Two}
use Rattle.model.specs.Numbers.{∞}
use Rattle.model.specs.Nets.{pairs, modes, K, count, arc_no}
use Rattle.model.specs.Lists.{table}
use Rattle.model.proofs.Tables.{table-length, table_at}
use Rattle.heads.specs.Bytes.{u16_at, u32_at}
use Rattle.heads.specs.Layout.{count_at, counts, colours_at, place_count, transition_count, modes_at, pair_count, mode_count, pairs_offset, pair_at, arc_count_at, arc_count, arcs_offset, arc_at, capacity_at, start_at}
use Rattle.heads.specs.Version.{version_of}
use Rattle.heads.specs.Rule.{rule_of}
use Rattle.fields.specs.Numbers.{bound}
use Rattle.sheets.specs.Decoded.{net_arc_at, arcs_of, net_arcs, net_of}

module _ (s : List ℕ) where
  pub counts-length : (start n : ℕ) → length (counts s start n) ≡ n
  unfolding counts
  counts-length start n = table-length n _

  pub counts-at : (start n i : ℕ) → i < n → get_or (counts s start n) i 0 ≡ u16_at s (count_at start i)
  unfolding counts
  counts-at start n i h = table_at n (λ i. u16_at s (count_at start i)) 0 i h

  pub rule-is : (net_of s).rule ≡ rule_of (version_of s) s
  unfolding net_of
  rule-is = refl

  pub colours-are : (net_of s).colours ≡ counts s (colours_at s) (place_count s)
  unfolding net_of
  colours-are = refl

  pub modes-of-are : (net_of s).modes_of ≡ counts s (modes_at s) (transition_count s)
  unfolding net_of
  modes-of-are = refl

  pub pairs-are : pairs (net_of s) ≡ pair_count s
  unfolding net_of pair_count
  pairs-are = refl

  pub modes-are : modes (net_of s) ≡ mode_count s
  unfolding net_of mode_count
  modes-are = refl

  pub capacities-length : length (net_of s).capacity ≡ pair_count s
  unfolding net_of
  capacities-length = table-length (pair_count s) _

  pub capacity-at : (p : ℕ) → p < pair_count s → K (net_of s) p ≡ bound (u32_at s (capacity_at (pair_at (pairs_offset s) p)))
  unfolding net_of
  capacity-at p h = table_at (pair_count s) (λ p. bound (u32_at s (capacity_at (pair_at (pairs_offset s) p)))) ∞ p h

  pub start-length : length (net_of s).start ≡ pair_count s
  unfolding net_of
  start-length = table-length (pair_count s) _

  pub start-at : (p : ℕ) → p < pair_count s → count (net_of s).start p ≡ u32_at s (start_at (pair_at (pairs_offset s) p))
  unfolding net_of
  start-at p h = table_at (pair_count s) (λ p. u32_at s (start_at (pair_at (pairs_offset s) p))) 0 p h

  -- version 1: from the arcs' first byte on
  module _ (one : version_of s ≡ One) where
    arcs-one : (net_of s).arcs ≡ table (arc_count s) (λ k. net_arc_at s (arc_at (arcs_offset s) k))
    unfolding net_of net_arcs
    arcs-one = rw one

    pub arcs-length : length (net_of s).arcs ≡ arc_count s
    arcs-length = ap length arcs-one ∙ table-length (arc_count s) _

    pub arc-at : (k : ℕ) → k < arc_count s → arc_no (net_of s).arcs k ≡ net_arc_at s (arc_at (arcs_offset s) k)
    arc-at k h = ap (λ arcs. arc_no arcs k) arcs-one ∙ table_at (arc_count s) (λ k. net_arc_at s (arc_at (arcs_offset s) k)) _ k h

  -- version 2: mode by mode
  pub arcs-two : version_of s ≡ Two → (net_of s).arcs ≡ arcs_of s (arc_count_at s) (mode_count s)
  unfolding net_of net_arcs
  arcs-two two = rw two
