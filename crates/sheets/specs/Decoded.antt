-- What an accepted sheet means: the net, the weights or the modes decoded from it.
use Rattle.std.specs.Prelude.{ℕ, List, ℤ}
use Rattle.model.specs.declared.Mode.{Mode}
use Rattle.model.specs.declared.Version.{Version}
use Rattle.model.specs.declared.Version.TheVariants.{One, Two}
use Rattle.model.specs.Lists.{table, joined}
use Rattle.model.specs.Nets.{NetArc, PNet, pair_no, mode_no}
use Rattle.heads.specs.Bytes.{u16_at, u32_at}
use Rattle.heads.specs.Layout.{counts, colours_at, place_count, transition_count, modes_at, pair_count, mode_count, pairs_offset, pair_at, arc_count_at, arc_count, arcs_after, arcs_offset, arc_at, group_at, group_count, group_arc_at, capacity_at, start_at, arc_mode_at, arc_tail_at, tail_pair_at, tail_pre_at, tail_post_at, tail_inhibitor_at, movement_at, movement_count, weight_count, weight_at}
use Rattle.heads.specs.Version.{version_of}
use Rattle.heads.specs.Rule.{rule_of}
use Rattle.sheets.specs.lists.Weights.{signed}
use Rattle.fields.specs.Numbers.{bound}
pub use Rattle.fields.specs.Arcs.{net_arc}

-- the arc of mode t whose 14 bytes stand at `tail`
unfoldable pub net_arc_in : List ℕ → ℕ → ℕ → NetArc
net_arc_in s t tail =
    record {
      mode = mode_no t;
      pair = pair_no (u16_at s (tail_pair_at tail));
      entry = record { pre = u32_at s (tail_pre_at tail); post = u32_at s (tail_post_at tail); inhibitor = bound (u32_at s (tail_inhibitor_at tail)) };
    }

-- version 1: the arc that stands at `at`
abbrev pub net_arc_at : List ℕ → ℕ → NetArc
net_arc_at s at = net_arc_in s (u16_at s (arc_mode_at at)) (arc_tail_at at)

-- version 2: the arcs of mode t, and of all modes, from `base` on
unfoldable pub group_arcs : List ℕ → ℕ → ℕ → List NetArc
group_arcs s base t = table (group_count s base t) (λ i. net_arc_in s t (group_arc_at (arcs_after (group_at s base t)) i))

unfoldable pub arcs_of : List ℕ → ℕ → ℕ → List NetArc
arcs_of s base modes = joined modes (group_arcs s base)

unfoldable pub net_arcs : Version → List ℕ → List NetArc
net_arcs One s = table (arc_count s) (λ k. net_arc_at s (arc_at (arcs_offset s) k))
net_arcs Two s = arcs_of s (arc_count_at s) (mode_count s)

unfoldable pub net_of : List ℕ → PNet
net_of s =
    record {
      rule = rule_of (version_of s) s;
      colours = counts s (colours_at s) (place_count s);
      modes_of = counts s (modes_at s) (transition_count s);
      capacity = table (pair_count s) (λ p. bound (u32_at s (capacity_at (pair_at (pairs_offset s) p))));
      start = table (pair_count s) (λ p. u32_at s (start_at (pair_at (pairs_offset s) p)));
      arcs = net_arcs (version_of s) s;
    }

unfoldable pub weights_of : List ℕ → List ℤ
weights_of s = table (weight_count s) (λ p. signed (u32_at s (weight_at p)))

unfoldable pub movements_of : List ℕ → List Mode
movements_of s = table (movement_count s) (λ k. mode_no (u16_at s (movement_at k)))
