-- The arcs of a complement, arc by arc: what the shared parts of this crate speak of.
-- A reader of the promises may skip this file.
use Rattle.std.specs.Prelude.{ℕ, zero, suc, ◌+◌, Bool, true, not, ◌&&◌}
use mathlib.Core.List.{List, flat_map}
use Rattle.model.specs.declared.Version.{Version}
use Rattle.model.specs.Nets.{NetArc, PNet, pairs, mode_no, K, arc_no, row}
use Rattle.second_form.specs.Dead.{is_dead}
use Rattle.second_form.specs.Complement.{complement_row, written, all_pairs, inhibits_unbounded}
use Rattle.both_forms.specs.Promises.{on_original, on_complement}
use Rattle.model.specs.Lists.{joined}
use Rattle.sheets.specs.written.Written.{arc_bytes, group_bytes}
use Rattle.halves.specs.declared.half.Half.{Half}
use Rattle.halves.specs.declared.half.Half.TheVariants.{Original, Complement}

-- "Blank arcs are left out."
abbrev pub kept : NetArc → List NetArc
kept a = written a.mode a.pair.0 a.entry

abbrev pub kept_bytes : Version → NetArc → List ℕ
kept_bytes v a = flat_map (arc_bytes v) (kept a)

-- a test that passes at each number below n
unfoldable pub every : ℕ → (ℕ → Bool) → Bool
every zero test = true
every (suc n) test = every n test && test n

module _ (net : PNet) where
  -- 15 does not stop the k-th arc
  unfoldable pub clear_at : ℕ → Bool
  clear_at k = not (inhibits_unbounded net (arc_no net.arcs k))

  -- a half of what an arc of the net becomes
  abbrev pub half_of : Half → NetArc → NetArc
  half_of Original a = on_original a
  half_of Complement a = on_complement net a

  -- the same of the k-th arc
  abbrev pub half_arc : Half → ℕ → NetArc
  half_arc half k = half_of half (arc_no net.arcs k)

  -- of the arcs from `start` on, one after the other
  abbrev pub half_bytes : Version → Half → ℕ → ℕ → List ℕ
  half_bytes v half start i = kept_bytes v (half_arc half (start + i))

  -- the complement's arcs of one mode
  unfoldable pub row_arcs : ℕ → List NetArc
  row_arcs t = joined (all_pairs net) (λ p. written (mode_no t) p (complement_row net.rule (is_dead net (mode_no t)) (pairs net) (K net) (row net (mode_no t)) p))

  -- in version 2 after their count
  abbrev pub row_bytes : Version → ℕ → List ℕ
  row_bytes v t = group_bytes v (row_arcs t)
