-- The arcs of a mode are those of its segment.
use Prim.Native.Nat.{ℕ, ◌+◌}
use mathlib.Core.Path.{◌≡◌}
use mathlib.Core.List.{List, flat_map}
use lib.ListN.{length}
use Rattle.model.specs.declared.Mode.{Mode}
use Rattle.model.specs.declared.Version.{Version}
use Rattle.model.specs.Nets.{NetArc, arc_no}
use Rattle.model.specs.Lists.{joined}
use Rattle.opened.specs.Starts.{ModeArcs}
use Rattle.sheets.specs.written.Written.{arc_bytes, of_mode}
use Rattle.sheets.proofs.written.Together.{together-count, together-each}

module _ (arcs : List NetArc) (t : Mode) (start count : ℕ) (own : ModeArcs arcs t start count) where
  pub segment-count : count ≡ length (of_mode arcs t.0)
  segment-count = together-count arcs t.0 start count own.fits own.own own.all

  pub segment_bytes : (v : Version) → flat_map (arc_bytes v) (of_mode arcs t.0) ≡ joined count (λ i. arc_bytes v (arc_no arcs (start + i)))
  segment_bytes v = together-each arcs t.0 start count own.fits own.own own.all (arc_bytes v)
