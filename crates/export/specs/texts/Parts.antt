-- The text of a net part by part.
-- A reader of the promises may skip this file.
use Rattle.std.specs.Prelude.{ℕ, ◌+◌, ◌≤◌, List, length}
use Rattle.model.specs.Nets.{PNet, count, arc_no}
use Rattle.model.specs.declared.Arc.{Arc}
use Rattle.export.specs.declared.elements.Side.{Side}
use Rattle.export.specs.elements.Sides.{side_weight, line_text}
use Rattle.pnml.specs.Pnml.{closing, place_text, positive, arc_text}

-- the p-th place, the two lines of an arc, and the k-th arc
abbrev pub place_of : PNet → ℕ → List ℕ
place_of net p = place_text p (count net.start p)

abbrev pub side_text : Side → Arc → List ℕ
side_text side a = positive (side_weight side a) (line_text side a.mode.0 a.pair.0)

abbrev pub arc_no_text : PNet → ℕ → List ℕ
arc_no_text net k = arc_text (arc_no net.arcs k)

-- there is room for these bytes and, after them, the closing text
pub record RoomFor (out : List ℕ) (at : ℕ) (bytes : List ℕ) : Type 0 where
  pub fits : at + (length bytes + length closing) ≤ length out
