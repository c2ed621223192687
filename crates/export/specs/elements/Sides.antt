-- Which of its two weights a line of an arc has.
-- A reader of the promises may skip this file.
use Rattle.std.specs.Prelude.{ℕ, List}
use Rattle.model.specs.declared.Arc.{Arc}
use Rattle.pnml.specs.Pnml.{pre_text, post_text}
use Rattle.export.specs.declared.elements.Side.{Side}
use Rattle.export.specs.declared.elements.Side.TheVariants.{Pre, Post}

abbrev pub side_weight : Side → Arc → ℕ
side_weight Pre a = a.pre
side_weight Post a = a.post

abbrev pub line_text : Side → ℕ → ℕ → ℕ → List ℕ
line_text Pre = pre_text
line_text Post = post_text
