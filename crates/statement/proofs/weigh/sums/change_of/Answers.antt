-- The mode's own arcs are enough.
use mathlib.Core.Path.{◌∙◌}
use mir.Syntax.{w64}
use mir.Facts.{to_z-of_z}
use Rattle.opened.proofs.Segments.{segment-own}
use Rattle.statement.proofs.weigh.Terms.{gains-change}
use Rattle.statement.proofs.weigh.sums.change_of.Goals as goal

pub arcs_of-requires : goal.arcs_of-requires
arcs_of-requires c = let pre = c.requires in record { starts_are = pre.starts_are; mode_lt_modes = pre.mode_lt_modes }

pub gains-requires : goal.gains-requires
gains-requires c = let pre = c.requires in record { weights_value = pre.weights_value; mode_arcs = c.arcs_of.ensures.own }

pub returns : goal.returns
returns c = to_z-of_z {w = w64} (record { sfits = c.gains.type_inv }) ∙ c.gains.ensures ∙ gains-change c.args.net.now.is_open _ _ _ _ (segment-own c.arcs_of.ensures)
