-- The arc that was read is the i-th.
use mathlib.Core.Path.{◌∙◌, ap}
use lib.IntN.{pos, ◌*ℤ◌, ◌-ℤ◌}
use mir.Syntax.{w32, w64}
use mir.Facts.{to_z-of_z}
use Rattle.movement.proofs.Figures.{gain}
use Rattle.sheets.specs.Decoded.{weights_of}
use Rattle.statement.proofs.weigh.sums.arc_gain.Goals as goal

pub returns : goal.returns
returns c =
    to_z-of_z {w = w64} (record { sfits = c.gain.type_inv }) ∙ c.gain.ensures
    ∙ ap (λ z. z *ℤ (pos c.arc-arc.result.post -ℤ pos c.arc-arc.result.pre)) (to_z-of_z {w = w32} (record { sfits = c.weight.type_inv }) ∙ c.weight.ensures.0)
    ∙ ap (gain (weights_of c.args.weights.now)) c.arc-arc.ensures.is
