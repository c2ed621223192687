-- A count less none is the count.
use mathlib.Core.Path.{◌∙◌, ap₂}
use lib.IntN.{pos, ◌*ℤ◌, +ℤ_idr}
use mir.Syntax.{w32, w64}
use mir.Facts.{to_z-of_z}
use Rattle.statement.proofs.weigh.sums.term.Goals as goal

pub returns : goal.returns
returns c =
    to_z-of_z {w = w64} (record { sfits = c.gain.type_inv }) ∙ c.gain.ensures
    ∙ ap₂ ◌*ℤ◌ (to_z-of_z {w = w32} (record { sfits = c.weight.type_inv }) ∙ c.weight.ensures.0) (+ℤ_idr (pos c.args.count))
