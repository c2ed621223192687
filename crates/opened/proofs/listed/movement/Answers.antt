-- A movement sheet's modes stand from its first field on.
use mathlib.Core.Path.{sym, ◌∙◌}
use native.Mathlib.Omega.{arith}
use Rattle.sheets.proofs.Listed.{movements-length, movement-is, movements_stand}
use Rattle.opened.proofs.listed.movement.Goals as goal

pub mode_at-requires : goal.mode_at-requires
mode_at-requires c =
    omega (arith, movements-length c.args.list.now.sheet.now, movements_stand _ c.args.list.now.is_listed)

pub returns : goal.returns
returns c =
    rw c.movements_at.ensures at c.mode_at.ensures ∙ sym (movement-is _ _ c.requires.k_in_bounds)
