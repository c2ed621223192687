-- The weight's four bytes are there, and within its limits.
use mathlib.Core.Path.{◌≡◌, sym, ◌∙◌}
use native.Mathlib.Omega.{arith}
use mir.Syntax.{w32}
use mir.Val.{to_z, of_z}
use mir.Facts.{to_z-of_z}
use Rattle.heads.specs.Bytes.{u32_at}
use Rattle.heads.specs.Layout.{weight_at}
use Rattle.sheets.specs.lists.Weights.{signed}
use Rattle.sheets.proofs.Listed.{weight-there, weight_is, weight-within}
use Rattle.opened.proofs.listed.weight.Goals as goal

pub u32_at-requires : goal.u32_at-requires
u32_at-requires c =
    omega (arith, weight-there c.args.pairs _ c.requires.s_value c.args.pair.0 c.requires.pair_lt_pairs)

pub returns : goal.returns
returns c =
    let a = c.args in
    let is : to_z w32 (of_z w32 c.signed_of.result) ≡ signed (u32_at a.s.now (weight_at a.pair.0)) =
    to_z-of_z {w = w32} (record { sfits = c.signed_of.type_inv }) ∙ rw c.u32_at.ensures.0 at c.signed_of.ensures in
    (is ∙ sym (weight_is a.pairs _ c.requires.s_value _ c.requires.pair_lt_pairs), rw is (weight-within a.pairs _ c.requires.s_value _ c.requires.pair_lt_pairs))
