-- By the version.
use mathlib.Core.Path.{sym, ◌∙◌, ap}
use native.Mathlib.Omega.{arith}
use Rattle.heads.specs.Bytes.{u16_at}
use Rattle.sheets.proofs.nets.Valid.{headed}
use Rattle.opened.proofs.Versions.{count-there, count-one, count-two}
use Rattle.opened.proofs.groups.count_arcs.Goals as goal

pub count_at-requires : goal.count_at-requires
count_at-requires c =
    let pre = c.requires in
    let one = sym c.version_of.ensures ∙ c.in-One.is in
    omega (arith, pre.base_value.0, count-there _ pre.s_value one)

pub arcs_before-requires : goal.arcs_before-requires
arcs_before-requires c = let pre = c.requires in record { s_value = pre.s_value; s_value_2 = sym c.version_of.ensures ∙ c.in-Two.is; base_value = (pre.base_value.0, omega (arith, pre.base_value.1)) }

pub returns-in-One : goal.returns-in-One
returns-in-One c =
    let one = sym c.version_of.ensures ∙ c.in-One.is in
    c.count_at.ensures.0 ∙ ap (u16_at c.args.s.now) c.requires.base_value.0 ∙ sym (count-one _ one)

pub returns-in-Two : goal.returns-in-Two
returns-in-Two c = count-two c.arcs_before.ensures c.requires.base_value.1

pub version_of-requires : goal.version_of-requires
version_of-requires c = omega (arith, headed _ c.requires.s_value)
