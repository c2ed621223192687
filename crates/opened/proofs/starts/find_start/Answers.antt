-- By the version.
use mathlib.Core.Path.{sym, ◌∙◌}
use native.Mathlib.Omega.{arith}
use Rattle.opened.proofs.Shapes.{shaped}
use Rattle.opened.proofs.Versions.{before-first}
use Rattle.opened.proofs.starts.find_start.Goals as goal

pub arcs_before-requires : goal.arcs_before-requires
arcs_before-requires c = let pre = c.requires in
    let z = shaped c.args.net.now.is_open in record { s_value = c.args.net.now.is_open.accepted; s_value_2 = sym z.version ∙ c.in-Two.is; base_value = (z.arcs_offset, omega (arith, z.modes, pre.t_lt_modes)) }

pub returns-in-Two : goal.returns-in-Two
returns-in-Two c =
    let pre = c.requires in
    before-first c.arcs_before.ensures (omega (arith, (shaped c.args.net.now.is_open).modes, pre.t_lt_modes))
