-- The middle arc decides the half.
use native.Mathlib.Omega.{arith}
use Rattle.opened.proofs.Shapes.{sizes}
use Rattle.opened.proofs.Segments.{upper_half, lower_half}
use Rattle.opened.proofs.starts.halve.Goals as goal

pub arc_mode-requires : goal.arc_mode-requires
arc_mode-requires c = let pre = c.requires in record { version_value = pre.version_value; k_lt_arcs = omega (arith, sizes c.args.net.now.is_open, pre.first_between.inside, pre.low_lt_high) }

pub returns-then-arc_mode-t : goal.returns-then-arc_mode-t
returns-then-arc_mode-t c =
    let pre = c.requires in
    upper_half _ (sizes c.args.net.now.is_open).well_formed.rising _ _ pre.first_between _ (omega arith) (omega (arith, pre.low_lt_high)) (rw (← c.arc_mode.ensures) c.if-arc_mode-t.true)

pub returns : goal.returns
returns c =
    let pre = c.requires in
    lower_half _ (sizes c.args.net.now.is_open).well_formed.rising _ _ pre.first_between _ (omega arith) (omega (arith, pre.low_lt_high)) (rw (← c.arc_mode.ensures) c.if-arc_mode-t.false)
