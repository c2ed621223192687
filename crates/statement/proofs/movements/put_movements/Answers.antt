use borrow.Author.Rules.{rules}
use mathlib.Core.Path.{refl, ◌∙◌}
use native.Mathlib.Omega.{arith}
use mir.Facts.{to_z-of_z}
use Rattle.opened.proofs.Shapes.{sizes}
use Rattle.statement.proofs.Telling.{along-none, along-more, along-stops, along-ends, counted, refused-there, along-room, along-line, along-last, along-entry, next_fits}
use Rattle.statement.proofs.movements.put_movements.Goals as goal

pub write_changes-requires : goal.write_changes-requires
write_changes-requires c = let pre = c.requires in record { starts_are = pre.starts_are; weights_value = pre.read.weighed; changes_len = refl }

pub loop-k-init : goal.loop-k-init
loop-k-init c =
    let pre = c.requires in (
      refl,
      along-none _ _ _ (sizes pre.read.opened).well_formed.start (to_z-of_z c.ranges.first ∙ pre.first_value) (omega (arith, pre.at_in_bounds)),
    )

pub movement-mode-requires : goal.movement-mode-requires
movement-mode-requires c = let pre = c.requires in record { k_in_bounds = omega (arith, c.loop-k-test.true, counted pre.read pre.run_tells) }

pub offset_bounds-changes-mode : goal.offset_bounds-changes-mode
offset_bounds-changes-mode c =
    let pre = c.requires in
    record { fits = omega (arith, along-entry pre.read pre.run_tells c.loop-k.invariant.1 c.loop-k-test.true c.movement-mode.ensures) }

pub bounds-changes-mode : goal.bounds-changes-mode
bounds-changes-mode c =
    let pre = c.requires in
    along-entry pre.read pre.run_tells c.loop-k.invariant.1 c.loop-k-test.true c.movement-mode.ensures

pub overflow_add-figure : goal.overflow_add-figure
overflow_add-figure c =
    let pre = c.requires in
    next_fits pre.read pre.run_tells c.loop-k.invariant.1 c.loop-k-test.true c.movement-mode.ensures c.write_changes.ensures (search rules)

pub put_accepted-end-requires : goal.put_accepted-end-requires
put_accepted-end-requires c = let pre = c.requires in record { at_in_bounds = along-line pre.read pre.run_tells c.loop-k.invariant.1 c.loop-k-test.true pre.at_in_bounds }

pub loop-k-preserved : goal.loop-k-preserved
loop-k-preserved c =
    let pre = c.requires in
    let h = c.loop-k-test.true in (
      c.put_accepted-end.auto.out ∙ c.loop-k.invariant.0,
      along-more pre.read pre.run_tells c.loop-k.invariant.1 h c.movement-mode.ensures c.write_changes.ensures (search rules)
          c.put_accepted-end.ensures,
    )

pub put_stop-requires : goal.put_stop-requires
put_stop-requires c =
    let pre = c.requires in
    record { accepted_in_bounds = refused-there pre.read pre.run_tells c.in-Err.is; at_in_bounds = along-room pre.read pre.run_tells c.loop-k.invariant.1 c.loop-k.auto.k-end pre.at_in_bounds }

pub shape_of-out-in-Err : goal.shape_of-out-in-Err
shape_of-out-in-Err c = c.put_stop.auto.out ∙ c.loop-k.invariant.0

pub returns-in-Err : goal.returns-in-Err
returns-in-Err c =
    let pre = c.requires in
    along-stops pre.read pre.run_tells c.loop-k.invariant.1 c.loop-k.auto.k-end c.loop-k-test.false c.in-Err.is
    c.put_stop.ensures

pub put_end-requires : goal.put_end-requires
put_end-requires c =
    let pre = c.requires in
    along-last pre.read pre.run_tells c.loop-k.invariant.1 c.loop-k.auto.k-end pre.at_in_bounds

pub shape_of-out : goal.shape_of-out
shape_of-out c = c.put_end.auto.out ∙ c.loop-k.invariant.0

pub returns : goal.returns
returns c =
    let pre = c.requires in
    along-ends pre.read pre.run_tells c.loop-k.invariant.1 c.loop-k.auto.k-end c.loop-k-test.false c.in_default.is c.put_end.ensures
