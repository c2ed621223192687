use borrow.Author.Rules.{rules}
use mathlib.Core.Path.{refl}
use native.Mathlib.Omega.{arith}
use Rattle.statement.proofs.fleet.Weighing.{along-none, along-more, along-ends, along-entry, change-small, counted, added-fits, removed-fits}
use Rattle.statement.proofs.fleet.voyage.weigh_run.Goals as goal

pub write_changes-requires : goal.write_changes-requires
write_changes-requires c = let pre = c.requires in record { starts_are = pre.starts_are; weights_value = pre.read.weighed; changes_len = refl }

pub loop-k-init : goal.loop-k-init
loop-k-init c = along-none _ _ _

pub movement-mode-requires : goal.movement-mode-requires
movement-mode-requires c = let pre = c.requires in record { k_in_bounds = omega (arith, c.loop-k-test.true, counted pre.read pre.run_tells) }

pub offset_bounds-changes-mode : goal.offset_bounds-changes-mode
offset_bounds-changes-mode c =
    let pre = c.requires in
    record { fits = omega (arith, along-entry pre.read pre.run_tells c.loop-k-test.true c.movement-mode.ensures) }

pub bounds-changes-mode : goal.bounds-changes-mode
bounds-changes-mode c =
    let pre = c.requires in
    along-entry pre.read pre.run_tells c.loop-k-test.true c.movement-mode.ensures

pub overflow_add-added : goal.overflow_add-added
overflow_add-added c =
    let pre = c.requires in
    added-fits pre.read pre.run_tells c.loop-k-test.true c.movement-mode.ensures c.write_changes.ensures
    (search rules) c.loop-k.invariant c.gained-added.type_inv c.gained-added.ensures

pub lost-removed-requires : goal.lost-removed-requires
lost-removed-requires c =
    let pre = c.requires in
    change-small pre.read pre.run_tells c.loop-k-test.true c.movement-mode.ensures c.write_changes.ensures
    (search rules)

pub overflow_add-removed : goal.overflow_add-removed
overflow_add-removed c =
    let pre = c.requires in
    removed-fits pre.read pre.run_tells c.loop-k-test.true c.movement-mode.ensures c.write_changes.ensures
    (search rules) c.loop-k.invariant c.lost-removed.type_inv c.lost-removed.ensures

pub loop-k-preserved : goal.loop-k-preserved
loop-k-preserved c =
    let pre = c.requires in
    along-more pre.read pre.run_tells c.loop-k-test.true c.movement-mode.ensures c.write_changes.ensures (search rules) c.loop-k.invariant
    c.gained-added.type_inv c.gained-added.ensures c.lost-removed.type_inv c.lost-removed.ensures

pub returns : goal.returns
returns c =
    let pre = c.requires in
    along-ends pre.read pre.run_tells c.loop-k.invariant c.loop-k.auto.k-end c.loop-k-test.false
