use mathlib.Core.Path.{sym, ◌∙◌}
use lib.IntN.{pos}
use lib.ListN.{length-set}
use native.Mathlib.Omega.{arith}
use mir.Syntax.{w64}
use mir.Facts.{to_z-of_z}
use Rattle.model.proofs.Tables.{filled_more}
use Rattle.opened.proofs.Shapes.{sizes}
use Rattle.statement.proofs.weigh.changes.write_changes.Invariants.{Is}
use Rattle.statement.proofs.weigh.changes.write_changes.Goals as goal

pub loop-t-init : goal.loop-t-init
loop-t-init c = (c.requires.changes_len, λ u h. absurd (omega arith))

pub overflow_cast-t : goal.overflow_cast-t
overflow_cast-t c = record { fits = omega (arith, c.loop-t-test.true, (sizes c.args.net.now.is_open).modes_within) }

pub change_of-requires : goal.change_of-requires
change_of-requires c = let pre = c.requires in record { starts_are = pre.starts_are; weights_value = pre.weights_value; mode_lt_modes = c.loop-t-test.true }

pub offset_bounds-changes-t : goal.offset_bounds-changes-t
offset_bounds-changes-t c = record { fits = omega (arith, c.loop-t-test.true, (sizes c.args.net.now.is_open).modes_within) }

pub bounds-changes-t : goal.bounds-changes-t
bounds-changes-t c =
    let within = (sizes c.args.net.now.is_open).modes_within in
    omega (arith, c.loop-t.invariant.0)

pub loop-t-preserved : goal.loop-t-preserved
loop-t-preserved c =
    let l = c.loop-t in
    let within = (sizes c.args.net.now.is_open).modes_within in
    let there = c.loop-t-test.true in
    let is = to_z-of_z {w = w64} (record { sfits = c.change_of.type_inv }) ∙ c.change_of.ensures in (
      length-set l.changes _ _ ∙ l.invariant.0,
      filled_more (Is c.args.net.now.sheet.now c.args.weights.now) (pos 0) l.changes l.t _ (omega (arith, l.invariant.0)) l.invariant.1 is,
    )

pub shape_of-changes : goal.shape_of-changes
shape_of-changes c = c.loop-t.invariant.0 ∙ sym c.requires.changes_len

pub returns : goal.returns
returns c =
    let l = c.loop-t in
    let z = sizes c.args.net.now.is_open in
    record {
      long = omega (arith, l.invariant.0, z.modes, z.modes_within);
      each = λ t h. l.invariant.1 t (omega (arith, c.loop-t-test.false, z.modes));
    }
