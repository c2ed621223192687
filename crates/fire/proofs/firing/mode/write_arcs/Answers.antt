use borrow.Author.Rules.{rules}
use mathlib.Core.Path.{refl, ◌∙◌, ap}
use lib.ListN.{length}
use Rattle.movement.proofs.ByArcs.{write_arcs, write_length}
use Rattle.fire.proofs.firing.ByMode.{writable, written_next, fires}
use Rattle.fire.proofs.firing.mode.write_arcs.Goals as goal

pub loop-i-init : goal.loop-i-init
unfolding write_arcs
loop-i-init c = refl

pub write_arc-requires : goal.write_arc-requires
write_arc-requires c = let l = c.loop-i in
    let pre = c.requires in record { own_arc = search rules; writable = rw l.invariant (writable pre _ pre.own l.i c.loop-i-test.true) }

pub loop-i-preserved : goal.loop-i-preserved
loop-i-preserved c =
    let l = c.loop-i in
    let pre = c.requires in
    c.write_arc.ensures ∙ rw l.invariant (written_next pre _ pre.own l.i)

pub shape_of-marking : goal.shape_of-marking
shape_of-marking c = ap length c.loop-i.invariant ∙ write_length _ _ c.loop-i.i

pub returns : goal.returns
returns c = λ t own.
    c.loop-i.invariant
    ∙ fires c.requires t own c.loop-i.i c.loop-i.auto.i-end c.loop-i-test.false
