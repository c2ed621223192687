use mathlib.Core.Path.{◌≡◌}
use native.Mathlib.Omega.{arith}
use Rattle.onepass.proofs.OnePass.{to-writable, wrote_none, wrote-more, through-stops, through-ends}
use Rattle.numbers.proofs.fire_through.Goals as goal

pub loop-i-init : goal.loop-i-init
loop-i-init c = wrote_none c.requires.at_mode

pub fire_arc-requires : goal.fire_arc-requires
fire_arc-requires c =
    let l = c.loop-i in
    let pre = c.requires in
    record {
      numbered = pre.numbered;
      own_arc = record { own = pre.at_mode.own; there = c.loop-i-test.true };
      writable = rw l.invariant.leaves (to-writable pre.at_mode l.i c.loop-i-test.true);
    }

pub returns-then-not-fire_arc : goal.returns-then-not-fire_arc
returns-then-not-fire_arc c =
    through-stops c.requires.at_mode c.loop-i.invariant c.loop-i-test.true c.fire_arc.ensures c.if-not-fire_arc.true

pub loop-i-preserved : goal.loop-i-preserved
loop-i-preserved c = wrote-more c.requires.at_mode c.loop-i.invariant c.loop-i-test.true c.fire_arc.ensures c.if-not-fire_arc.false

pub returns : goal.returns
returns c =
    let e : c.loop-i.i ≡ c.args.arcs.count = omega arith in
    through-ends c.requires.at_mode (rw e at c.loop-i.invariant) (omega arith)
