-- The arc does not let its mode pass; or M - Pre + Post is stored at its pair.
use Prim.Native.Nat.{◌≤◌, ◌<◌}
use mathlib.Core.Path.{refl, ap}
use lib.ListN.{length}
use native.Mathlib.Omega.{arith}
use Rattle.model.specs.Numbers.{limit}
use Rattle.model.specs.Nets.{NetArc, count}
use Rattle.sheets.specs.Decoded.{net_of}
use Rattle.opened.proofs.Shapes.{sizes}
use Rattle.onepass.proofs.OnePass.{passes_not, passes-enough, passes_so}
use Rattle.numbers.proofs.fire_arc.Goals.{After-arc-arc}
use Rattle.numbers.proofs.fire_arc.Goals as goal

-- the count where the arc stands is in range, and stands there
in_range_lem : (c : After-arc-arc) → count c.args.marking.now c.arc-arc.result.pair.0 ≤ limit
in_range_lem c = rw (← ap (λ (a : NetArc). a.pair.0) c.arc-arc.ensures.is) at c.requires.writable.in_range

pub lets_pass-requires : goal.lets_pass-requires
lets_pass-requires c =
    let pre = c.requires in
    record {
      numbered = pre.numbered;
      own_arc = pre.own_arc;
      arc_is = c.arc-arc.ensures;
      count_le_limit = in_range_lem (goal.at.lets_pass-requires c).After-arc-arc;
    }

pub returns-then-not-lets_pass : goal.returns-then-not-lets_pass
returns-then-not-lets_pass c =
    passes_not _ _ _ _ c.arc-arc.ensures.is c.lets_pass.ensures c.if-not-lets_pass.true

pub overflow_sub-marking : goal.overflow_sub-marking
overflow_sub-marking c =
    let args = c.args in
    passes-enough (net_of args.net.now.sheet.now) args.marking.now _ _ c.arc-arc.ensures.is c.lets_pass.ensures c.if-not-lets_pass.false

pub overflow_add-marking : goal.overflow_add-marking
overflow_add-marking c = omega (arith, in_range_lem (goal.at.overflow_add-marking c).After-arc-arc, c.arc-arc.ensures.post)

pub returns : goal.returns
returns c =
    passes_so _ _ _ _ c.arc-arc.ensures.is c.lets_pass.ensures c.if-not-lets_pass.false refl

pub bounds-marking-p : goal.bounds-marking-p
bounds-marking-p c = omega (arith, (sizes c.requires.numbered.opened).pairs)

pub bounds-marking-p-2 : goal.bounds-marking-p-2
bounds-marking-p-2 c = omega (arith, (sizes c.requires.numbered.opened).pairs)
