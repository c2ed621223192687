use Prim.Native.Nat.{◌+◌}
use mathlib.Core.Path.{◌≡◌, refl}
use native.Mathlib.Omega.{arith}
use Rattle.sheets.specs.Decoded.{net_of}
use Rattle.opened.proofs.dead.Searches.{arc-kills}
use Rattle.complement.specs.sections.Arcs.{clear_at}
use Rattle.complement.proofs.sections.Every.{every-none, every_more}
use Rattle.complement.proofs.sections.Surveys.{searched_none, searched_more, searched_all}
use Rattle.complement.proofs.sections.survey.find_faults.Goals as goal

pub loop-i-init : goal.loop-i-init
loop-i-init c = (every-none _, searched_none c.args.net.now.is_open _ _ _ c.requires.mode_arcs)

pub loop-i-preserved : goal.loop-i-preserved
loop-i-preserved c =
    let l = c.loop-i in
    let here = arc-kills c.arc.ensures c.kills-dead.ensures in (
      every_more (λ i. clear_at (net_of c.args.net.now.sheet.now) (c.args.arcs.start + i)) l.i l.invariant.0 c.arc_clear-clear.ensures refl,
      searched_more c.args.net.now.is_open _ _ _ c.requires.mode_arcs l.i _ _ c.loop-i-test.true l.invariant.1 here refl,
    )

pub returns : goal.returns
returns c =
    let l = c.loop-i in
    let e : l.i ≡ c.args.arcs.count = omega arith in
    (rw e at l.invariant.0, searched_all c.args.net.now.is_open _ _ _ c.requires.mode_arcs _ (rw e at l.invariant.1))
