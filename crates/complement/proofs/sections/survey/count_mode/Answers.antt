use borrow.Author.Rules.{rules}
use Prim.Native.Nat.{◌+◌}
use mathlib.Core.Path.{◌≡◌, ◌∙◌}
use native.Mathlib.Omega.{arith}
use Rattle.sheets.specs.Decoded.{net_of}
use Rattle.opened.proofs.Shapes.{sizes}
use Rattle.complement.proofs.sections.Counts.{count_none, count-more}
use Rattle.complement.proofs.sections.ModeHalves.{both_halves, mode-count}
use Rattle.complement.proofs.sections.survey.count_mode.Goals as goal

pub overflow_add-count : goal.overflow_add-count
overflow_add-count c =
    let pre = c.requires in
    omega (arith, sizes c.args.bounded.now.net.now.is_open, pre.mode_arcs.fits)

pub loop-i-preserved : goal.loop-i-preserved
loop-i-preserved c =
    let l = c.loop-i in
    let a = c.args in (
      count-more (λ i. both_halves (net_of a.bounded.now.net.now.sheet.now) (a.arcs.start + i)) l.i l.invariant.0 c.count_halves-count.ensures.0,
      search rules,
    )

pub returns : goal.returns
returns c =
    let l = c.loop-i in
    let e : l.i ≡ c.args.arcs.count = omega arith in (
      (rw e at l.invariant.0) ∙ mode-count _ (sizes c.args.bounded.now.net.now.is_open).well_formed c.args.arcs.mode.0 _ _ c.requires.mode_arcs,
      search rules,
    )

pub loop-i-init : goal.loop-i-init
loop-i-init c = (count_none _, search arith)
