use Prim.Native.Nat.{◌+◌}
use mathlib.Core.Path.{refl, sym, ◌∙◌, ap}
use lib.ListN.{length}
use native.Mathlib.Omega.{arith}
use Rattle.model.specs.Refusals.{answer}
use Rattle.model.proofs.First.{first-none}
use Rattle.model.proofs.Refusals.{answer-run-stops, answer-run-passes}
use Rattle.model.proofs.Asking.{handed_on}
use Rattle.sheets.specs.Decoded.{net_of}
use Rattle.opened.proofs.Shapes.{sizes}
use Rattle.opened.proofs.Segments.{first-arc, first_ends, first-same}
use Rattle.complement.specs.ArcRefusals.{inhibited_at}
use Rattle.complement.proofs.Answers.{each-arc}
use Rattle.complement.proofs.refusals.arcs_answer.Goals as goal

pub loop-t-init : goal.loop-t-init
loop-t-init c = λ k f. rw (first-same _ 0 k 0 f (first-arc _)) (sym (first-none _))

pub returns-in_err-mode_answer : goal.returns-in_err-mode_answer
returns-in_err-mode_answer c =
    let l = c.loop-t in
    let a = c.args in
    let segment = c.arcs_of-arcs.ensures in
    handed_on c.from_residual.ensures
    ∙ answer-run-stops (inhibited_at a.net.now.sheet.now) _ _ (l.invariant _ segment.starts) _ segment.ends.inside c.in_err-mode_answer.ensures refl
    ∙ ap answer (each-arc a.net.now.sheet.now)

pub loop-t-preserved : goal.loop-t-preserved
loop-t-preserved c =
    let l = c.loop-t in
    let a = c.args in
    let segment = c.arcs_of-arcs.ensures in
    let here = answer-run-passes (inhibited_at a.net.now.sheet.now) _ _ (l.invariant _ segment.starts) c.in_ok-mode_answer.ensures refl in
    λ k f. rw (first-same _ (l.t + 1) k _ f segment.ends) here

pub returns : goal.returns
returns c =
    let l = c.loop-t in
    let z = sizes c.args.net.now.is_open in
    let arcs = (net_of c.args.net.now.sheet.now).arcs in
    let ends = first_ends arcs l.t (length arcs) refl (record { each = λ k h. omega (arith, z.modes, (z.well_formed.each_arc k h).mode) }) in
    ap answer (sym (l.invariant _ ends) ∙ each-arc c.args.net.now.sheet.now)

pub overflow_cast-t : goal.overflow_cast-t
overflow_cast-t c = omega (arith, (sizes c.args.net.now.is_open).modes_within)
