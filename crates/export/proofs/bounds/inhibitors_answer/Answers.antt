use Prim.Native.Nat.{◌+◌}
use mathlib.Core.Path.{refl, sym, ◌∙◌, ap}
use lib.ListN.{length}
use native.Mathlib.Omega.{arith}
use Rattle.model.specs.Refusals.{answer}
use Rattle.model.proofs.First.{first-none}
use Rattle.model.proofs.Refusals.{answer-run-stops, answer-run-passes}
use Rattle.model.proofs.Asking.{handed_on}
use Rattle.sheets.specs.Decoded.{net_of}
use Rattle.opened.proofs.Shapes.{sizes}
use Rattle.opened.proofs.Segments.{first-arc, first_ends, first-same}
use Rattle.export.specs.Bounds.{inhibitor_refusal}
use Rattle.export.proofs.Answers.{each-inhibitor}
use Rattle.export.proofs.bounds.inhibitors_answer.Goals as goal

pub returns-in_err-mode_answer : goal.returns-in_err-mode_answer
returns-in_err-mode_answer c =
    let l = c.loop-t in
    let s = c.args.net.now.sheet.now in
    let segment = c.arcs_of-arcs.ensures in
    let stopped = handed_on c.from_residual.ensures in
    answer-run-stops (inhibitor_refusal s) _ _ (l.invariant _ segment.starts) _ segment.ends.inside (stopped ∙ c.in_err-mode_answer.ensures) stopped
    ∙ ap answer (each-inhibitor s)

pub loop-t-preserved : goal.loop-t-preserved
loop-t-preserved c =
    let l = c.loop-t in
    let segment = c.arcs_of-arcs.ensures in
    let here = answer-run-passes (inhibitor_refusal c.args.net.now.sheet.now) _ _ (l.invariant _ segment.starts) c.in_ok-mode_answer.ensures refl in
    λ k f. rw (first-same _ (l.t + 1) k _ f segment.ends) here

pub returns : goal.returns
returns c =
    let l = c.loop-t in
    let start = c.args in
    let z = sizes c.args.net.now.is_open in
    let arcs = (net_of start.net.now.sheet.now).arcs in
    let ends = first_ends arcs l.t (length arcs) refl (record { each = λ k h. omega (arith, z.modes, (z.well_formed.each_arc k h).mode) }) in
    ap answer (sym (l.invariant _ ends) ∙ each-inhibitor start.net.now.sheet.now)

pub loop-t-init : goal.loop-t-init
loop-t-init c = λ k f. rw (first-same _ 0 k 0 f (first-arc _)) (sym (first-none _))

pub overflow_cast-t : goal.overflow_cast-t
overflow_cast-t c = omega (arith, (sizes c.args.net.now.is_open).modes_within)
