-- The three numbers by the version; the arc is one of its mode's.
use Prim.Native.Nat.{◌+◌, ◌*◌, ◌≤◌}
use mathlib.Core.Path.{sym, ◌∙◌, ap, subst}
use lib.ListN.{length}
use native.Mathlib.Omega.{arith}
use Rattle.heads.specs.Layout.{tail_size}
use Rattle.opened.specs.Shape.{lead_of, stride_of}
use Rattle.opened.proofs.Shapes.{shaped, sizes, arcs-at-most, arc-there}
use Rattle.opened.proofs.Segments.{own-there, own-mode}
use Rattle.opened.proofs.Versions.{tail-is, steps-small, fits, sum_fits}
use Rattle.opened.proofs.arcs.tail_of.Goals as goal

pub returns : goal.returns
returns c =
    let o = c.args.net.now.is_open in
    let a = c.args in
    let v = (shaped o).version in
    let lead = c.lead.ensures.0 ∙ ap (λ v. lead_of v a.arcs.mode.0) v in
    let is = tail-is a.net.now.sheet.now a.arcs.mode.0 (a.arcs.start + a.i) (shaped o).arcs_offset lead (c.stride.ensures.0 ∙ ap stride_of v) in
    (is, subst (λ r. r + tail_size ≤ length a.net.now.sheet.now) (sym is) (arc-there o _ _ (own-there c.requires.own_arc) (own-mode c.requires.own_arc)))

pub overflow_add-result : goal.overflow_add-result
overflow_add-result c = omega (arith, arcs-at-most c.args.net.now.is_open, c.lead.ensures.1)

pub overflow_add-result-2 : goal.overflow_add-result-2
overflow_add-result-2 c = let within : c.args.arcs.start + c.args.i ≤ 2048 = let z = sizes c.args.net.now.is_open in omega (arith, own-there c.requires.own_arc, z.arcs, z.arcs_within) in
    omega (arith, within)

pub overflow_mul-result : goal.overflow_mul-result
overflow_mul-result c = let within : c.args.arcs.start + c.args.i ≤ 2048 = let z = sizes c.args.net.now.is_open in omega (arith, own-there c.requires.own_arc, z.arcs, z.arcs_within) in let steps : let a = c.args in c.stride.result * (a.arcs.start + a.i) ≤ 32768 = steps-small c.args.net.now.shape.version _ c.stride.ensures.0 within in
    fits steps

pub overflow_add-result-3 : goal.overflow_add-result-3
overflow_add-result-3 c = let within : c.args.arcs.start + c.args.i ≤ 2048 = let z = sizes c.args.net.now.is_open in omega (arith, own-there c.requires.own_arc, z.arcs, z.arcs_within) in let steps : let a = c.args in c.stride.result * (a.arcs.start + a.i) ≤ 32768 = steps-small c.args.net.now.shape.version _ c.stride.ensures.0 within in
    sum_fits (arcs-at-most c.args.net.now.is_open) c.lead.ensures.1 steps
