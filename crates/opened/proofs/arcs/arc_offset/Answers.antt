-- In version 1 the arc's own mode stands before its 14 bytes.
use Prim.Native.Nat.{◌+◌}
use mathlib.Core.Path.{◌≡◌, sym, ◌∙◌}
use native.Mathlib.Omega.{arith}
use Rattle.opened.specs.Shape.{arc_offset}
use Rattle.opened.proofs.Shapes.{shaped}
use Rattle.opened.proofs.Segments.{own-there, own-mode}
use Rattle.opened.proofs.Versions.{offset-one, offset-two}
use Rattle.opened.proofs.arcs.arc_offset.Goals as goal

pub returns-in-Two : goal.returns-in-Two
returns-in-Two c =
    let pre = c.requires in
    let o = c.args.net.now.is_open in
    c.tail_of-tail.ensures.0 ∙ offset-two _ o.accepted _ _ (own-there pre.own_arc) (own-mode pre.own_arc) (sym (shaped o).version ∙ c.in-Two.is)

pub overflow_sub-result : goal.overflow_sub-result
overflow_sub-result c = let before : let a = c.args in c.tail_of-tail.result ≡ arc_offset a.net.now.sheet.now (a.arcs.start + a.i) + 2 = let pre = c.requires in
    let o = c.args.net.now.is_open in
    c.tail_of-tail.ensures.0 ∙ offset-one _ o.accepted _ _ (own-there pre.own_arc) (own-mode pre.own_arc) (sym (shaped o).version ∙ c.in-One.is) in
    omega (arith, before)

pub returns-in-One : goal.returns-in-One
returns-in-One c = let before : let a = c.args in c.tail_of-tail.result ≡ arc_offset a.net.now.sheet.now (a.arcs.start + a.i) + 2 = let pre = c.requires in
    let o = c.args.net.now.is_open in
    c.tail_of-tail.ensures.0 ∙ offset-one _ o.accepted _ _ (own-there pre.own_arc) (own-mode pre.own_arc) (sym (shaped o).version ∙ c.in-One.is) in
    omega (arith, before)
