-- Pre, then Post.
use mathlib.Core.Path.{sym, ◌∙◌, ap, ap₂}
use Prim.Native.Nat.{◌+◌}
use lib.ListN.{length}
use native.Mathlib.Omega.{arith}
use Rattle.pnml.specs.Pnml.{arc_text}
use Rattle.export.proofs.texts.Texts.{arc-long}
use Rattle.export.proofs.texts.lengths.arc_length.Goals as goal

pub returns : goal.returns
returns c =
    let pre = c.weight_size.ensures in
    let post = c.weight_size-2.ensures in
    (ap₂ ◌+◌ pre.0 post.0 ∙ sym (arc-long _) ∙ ap (λ a. length (arc_text a)) c.arc-a.ensures.is, omega (arith, pre.1, post.1))
