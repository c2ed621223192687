-- Each half is one arc or none.
use borrow.Author.Rules.{rules}
use mathlib.Core.Path.{◌∙◌, ap}
use lib.ListN.{length, length-append}
use native.Mathlib.Omega.{arith}
use Rattle.complement.specs.sections.Arcs.{kept}
use Rattle.complement.proofs.sections.survey.count_halves.Goals as goal

pub returns : goal.returns
returns c =
    let original = c.count_kept.ensures.0 ∙ ap (λ a. length (kept a)) c.half_arc-original.ensures in
    let complement = c.count_kept-2.ensures.0 ∙ ap (λ a. length (kept a)) c.half_arc-complement.ensures in
    (rw length-append (omega (arith, original, complement)), search rules)
