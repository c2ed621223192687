-- The kilograms are told as they are.
use mathlib.Core.Path.{◌≡◌, ap}
use native.Mathlib.Omega.{arith}
use mir.Syntax.{w64}
use mir.Val.{SFits, to_z, of_z}
use mir.Facts.{to_z-of_z}
use Rattle.model.specs.Replies.{yields}
use Rattle.answers.specs.Told.{weighed}
use Rattle.answers.proofs.WeighedFromResultI64Refusal.from.Goals as goal

pub returns-in-Ok : goal.returns-in-Ok
returns-in-Ok c =
    let kilograms = c.in-Ok.kilograms in
    let fits : SFits w64 kilograms = record { sfits = c.in-Ok.known_told-1-own.given.0.1 } in
    let same : to_z w64 (of_z w64 kilograms) ≡ kilograms = to_z-of_z fits in
    rw (c.in-Ok.is, c.accepted.ensures) (ap (λ z. weighed (yields z)) (grind (arith, same)))
