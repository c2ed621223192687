-- An accepted firing of a mode that changes some count does not leave the marking as it found it.
use Prim.Native.Nat.{ℕ, ◌<◌}
use mathlib.Core.Path.{◌≡◌, sym, ◌∙◌, ap}
use mathlib.Core.List.{List}
use mathlib.Core.Logic.{◌≢◌}
use mathlib.Core.Option.{none}
use native.Mathlib.Omega.{arith}
use Rattle.model.specs.declared.Mode.{Mode}
use Rattle.model.specs.declared.Thing.TheVariants.{Argument}
use Rattle.model.specs.Refusals.{number}
use Rattle.model.specs.Nets.{PNet, pairs, count, row}
use Rattle.model.specs.Firing.{mode_refusal, fired}
use Rattle.movement.proofs.Markings.{marking-after}
use Rattle.sheets.specs.Decoded.{net_of}
use Rattle.fire.proofs.Promises.{mode-accepted}
use Rattle.fire.specs.Calls.{test_refusal, fired_by}
use Rattle.sentences.specs.Frauds.{WritesNothing}
use Rattle.sentences.proofs.Accepting.{number-none}

fired-moves : (net : PNet) (t : Mode) (m : List ℕ) (p : ℕ) → p < pairs net → mode_refusal Argument net t m ≡ none
    → (row net t p).pre ≢ (row net t p).post → fired net t m ≢ m
fired-moves net t m p h e apart same =
    apart (omega (arith, (marking-after Argument net t m e).0 p h, ap (λ m. count m p) same))

pub writes_nothing : WritesNothing
writes_nothing net marking t p h apart o a n same =
    let e = number-none (test_refusal net marking t) (sym (ap number a.0) ∙ n) in
    let left : fired_by net marking t ≡ fired (net_of net) t marking = rw e in
    fired-moves (net_of net) t marking p h (mode-accepted net marking t e) apart (sym (a.1 ∙ left) ∙ same)
