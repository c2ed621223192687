-- An answer with a figure: of a chain whose first part has been tested, and with the sum that a call has given.
use Prim.Native.Nat.{ℕ, ◌^◌, ◌<◌}
use mathlib.Core.Path.{◌≡◌, refl, sym, ◌∙◌, ap}
use mathlib.Core.List.{List}
use mathlib.Core.Option.{Option, none, some}
use lib.IntN.{ℤ}
use lib.Signed.{mag}
use mir.Syntax.{w64}
use mir.Val.{hbits, to_z, of_z}
use mir.Facts.{to_z-of_z}
use Rattle.model.specs.declared.Refusal.{Refusal}
use Rattle.std.specs.Prelude.{Ok, Err, Result}
use Rattle.model.specs.First.{◌▸◌}
use Rattle.model.specs.Refusals.{answer}
use Rattle.model.specs.Nets.{pairs}
use Rattle.model.proofs.First.{left-none, none_then, some_then}
use Rattle.model.proofs.Refusals.{answer-refused}
use Rattle.model.proofs.Asking.{no_refusal}
use Rattle.opened.specs.declared.shape.NetShape.{NetShape}
use Rattle.sheets.specs.lists.Weights.{weights_refusal}
use Rattle.sheets.specs.Whole.{whole_weights}
use Rattle.sheets.specs.Decoded.{net_of}
use Rattle.opened.specs.Shape.{Open}
use Rattle.opened.proofs.Shapes.{sizes}
use Rattle.statement.specs.weigh.Calls.{figured}

pub figured-stops : (o p : Option Refusal) {r : Refusal} {x : Result ℤ Refusal} (z : ℤ) → o ≡ some r → x ≡ Err r → x ≡ figured (o ▸ p) z
unfolding figured
figured-stops o p z e h = rw (some_then p e) h

pub figured-goes-on : (o p : Option Refusal) {x : Result ℤ Refusal} (z : ℤ) → o ≡ none → x ≡ figured p z → x ≡ figured (o ▸ p) z
figured-goes-on o p z e g = g ∙ ap (λ o. figured o z) (sym (none_then e refl))

pub figured-refused : {o : Option Refusal} {r : Refusal} {x : Result ℤ Refusal} (z : ℤ) → o ≡ some r → x ≡ Err r → x ≡ figured o z
unfolding figured
figured-refused z e h = rw e h

pub figured-is : {o : Option Refusal} {r z : ℤ} → mag r < 2 ^ hbits w64 → r ≡ z → o ≡ none → Ok (to_z w64 (of_z w64 r)) ≡ figured o z
unfolding figured
figured-is fits e q = rw q (ap Ok (to_z-of_z {w = w64} (record { sfits = fits }) ∙ e))

-- what a call's weight sheet is answered, given the pairs of an open net
module _ {s : List ℕ} {net : NetShape} (o : Open s net) (w : List ℕ) where
  same : whole_weights (pairs (net_of s)) w ≡ whole_weights net.pairs w
  same = ap (λ n. whole_weights n w) (sym (sizes o).pairs)

  pub weights-refused : {r : Refusal} → Err r ≡ answer (whole_weights net.pairs w) → whole_weights (pairs (net_of s)) w ≡ some r
  weights-refused e = same ∙ answer-refused _ (sym e)

  pub weights-pass : Ok tt ≡ answer (whole_weights net.pairs w) → whole_weights (pairs (net_of s)) w ≡ none
  weights-pass e = same ∙ no_refusal _ e

  pub weights-accepted : Ok tt ≡ answer (whole_weights net.pairs w) → weights_refusal net.pairs w ≡ none
  unfolding whole_weights
  weights-accepted e = left-none _ _ (no_refusal _ e)
