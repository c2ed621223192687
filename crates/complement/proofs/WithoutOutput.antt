-- What complementing refuses of a net where no output slice is short.
use Prim.Native.Nat.{ℕ, ◌*◌}
use mathlib.Core.Path.{◌≡◌, ◌∙◌, ap}
use mathlib.Core.List.{List}
use lib.ListN.{length}
use borrow.Author.Tests.{le-ltb}
use native.Mathlib.Omega.{arith}
use Rattle.model.specs.Refusals.{Answer}
use Rattle.model.specs.Refusals.{answer}
use Rattle.second_form.specs.Complement.{complement_refusal}
use Rattle.model.proofs.First.{then-none}
use Rattle.sheets.specs.Decoded.{net_of}
use Rattle.opened.specs.declared.shape.NetShape.{NetShape}
use Rattle.opened.specs.Shape.{Open, arc_offset}
use Rattle.opened.specs.Starts.{StartsAre}
use Rattle.complement.specs.declared.sheet.Sizes.{Sizes}
use Rattle.complement.specs.Complemented.{complement_sheet, room_refusal}
use Rattle.complement.specs.Sizes.{SizesWith, Few}
use Rattle.complement.proofs.SheetParts.{sheet-few, sheet-is}

module _ {s : List ℕ} {net : NetShape} (o : Open s net) {starts : List ℕ} (are : StartsAre (net_of s).arcs starts) {most : Sizes} (with : SizesWith (net_of s) (2 * net.arcs) most) (few : Few most) where
  none-short : room_refusal s 100000 ≡ complement_refusal (arc_offset s) (net_of s)
  unfolding room_refusal
  none-short = rw (le-ltb 100000 (length (complement_sheet s)) (omega (arith, sheet-few o are with few, ap length (sheet-is o)))) (then-none _)

  pub never-short : {a : Answer} → a ≡ answer (room_refusal s 100000) → a ≡ answer (complement_refusal (arc_offset s) (net_of s))
  never-short e = e ∙ ap answer none-short
