-- The order of the refusals, and what an accepted call has room for.
use Prim.Native.Nat.{ℕ, ◌≤◌}
use mathlib.Core.Path.{◌≡◌, refl, ap}
use mathlib.Core.List.{List}
use mathlib.Core.Option.{none}
use lib.ListN.{length}
use borrow.Author.Tests.{ltb-false}
use Rattle.model.specs.First.{first}
use Rattle.model.proofs.First.{right-none, only_if_none}
use Rattle.sheets.specs.Decoded.{net_of}
use Rattle.opened.specs.declared.shape.NetShape.{NetShape}
use Rattle.opened.specs.Shape.{Open, inhibitor_offset}
use Rattle.opened.proofs.Shapes.{sizes}
use Rattle.export.specs.Exports.{bounded_capacity, bounded_inhibitor, capacity_offset, export_text, room_refusal}
use Rattle.export.specs.Bounds.{capacity_refusal, inhibitor_refusal}

-- 19 is the first of its pairs, and of its arcs
pub each-capacity : {s : List ℕ} {net : NetShape} → Open s net → first net.pairs (capacity_refusal s) ≡ bounded_capacity (capacity_offset s) (net_of s)
unfolding bounded_capacity
each-capacity {s} o = ap (λ n. first n (capacity_refusal s)) (sizes o).pairs

pub each-inhibitor : (s : List ℕ) → first (length (net_of s).arcs) (inhibitor_refusal s) ≡ bounded_inhibitor (inhibitor_offset s) (net_of s)
unfolding bounded_inhibitor
each-inhibitor s = refl

pub room-enough : (s : List ℕ) (room : ℕ) → room_refusal s room ≡ none → length (export_text s) ≤ room
unfolding room_refusal
room-enough s room e = ltb-false _ _ (only_if_none _ _ (right-none _ _ e))
