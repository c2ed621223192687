-- Whether a marking has one count for each pair of an open net, and whether a mode is there.
use Prim.Native.Nat.{ℕ, ◌<◌}
use mathlib.Core.Path.{◌≡◌, sym, ◌∙◌, ap}
use mathlib.Core.Bool.{true, false, not}
use lib.Dec.{eqb}
use borrow.Author.Tests.{eq-eqb, ne_eqb, leb-false}
use mathlib.Core.List.{List}
use Rattle.model.specs.declared.Mode.{Mode}
use Rattle.model.specs.declared.Thing.{Thing}
use Rattle.model.specs.Refusals.{Answer}
use Rattle.std.specs.Prelude.{Ok}
use Rattle.model.specs.Refusals.{answer}
use Rattle.model.specs.Nets.{pairs}
use Rattle.model.specs.Firing.{absent}
use Rattle.model.proofs.First.{only_if_none}
use Rattle.model.proofs.Asking.{no_refusal}
use Rattle.opened.specs.declared.shape.NetShape.{NetShape}
use Rattle.sheets.specs.Decoded.{net_of}
use Rattle.opened.specs.Shape.{Open}
use Rattle.opened.proofs.Shapes.{sizes}

module _ {s : List ℕ} {net : NetShape} (o : Open s net) where
  -- 17: "marking or weights not one for each pair"
  pub one_each_lem : (n : ℕ) → n ≡ net.pairs → not (eqb n (pairs (net_of s))) ≡ false
  one_each_lem n e = ap not (eq-eqb n (pairs (net_of s)) (e ∙ (sizes o).pairs))

  pub not_one-each : (n : ℕ) → (n ≡ net.pairs → ⊥) → not (eqb n (pairs (net_of s))) ≡ true
  not_one-each n e = ap not (ne_eqb n (pairs (net_of s)) (λ q. e (q ∙ sym (sizes o).pairs)))

pub is-there : (thing : Thing) (n : ℕ) (t : Mode) → Ok tt ≡ answer (absent thing n t) → t.0 < n
is-there thing n t e = leb-false n t.0 (only_if_none _ _ (no_refusal _ e))
