-- Constants compared with a run, one after the other.
use Rattle.std.specs.Prelude.{Ok, Err}
use Prim.Native.Nat.{ℕ, ◌+◌, ◌≤◌, ◌<◌}
use mathlib.Core.Path.{◌≡◌, refl, ◌∙◌}
use mathlib.Core.List.{List, ◌++◌}
use mathlib.Core.Logic.{⊎_elim}
use lib.ListN.{length, get_or, length-append}
use native.Mathlib.Omega.{arith}
use native.Mathlib.Nat.{eq-or-lt_of_le}
use Rattle.pnml.specs.Agrees.{Agrees}
use Rattle.grammar.proofs.parts.Steps.{agrees-both, agrees-rest, agrees_first, agrees-more}
use Rattle.grammar.specs.parts.Read.{Literal}
use Rattle.grammar.specs.parts.Parts.{WholeOf, ComparedAs, Compares, ContinuedAs, Continues}

-- one constant and then another
infixl 20 ◌and◌
pub ◌and◌ : {s : List ℕ} {at : ℕ} {c d : List ℕ} {b r : Literal} → Compares s at c b → Continues s b d r → Compares s at (c ++ d) r
◌and◌ {s} {at} {c} {d} {b} {r} x y = record { how = go b r x.how y.how }
  where
    go : (b r : Literal) → ComparedAs s at c b → ContinuedAs s b d r → ComparedAs s at (c ++ d) r
    go (Err p) (Ok m) x y = let z : ◌≡◌ {A = ℕ} 0 1 = cc in absurd (omega arith)
    go (Err p) (Err q) x y =
        let e : q ≡ p = cc in
        record {
          count = x.count;
          place = e ∙ x.place;
          less = omega (arith, x.less, length-append c d);
          agrees = agrees-more c d x.agrees;
          never = λ a. x.never (agrees_first c d (omega (arith, x.less)) a);
        }
    go (Ok m) (Ok k) x y =
        let z = (y (omega (arith, x.agrees.in_run, x.place))).how in
        record { agrees = rw (length-append c d) (agrees-both {n = length d} c d x.agrees (rw (← x.place) z.agrees)); place = omega (arith, x.place, z.place, length-append c d) }
    go (Ok m) (Err k) x y =
        let z = (y (omega (arith, x.agrees.in_run, x.place))).how in
        record {
          count = length c + z.count;
          place = omega (arith, x.place, z.place);
          less = omega (arith, z.less, length-append c d);
          agrees = agrees-both {n = z.count} c d x.agrees (rw (← x.place) z.agrees);
          never = λ a.
              let e : length c + z.count + 1 ≡ length c + (z.count + 1) = omega arith in
              let w = agrees-rest c d (rw e at a) in
              z.never (rw (← x.place) at w);
        }
