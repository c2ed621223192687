-- The head that stands, or how far any goes.
use Rattle.std.specs.Prelude.{Ok, Err}
use Prim.Native.Nat.{ℕ, ◌≤◌, ◌<◌, max}
use mathlib.Core.Path.{◌≡◌, refl, sym, ◌∙◌}
use mathlib.Core.Bool.{true, false}
use mathlib.Core.List.{List, [], ◌∷◌}
use mathlib.Core.Logic.{inl, inr, ⊎_elim}
use lib.ListN.{length}
use native.Mathlib.Omega.{arith}
use Rattle.movement.proofs.Each.{Each}
use Rattle.model.proofs.First.{below_or}
use Rattle.grammar.proofs.parts.Steps.{agrees-fewer}
use Rattle.grammar.specs.declared.State.{State}
use Rattle.import.specs.declared.scan.Kind.{Kind}
use Rattle.grammar.specs.parts.Parts.{WholeOf, PartOf}
use Rattle.import.specs.scan.Kinds.{head_text, possible, UpTo, NoHeadOf, HeadOf, Headed, Tried, TryAllows}

up_more : {s : List ℕ} {at : ℕ} (c : List ℕ) (n k : ℕ) → n ≤ k → UpTo s at c n → UpTo s at c k
up_more c n k h u i l a = let x = u i l a in (omega (arith, x.0), x.1)

each_more : (q : State) (s : List ℕ) (at : ℕ) (ks : List Kind) (n k : ℕ) → n ≤ k → Each (λ j. possible q j ≡ true → UpTo s at (head_text j) n) ks → Each (λ j. possible q j ≡ true → UpTo s at (head_text j) k) ks
each_more q s at [] n k h x = tt
each_more q s at (j ∷ ks) n k h x = ((λ e. up_more (head_text j) n k h (x.0 e)), each_more q s at ks n k h x.1)

part_up : {s : List ℕ} {at : ℕ} {c : List ℕ} {p : ℕ} (x : PartOf s at c p) → UpTo s at c x.count
part_up x i l a =
    ⊎_elim (λ (h : x.count < i). absurd (x.never (agrees-fewer (omega arith) a))) (λ (h : i ≤ x.count). (h, omega (arith, x.less))) (below_or x.count i)

module _ {q : State} {s : List ℕ} {at : ℕ} where
  pub none_tried : at ≤ length s → Tried q [] s at (Err at)
  none_tried h = record { how = record { count = 0; place = omega arith; each = tt; one = inl refl } }

  head-farther : {kind : Kind} {p n : ℕ} {b : Headed} → b ≡ Err p → possible q kind ≡ true → PartOf s at (head_text kind) n → p < n → TryAllows q kind s at b (Err n)
  head-farther {kind} {p} {n} {b} e f w l =
      record {
        more = λ ks x.
            let y = x.how in
            let z : NoHeadOf q ks s at p = rw e at y in
            record { how = record { count = w.count; place = w.place; each = ((λ g. part_up w), each_more q s at ks z.count w.count (omega (arith, z.place, w.place)) z.each); one = inr (kind, f, w.agrees) } };
      }

  head_nearer : {kind : Kind} {p n : ℕ} {b : Headed} → b ≡ Err p → PartOf s at (head_text kind) n → n ≤ p → TryAllows q kind s at b (Err p)
  head_nearer {kind} {p} {n} {b} e w l =
      record {
        more = λ ks x.
            let y = x.how in
            let z : NoHeadOf q ks s at p = rw e at y in
            record { how = record { count = z.count; place = z.place; each = ((λ g. up_more (head_text kind) w.count z.count (omega (arith, z.place, w.place)) (part_up w)), z.each); one = z.one } };
      }

  pub head-part : {kind : Kind} {p n m : ℕ} {b : Headed} → b ≡ Err p → possible q kind ≡ true → PartOf s at (head_text kind) n → m ≡ max p n → TryAllows q kind s at b (Err m)
  head-part {kind} {p} {n} {m} {b} e f w g =
      ⊎_elim (λ (l : p < n). let i : m ≡ n = omega arith in rw i (head-farther e f w l)) (λ (l : n ≤ p). let i : m ≡ p = omega arith in rw i (head_nearer e w l)) (below_or p n)
