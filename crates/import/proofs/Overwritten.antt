-- Bytes that are written over others.
use Prim.Native.Nat.{ℕ, zero, suc, ◌+◌, ◌≤◌}
use mathlib.Core.Path.{◌≡◌, refl, sym, ◌∙◌, ap}
use mathlib.Core.List.{List, [], ◌∷◌, ◌++◌}
use lib.ListN.{length, set, length-append}
use lib.Seq.{sets}
use native.Mathlib.Omega.{arith}
use Rattle.sheets.specs.written.Puts.{Written, Puts}
use Rattle.sheets.proofs.written.Puts.{more, before}

set-again : (l : List ℕ) (i x y : ℕ) → set (set l i x) i y ≡ set l i y
set-again [] i x y = refl
set-again (z ∷ l) zero x y = refl
set-again (z ∷ l) (suc i) x y = ap (λ m. z ∷ m) (set-again l i x y)

stored : (l : List ℕ) (at : ℕ) (xs : List ℕ) → Written l at xs (sets l at xs)
stored l at xs = record { is = refl }

set_before : (l : List ℕ) (p : ℕ) (xs : List ℕ) (y : ℕ) → set (sets l (suc p) xs) p y ≡ sets (set l p y) (suc p) xs
set_before l p xs y = (before {l = l} {m = sets l (suc p) xs} (stored l (suc p) xs) (stored (sets l (suc p) xs) p (y ∷ [])) (omega arith)).is

again : (xs ys l : List ℕ) (p : ℕ) → length xs ≤ length ys → sets (sets l p xs) p ys ≡ sets l p ys
again [] ys l p h = refl
again (x ∷ xs) [] l p h = absurd (omega arith)
again (x ∷ xs) (y ∷ ys) l p h =
    ap (λ m. sets m (suc p) ys) (set_before (set l p x) p xs y)
    ∙ again xs ys (set (set l p x) p y) (suc p) (omega arith)
    ∙ ap (λ m. sets m (suc p) ys) (set-again l p x y)

-- some bytes of a put, b, become others, c
pub puts-over : {l m n : List ℕ} {base k at : ℕ} (xs b ys c : List ℕ) → length b ≡ length c → Puts l base (xs ++ (b ++ ys)) m k → Written m at c n → length n ≡ length m
    → at ≡ base + length xs → Puts l base (xs ++ (c ++ ys)) n k
puts-over {l} {m} {n} {base} {k} {at} xs b ys c e p v same_length i =
    let front = stored l base xs in
    let old = stored (sets l base xs) (base + length xs) b in
    let rest = stored (sets (sets l base xs) (base + length xs) b) (base + length xs + length b) ys in
    let was = more front (more old rest refl) refl in
    let same : m ≡ sets (sets (sets l base xs) (base + length xs) b) (base + length xs + length b) ys = p.written.is ∙ sym was.is in
    let new : Written (sets (sets (sets l base xs) (base + length xs) b) (base + length xs + length b) ys) (base + length xs) c n = rw (same, i) at v in
    let over = before rest new (omega arith) in
    let now : Written (sets l base xs) (base + length xs) (c ++ ys) n = record { is = over.is ∙ again b (c ++ ys) (sets l base xs) (base + length xs) (omega (arith, length-append c ys)) } in
    record {
      written = more front now refl;
      sized = refl;
      kept = same_length ∙ p.kept;
      next = omega (arith, p.next, length-append xs (b ++ ys), length-append b ys, length-append xs (c ++ ys), length-append c ys);
    }
