-- A text that agrees, its beginning and the rest of it.
use Prim.Native.Nat.{ℕ, ◌+◌, ◌-◌, ◌≤◌, ◌<◌}
use mathlib.Core.Path.{◌≡◌, refl, sym, ◌∙◌, ap}
use mathlib.Core.List.{List, [], ◌∷◌, ◌++◌}
use mathlib.Core.Logic.{⊎_elim}
use lib.ListN.{length, get_or, length-append, get_or-append}
use lib.Seq.{get_or_at, get_or-append-add, ext_get_or}
use native.Mathlib.Omega.{arith}
use native.Mathlib.Nat.{eq-or-lt_of_le}
use Rattle.model.proofs.First.{below_or}
use Rattle.text.specs.Decimals.{decimal}
use Rattle.text.specs.Promises.{reads_after}
use Rattle.text.proofs.Decimals.{decimals}
use Rattle.pnml.specs.Agrees.{Agrees}
use Rattle.grammar.proofs.parts.Prefixes.{digits_of}

module _ {s : List ℕ} {at : ℕ} where
  pub agrees-both : {n : ℕ} (c rest : List ℕ) → Agrees s at (length c) c → Agrees s (at + length c) n rest → Agrees s at (length c + n) (c ++ rest)
  agrees-both {n} c rest a b =
      record {
        in_run = omega (arith, b.in_run);
        in_text = omega (arith, b.in_text, length-append c rest);
        each = λ i h.
            ⊎_elim (λ (l : i < length c). a.each i l ∙ sym (get_or-append c rest 0 i l))
            (λ (l : length c ≤ i).
            let j = i - length c in
            let e : i ≡ length c + j = omega arith in
            let k : at + i ≡ at + length c + j = omega arith in
            ap (λ x. get_or s x 0) k ∙ b.each j (omega arith) ∙ sym (get_or-append-add c rest j 0) ∙ ap (λ x. get_or (c ++ rest) x 0) (sym e))
            (below_or i (length c));
      }

  pub agrees-rest : {n : ℕ} (c rest : List ℕ) → Agrees s at (length c + n) (c ++ rest) → Agrees s (at + length c) n rest
  agrees-rest {n} c rest a =
      record {
        in_run = omega (arith, a.in_run);
        in_text = omega (arith, a.in_text, length-append c rest);
        each = λ j h.
            let k : at + length c + j ≡ at + (length c + j) = omega arith in
            ap (λ x. get_or s x 0) k ∙ a.each (length c + j) (omega arith) ∙ get_or-append-add c rest j 0;
      }

  pub agrees_first : {n : ℕ} (c rest : List ℕ) → n ≤ length c → Agrees s at n (c ++ rest) → Agrees s at n c
  agrees_first c rest l a =
      record { in_run = a.in_run; in_text = l; each = λ i h. a.each i h ∙ get_or-append c rest 0 i (omega arith) }

  pub agrees-fewer : {n k : ℕ} {text : List ℕ} → k ≤ n → Agrees s at n text → Agrees s at k text
  agrees-fewer l a = record { in_run = omega (arith, a.in_run); in_text = omega (arith, a.in_text); each = λ i h. a.each i (omega arith) }

  pub agrees-more : {n : ℕ} (c rest : List ℕ) → Agrees s at n c → Agrees s at n (c ++ rest)
  agrees-more c rest a =
      record { in_run = a.in_run; in_text = omega (arith, a.in_text, length-append c rest); each = λ i h. a.each i h ∙ sym (get_or-append c rest 0 i (omega (arith, a.in_text))) }

  -- of two numbers followed by the stop one only can stand there
  pub same_number : (stop v w : ℕ) → 57 < stop → Agrees s at (length (decimal v) + 1) (decimal v ++ stop ∷ []) → Agrees s at (length (decimal w) + 1) (decimal w ++ stop ∷ []) → length (decimal v) ≤ length (decimal w) → v ≡ w
  same_number stop v w d a b l =
      ⊎_elim (λ (e : length (decimal v) ≡ length (decimal w)). equal e) (λ (h : length (decimal v) < length (decimal w)). absurd (shorter h)) (eq-or-lt_of_le l)
    where
      byte : (u i : ℕ) → Agrees s at (length (decimal u) + 1) (decimal u ++ stop ∷ []) → i < length (decimal u) → get_or s (at + i) 0 ≡ get_or (decimal u) i 0
      byte u i x h = x.each i (omega arith) ∙ get_or-append (decimal u) (stop ∷ []) 0 i h

      shorter : length (decimal v) < length (decimal w) → ⊥
      shorter h =
          let k = length (decimal v) in
          let e = a.each k (omega arith) ∙ get_or_at (decimal v) stop [] 0 k refl in
          omega (arith, byte w k b h, e, decimals.all_digits w k h)

      equal : length (decimal v) ≡ length (decimal w) → v ≡ w
      equal e =
          let same : decimal v ≡ decimal w = ext_get_or 0 (decimal v) (decimal w) e (λ i h. sym (byte v i a h) ∙ byte w i b (omega arith)) in
          sym (digits_of v) ∙ ap (reads_after 0) same ∙ digits_of w
