-- A refusal's line, word by word, by what the table of refusals says of it.
use Prim.Native.Nat.{ℕ}
use mathlib.Core.Path.{◌≡◌}
use mathlib.Core.List.{List, [], ◌∷◌, ◌++◌}
use Rattle.model.specs.declared.Mode.{Mode}
use Rattle.model.specs.declared.Refusal.{Refusal}
use Rattle.std.specs.Prelude.{Err}
use Rattle.model.specs.Refusals.{number, thing, position, amount}
use Rattle.text.specs.Decimals.{decimal}
use Rattle.text.specs.Ascii.{ascii, space, newline}
use Rattle.writes.specs.Writes.{Writes}
use Rattle.writes.proofs.Writing.{◌and◌}
use Rattle.statement.specs.lines.Lines.{line, refused_line, bad_line}

module _ (r : Refusal) (n p : ℕ) (numbered : n ≡ number (Err r)) (placed : p ≡ position (Err r)) {o o₁ o₂ o₃ o₄ : List ℕ} {at e₁ e₂ e₃ e₄ : ℕ} where
  pub bad_worded : (x : ℕ) → x ≡ thing (Err r) → Writes 3 o at (ascii "bad") e₁ o₁ → Writes 21 o₁ e₁ (space ∷ decimal x) e₂ o₂ → Writes 21 o₂ e₂ (space ∷ decimal n) e₃ o₃
      → Writes 22 o₃ e₃ (space ∷ decimal p ++ newline ∷ []) e₄ o₄ → Writes 67 o at (bad_line r) e₄ o₄
  unfolding line bad_line
  bad_worded x e word first second last = rw (← e, ← numbered, ← placed) (word and first and second and last)

  pub refused_worded : (place : ℕ) (t : Mode) (a : ℕ) → a ≡ amount (Err r) → {o₅ o₆ : List ℕ} {e₅ e₆ : ℕ} → Writes 7 o at (ascii "refused") e₁ o₁
      → Writes 21 o₁ e₁ (space ∷ decimal place) e₂ o₂ → Writes 21 o₂ e₂ (space ∷ decimal t.0) e₃ o₃ → Writes 21 o₃ e₃ (space ∷ decimal n) e₄ o₄
      → Writes 21 o₄ e₄ (space ∷ decimal p) e₅ o₅ → Writes 22 o₅ e₅ (space ∷ decimal a ++ newline ∷ []) e₆ o₆ → Writes 113 o at (refused_line place t r) e₆ o₆
  unfolding line refused_line
  refused_worded place t a e word first second third fourth last = rw (← numbered, ← placed, ← e) (word and first and second and third and fourth and last)
