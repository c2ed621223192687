-- Document 01, "`replay`": the lines of its output. A line is its words with single spaces between them, and one newline.
use Rattle.std.specs.Prelude.{ℕ, List, [], ◌∷◌, ◌++◌, ℤ}
use Rattle.model.specs.declared.Mode.{Mode}
use Rattle.model.specs.declared.Refusal.{Refusal}
use Rattle.std.specs.Prelude.{Ok, Err}
use Rattle.model.specs.Refusals.{number, thing, position, amount}
use Rattle.text.specs.Decimals.{decimal, signed_decimal}
use Rattle.text.specs.Ascii.{ascii, space, newline}

unfoldable pub line : List (List ℕ) → List ℕ
line [] = newline ∷ []
line (word ∷ []) = word ++ newline ∷ []
line (word ∷ next ∷ words) = word ++ space ∷ line (next ∷ words)

-- "`start` and the figure"
unfoldable pub start_line : ℤ → List ℕ
start_line figure = line (ascii "start" ∷ signed_decimal figure ∷ [])

-- "an accepted line is position in the list counted from 1, mode, answer, figure"
unfoldable pub accepted_line : ℕ → Mode → ℤ → List ℕ
accepted_line place t figure = line (decimal place ∷ decimal t.0 ∷ decimal (number (Ok tt)) ∷ signed_decimal figure ∷ [])

-- "`refused` has position, mode, answer, pair", and document 02, P3: the amount "as a fifth field"
unfoldable pub refused_line : ℕ → Mode → Refusal → List ℕ
refused_line place t r =
    line (ascii "refused" ∷ decimal place ∷ decimal t.0 ∷ decimal (number (Err r)) ∷ decimal (position (Err r)) ∷ decimal (amount (Err r)) ∷ [])

-- "`end` has movements accepted and last figure"
unfoldable pub end_line : ℕ → ℤ → List ℕ
end_line accepted figure = line (ascii "end" ∷ decimal accepted ∷ signed_decimal figure ∷ [])

-- "A bad sheet prints only `bad`, the thing, the number and the position."
unfoldable pub bad_line : Refusal → List ℕ
bad_line r = line (ascii "bad" ∷ decimal (thing (Err r)) ∷ decimal (number (Err r)) ∷ decimal (position (Err r)) ∷ [])

-- the line of an input that is too long
unfoldable pub long_line : List ℕ
long_line = line (ascii "long" ∷ [])
