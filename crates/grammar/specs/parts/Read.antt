-- What the reader of a part answers.
use Rattle.std.specs.Prelude.{ℕ, Result}

-- a number and the position after it, or where no number goes on so
abbrev pub Numbered : Type 0
Numbered = Result (ℕ × ℕ) ℕ

-- constant text: the position after it, or where the text leaves it
abbrev pub Literal : Type 0
Literal = Result ℕ ℕ
