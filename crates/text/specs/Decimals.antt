-- Numbers as the lines of `replay` have them (document 01, "`replay`"): ASCII digits, no leading zeros; zero is `0`, and a negative figure is '-' and its digits.
use Rattle.std.specs.Prelude.{ℕ, zero, suc, ◌+◌, ◌/◌, ◌%◌, true, false, List, [], ◌∷◌, ◌++◌, ltb, ℤ, pos, negsuc}

-- ASCII: the digits '0' to '9' are 48 to 57, and '-' is 45
abbrev pub digit : ℕ → ℕ
digit d = 48 + d

abbrev pub minus : ℕ
minus = 45

-- below ten the one digit; from ten on the digits of n / 10, and then the last digit. `steps` only bounds how often ten is divided out.
unfoldable pub decimal_within : ℕ → ℕ → List ℕ
decimal_within zero n = digit n ∷ []
decimal_within (suc steps) n =
    elim (ltb n 10) [ true ↦ digit n ∷ [] | false ↦ decimal_within steps (n / 10) ++ digit (n % 10) ∷ [] ]

-- n divisions are more than enough
unfoldable pub decimal : ℕ → List ℕ
decimal n = decimal_within n n

-- negsuc n is -(n + 1)
unfoldable pub signed_decimal : ℤ → List ℕ
signed_decimal (pos n) = decimal n
signed_decimal (negsuc n) = minus ∷ decimal (suc n)
