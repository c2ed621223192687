-- How long the lines of a net's text are.
-- A reader of the promises may skip this file.
use Rattle.std.specs.Prelude.{ℕ, zero, suc, ◌+◌, length}
use Rattle.text.specs.Decimals.{decimal}

unfoldable pub place_size : ℕ → ℕ
place_size n = 78 + length (decimal n)

unfoldable pub weight_size : ℕ → ℕ
weight_size zero = 0
weight_size (suc n) = 100 + length (decimal (suc n))
