-- How many bytes an accepted line has at most.
use Prim.Native.Nat.{ℕ, ◌≤◌, ◌<◌}
use lib.IntN.{ℤ, nat_abs}
use lib.ListN.{length, length-append}
use native.Mathlib.Omega.{arith}
use Rattle.model.specs.declared.Mode.{Mode}
use Rattle.text.proofs.Decimals.{length-at-most, signed-length}
use Rattle.statement.specs.lines.Lines.{line, accepted_line}

-- of the first 8,192 movements, with a mode that is there and a figure of at most 256 pairs
pub accepted-size : (place : ℕ) (t : Mode) (figure : ℤ) → place ≤ 8192 → t.0 < 256 → nat_abs figure ≤ 256000000000000 → length (accepted_line place t figure) ≤ 28
unfolding line accepted_line
accepted-size place t figure h l b =
    simp length-append
    (omega (arith, length-at-most place 3 (omega arith), length-at-most t.0 2 (omega arith), length-at-most 0 0 (omega arith), signed-length figure 14 (omega arith)))
