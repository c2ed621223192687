-- A run of bytes written into a slice at a position.
use Rattle.std.specs.Prelude.{ℕ, ◌+◌, ◌≤◌, ◌≡◌, cond, List, ◌++◌, leb, length, take, drop}

-- what the slice then holds: where it has no room for all of the bytes, what it held
unfoldable pub put_into : List ℕ → ℕ → List ℕ → List ℕ
put_into out at bytes = cond (leb (at + length bytes) (length out)) (take at out ++ bytes ++ drop (at + length bytes) out) out

-- Bytes, at most `most` of them, written from `at` on into a slice that has room for them: `after` is the position after them, and `now` what the slice then holds.
pub record Writes (most : ℕ) (out : List ℕ) (at : ℕ) (bytes : List ℕ) (after : ℕ) (now : List ℕ) : Type 0 where
  pub next : after ≡ at + length bytes
  pub fits : after ≤ length out
  pub holds : now ≡ put_into out at bytes
  pub within : length bytes ≤ most
