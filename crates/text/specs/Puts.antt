-- A run of bytes put into a slice at a position: where the slice has room for it, the answer is the position after it; otherwise nothing is written.
-- What the slice then holds is `put_into` of `writes`.
use Rattle.std.specs.Prelude.{ℕ, ◌+◌, cond, List, leb, length, Option, Some, None}

-- the position after `count` bytes from `at`, where they lie within `size`
unfoldable pub end_within : ℕ → ℕ → ℕ → Option ℕ
end_within size at count = cond (leb (at + count) size) (Some (at + count)) None

-- the answer
unfoldable pub put_to : List ℕ → ℕ → List ℕ → Option ℕ
put_to out at bytes = end_within (length out) at (length bytes)
