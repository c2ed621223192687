-- What a slice of numbers below n holds, and a run of bytes.
use Rattle.std.specs.Prelude.{ℕ, ◌<◌, List, length}
use Rattle.heads.specs.Bytes.{byte_at}

abbrev pub Below : ℕ → List ℕ → Type 0
Below n s = (i : ℕ) → i < length s → byte_at s i < n

abbrev pub Bytes : List ℕ → Type 0
Bytes = Below 256
