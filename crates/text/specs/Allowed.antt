-- The contracts of the public calls, which the source states by these names: what each allows of its answer and of the slice that it leaves.
use Rattle.std.specs.Prelude.{ℕ, ◌≡◌, List, ℤ, Option}
use Rattle.writes.specs.Writes.{put_into}
use Rattle.text.specs.Decimals.{decimal, signed_decimal}
use Rattle.text.specs.Puts.{put_to}

module _ (out : List ℕ) (at : ℕ) where
  abbrev pub PutBytesAllows : List ℕ → Option ℕ × List ℕ → Type 0
  PutBytesAllows bytes o = (o.0 ≡ put_to out at bytes) × (o.1 ≡ put_into out at bytes)

  abbrev pub PutDecimalAllows : ℕ → Option ℕ × List ℕ → Type 0
  PutDecimalAllows n = PutBytesAllows (decimal n)

  abbrev pub PutSignedAllows : ℤ → Option ℕ × List ℕ → Type 0
  PutSignedAllows z = PutBytesAllows (signed_decimal z)
