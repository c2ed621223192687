-- The laws of a put's answer: with room and without.
use Prim.Native.Nat.{ℕ, ◌+◌, ◌≤◌, ◌<◌}
use mathlib.Core.Path.{◌≡◌, sym, ◌∙◌}
use mathlib.Core.Logic.{⊎_elim}
use mathlib.Core.List.{List}
use lib.ListN.{length}
use borrow.Author.Tests.{le-leb, lt-leb}
use Rattle.writes.proofs.Into.{le_or_lt, into_beyond}
use Rattle.std.specs.Prelude.{Option, Some, None}
use Rattle.text.specs.Allowed.{PutBytesAllows}
use Rattle.text.specs.Puts.{end_within, put_to}

module _ (size at count : ℕ) where
  pub end-within : at + count ≤ size → end_within size at count ≡ Some (at + count)
  unfolding end_within
  end-within h = rw (le-leb _ _ h)

  pub end_beyond : size < at + count → end_within size at count ≡ None
  unfolding end_within
  end_beyond h = rw (lt-leb _ _ h)

  -- the other way: what the answer tells
  pub end-found : {next : ℕ} → Some next ≡ end_within size at count → (at + count ≤ size) × (next ≡ at + count)
  end-found {next} e =
      ⊎_elim (λ (l : at + count ≤ size). let f = end-within l in (l, cc)) (λ (l : size < at + count). let f = end_beyond l in cc) (le_or_lt (at + count) size)

  pub end-full : None ≡ end_within size at count → size < at + count
  end-full e =
      ⊎_elim (λ (l : at + count ≤ size). let f = end-within l in cc) (λ (l : size < at + count). l) (le_or_lt (at + count) size)

-- the answer of a put by the number of its bytes
module _ (out : List ℕ) (at : ℕ) (bytes : List ℕ) (count : ℕ) (counted : count ≡ length bytes) where
  pub put-found : {next : ℕ} → Some next ≡ end_within (length out) at count → Some next ≡ put_to out at bytes
  unfolding put_to
  put-found e = rw counted at e

  pub put-full : {answer : Option ℕ} → None ≡ end_within (length out) at count → answer ≡ None → PutBytesAllows out at bytes (answer, out)
  unfolding put_to
  put-full e f = let g = rw counted at e in (f ∙ g, sym (into_beyond out at bytes (end-full _ _ _ g)))
