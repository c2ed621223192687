-- What the exit of a `?` hands on is the position that was met.
use mathlib.Core.Path.{◌≡◌, ◌∙◌, ap}
use Prim.Native.Nat.{ℕ}
use Rattle.std.specs.Prelude.{Result, Err, IsErr, IsErrAnd}
use Rattle.std.proofs.lemmas.Result.{err_from_is_err_and}

pub handed_on : {A : Type 0} {b : Result A ℕ} {p : ℕ} → IsErr b × IsErrAnd b (λ y. y ≡ p) → b ≡ Err p
handed_on {b = b} e = let q = err_from_is_err_and b e.1 in q.1 ∙ ap Err q.2
