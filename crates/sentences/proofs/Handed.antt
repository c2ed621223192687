-- What can be handed over: the numbers of a list below a bound, by a test of those that are written out.
use Prim.Native.Nat.{ℕ, zero, suc, ◌<◌}
use mathlib.Core.Path.{◌≡◌, refl}
use mathlib.Core.Bool.{Bool, true, false, ◌&&◌, false≢true}
use mathlib.Core.List.{List, [], ◌∷◌}
use lib.Dec.{ltb}
use lib.ListN.{replicate}
use native.Mathlib.Omega.{arith}
use borrow.Author.Tests.{ltb-true}
use Rattle.sentences.specs.Bytes.{Below}
use Rattle.sentences.proofs.AllBytes.{Each, nil, more, each_below}

-- by a test
abbrev tested : ℕ → List ℕ → Bool
tested n [] = true
tested n (b ∷ s) = ltb b n && tested n s

and_left : (a b : Bool) → a && b ≡ true → a ≡ true
and_left true b e = refl
and_left false b e = e

and_right : (a b : Bool) → a && b ≡ true → b ≡ true
and_right true b e = e
and_right false b e = absurd (false≢true e)

tested-each : (n : ℕ) (s : List ℕ) → tested n s ≡ true → Each n s
tested-each n [] e = nil
tested-each n (b ∷ s) e = more b (ltb-true b n (and_left (ltb b n) (tested n s) e)) (tested-each n s (and_right (ltb b n) (tested n s) e))

pub written_out : (n : ℕ) (s : List ℕ) → tested n s ≡ true → Below n s
written_out n s e = each_below n s (tested-each n s e)

pub none_below : (n : ℕ) → Below n []
none_below n i h = absurd (omega arith)

each-replicate : (n k b : ℕ) → b < n → Each n (replicate k b)
each-replicate n zero b h = nil
each-replicate n (suc k) b h = more b h (each-replicate n k b h)

pub zeros-below : (n k : ℕ) → 0 < n → Below n (replicate k 0)
zeros-below n k h = each_below n (replicate k 0) (each-replicate n k 0 h)
