-- The digits of a number from the last: what is left to write while those after it are written.
use Prim.Native.Nat.{ℕ, zero, suc, ◌+◌, ◌-◌, ◌/◌, ◌%◌, ◌≤◌, ◌<◌}
use mathlib.Core.Path.{◌≡◌}
use mathlib.Core.List.{List, ◌∷◌, ◌++◌, append_assoc, append-nil}
use lib.ListN.{length, take, drop, set, take-append-drop, length-set}
use lib.Seq.{drop-cons, get_or-set_same, take-set-le, drop-set-lt}
use native.Mathlib.Nat.{add-zero, add-suc, mod-eq_of_lt}
use native.Mathlib.Omega.{arith}
use Rattle.text.specs.Decimals.{digit, decimal}
use Rattle.writes.specs.Writes.{put_into}
use Rattle.text.specs.LastDigits.{last_digits}
use Rattle.text.proofs.Decimals.{by-tens, last-length}
use Rattle.writes.proofs.Into.{into_within}

pub last-digits-all : (n : ℕ) → last_digits (length (decimal n)) n ≡ decimal n
unfolding last_digits
last-digits-all =
    by-tens (λ n ds. last_digits (length ds) n ≡ ds) (λ n h. rw (mod-eq_of_lt h))
    (λ n ds h e. rw (last-length ds (digit (n % 10)), e))

-- `out` once the k digits that are left are written
abbrev pub completed : List ℕ → ℕ → ℕ → ℕ → List ℕ
completed out at k n = take at out ++ last_digits k n ++ drop (at + k) out

pub none_written : (out : List ℕ) (at k n : ℕ) → k ≡ length (decimal n) → at + k ≤ length out → completed out at k n ≡ put_into out at (decimal n)
none_written out at k n e h = rw (into_within out at (decimal n) (rw e at h), e, last-digits-all)

pub one_written : (out : List ℕ) (at k n : ℕ) → 0 < k → at + k ≤ length out
    → completed (set out (at + (k - 1)) (digit (n % 10))) at (k - 1) (n / 10) ≡ completed out at k n
unfolding last_digits
one_written out at zero n l h = absurd (omega arith)
one_written out at (suc k) n l h =
    let d = digit (n % 10) in
    let i = at + k in
    let inside : i < length out = omega arith in
    let e : suc k - 1 ≡ k = omega arith in
    let rest : drop i (set out i d) ≡ d ∷ drop (suc i) out =
    rw (drop-cons (set out i d) i 0 (rw length-set inside), get_or-set_same out i d 0 inside, drop-set-lt (suc i) out i d (omega arith)) in
    rw (e, take-set-le at out i d (omega arith), rest, add-suc) (simp append_assoc)

pub all-written : (out : List ℕ) (at k n : ℕ) → k ≤ 0 → completed out at k n ≡ out
unfolding last_digits
all-written out at zero n h = rw (append-nil, add-zero, take-append-drop)
all-written out at (suc k) n h = absurd (omega arith)
