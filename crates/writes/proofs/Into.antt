-- What a slice holds after a run of bytes: with room for it and without, and after one run more.
use Prim.Native.Nat.{ℕ, suc, ◌+◌, ◌-◌, ◌≤◌, ◌<◌}
use mathlib.Core.Path.{◌≡◌, refl, sym}
use mathlib.Core.Bool.{Bool, true, false}
use mathlib.Core.Logic.{◌⊎◌, inl, inr, ⊎_elim}
use mathlib.Core.List.{List, [], ◌∷◌, ◌++◌, append_assoc}
use lib.Dec.{leb}
use lib.ListN.{length, take, drop, set, length-append, length-take, length-drop}
use lib.Seq.{take_at, drop-append-add, drop-drop, set_split, append_snoc}
use native.Mathlib.Nat.{add_assoc}
use native.Mathlib.Numerals.{add-one}
use native.Mathlib.Omega.{arith}
use borrow.Author.Tests.{leb-true, leb-false, le-leb, lt-leb}
use Rattle.writes.specs.Writes.{put_into}

pub le_or_lt : (a b : ℕ) → (a ≤ b) ⊎ (b < a)
le_or_lt a b = go (leb a b) refl
  where
    go : (t : Bool) → leb a b ≡ t → (a ≤ b) ⊎ (b < a)
    go true e = inl (leb-true a b e)
    go false e = inr (leb-false a b e)

module _ (out : List ℕ) (at : ℕ) (bytes : List ℕ) where
  pub into_within : at + length bytes ≤ length out → put_into out at bytes ≡ take at out ++ bytes ++ drop (at + length bytes) out
  unfolding put_into
  into_within h = rw (le-leb _ _ h)

  pub into_beyond : length out < at + length bytes → put_into out at bytes ≡ out
  unfolding put_into
  into_beyond h = rw (lt-leb _ _ h)

  pub into_length : length (put_into out at bytes) ≡ length out
  into_length =
      ⊎_elim (λ (l : at + length bytes ≤ length out). rw (into_within l) (simp (length-append, length-take, length-drop) (omega arith)))
      (λ (l : length out < at + length bytes). rw (into_beyond l))
      (le_or_lt (at + length bytes) (length out))

  -- a part of the slice that was copied over, which is the run from `at` on
  pub into_copied : {now : List ℕ} {from count : ℕ} → at + length bytes ≤ length out → from ≡ at → count ≡ length bytes → now ≡ bytes
      → take from out ++ (now ++ drop count (drop from out)) ≡ put_into out at bytes
  into_copied h f n e = rw (into_within h, f, n, e, drop-drop) (sym (append_assoc (take at out) bytes _))

drop_past : (xs ys : List ℕ) (n k : ℕ) → length xs ≡ n → drop (n + k) (xs ++ ys) ≡ drop k ys
drop_past xs ys n k e = rw (← e) (drop-append-add xs ys k)

module _ (out : List ℕ) (at : ℕ) (xs ys : List ℕ) where
  -- a put where the one before ended
  pub into_more : at + length (xs ++ ys) ≤ length out → put_into (put_into out at xs) (at + length xs) ys ≡ put_into out at (xs ++ ys)
  into_more h =
      let n = at + length xs in
      let room : n + length ys ≤ length out = omega (arith, length-append xs ys) in
      let head = take at out ++ xs in
      let tail = drop n out in
      let first : put_into out at xs ≡ head ++ tail = into_within out at xs (omega arith) in
      let long : length head ≡ n = simp (length-append, length-take) (omega arith) in
      let second = into_within (put_into out at xs) n ys (rw into_length room) in
      rw (second, into_within out at (xs ++ ys) h, first, take_at head tail n long, drop_past head tail n (length ys) long, drop-drop)
      (rw (length-append xs ys, add_assoc) (simp append_assoc))

pub into_one : (out : List ℕ) (at b : ℕ) → at + 1 ≤ length out → set out at b ≡ put_into out at (b ∷ [])
into_one out at b h = rw (into_within out at (b ∷ []) h, append_snoc, add-one) (set_split out at b (omega arith))

-- a byte stored before the rest is put
pub into_cons : (out : List ℕ) (at b : ℕ) (bytes : List ℕ) → at + suc (length bytes) ≤ length out
    → put_into (set out at b) (at + 1) bytes ≡ put_into out at (b ∷ bytes)
into_cons out at b bytes h = rw (into_one out at b (omega arith)) (into_more out at (b ∷ []) bytes h)
