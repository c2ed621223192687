-- The laws of puts: parts that are stored one after the other, and what stays as it was.
use Prim.Native.Nat.{ℕ, suc, ◌+◌, ◌/◌, ◌%◌, ◌≤◌, ◌<◌}
use mathlib.Core.Path.{◌≡◌, refl, sym, ◌∙◌, ap}
use mathlib.Core.List.{List, [], ◌∷◌, ◌++◌}
use mathlib.Core.Logic.{◌⊎◌, inl, inr, ⊎_elim}
use lib.ListN.{length, take, drop, set, length-append, length-set}
use lib.Seq.{sets, sets-eq, set_comm, get_or-set_other}
use native.Mathlib.Omega.{arith}
use native.Mathlib.Numerals.{add-one}
use Rattle.model.specs.Lists.{joined}
use Rattle.heads.specs.Bytes.{byte_at}
use Rattle.model.specs.declared.Version.{Version}
use Rattle.model.specs.Numbers.{ℕ∞}
use Rattle.model.specs.Nets.{NetArc}
use Rattle.sheets.specs.written.Written.{bytes16, bytes32, pair_bytes, arc_bytes}
use Rattle.movement.proofs.Joined.{joined_ext}
use Rattle.sheets.specs.written.Puts.{Written, Put, Room, Puts, part_of, mode_size}
use Rattle.sheets.proofs.written.Stands.{Stands}
use Rattle.sheets.proofs.written.Sections.{by-numbers, joined-room}
use Rattle.sheets.proofs.written.BigEndian.{length16, length32}
use Rattle.sheets.proofs.written.Records.{pair-length, arc-length}

sets_append : (l : List ℕ) (at : ℕ) (xs ys : List ℕ) → sets l at (xs ++ ys) ≡ sets (sets l at xs) (at + length xs) ys
sets_append l at [] ys = let e : at + 0 ≡ at = omega arith in rw e
sets_append l at (x ∷ xs) ys =
    let e : suc at + length xs ≡ at + suc (length xs) = omega arith in
    sets_append (set l at x) (suc at) xs ys ∙ ap (λ k. sets (sets (set l at x) (suc at) xs) k ys) e

sets_outside : (l : List ℕ) (at : ℕ) (xs : List ℕ) (j : ℕ) → (j < at) ⊎ (at + length xs ≤ j) → byte_at (sets l at xs) j ≡ byte_at l j
sets_outside l at [] j h = refl
sets_outside l at (x ∷ xs) j h =
    sets_outside (set l at x) (suc at) xs j (⊎_elim (λ (k : j < at). inl (omega arith)) (λ (k : at + suc (length xs) ≤ j). inr (omega arith)) h)
    ∙ get_or-set_other l at j x 0 (⊎_elim (λ (k : j < at) e. omega arith) (λ (k : at + suc (length xs) ≤ j) e. omega arith) h)

-- stores at other places may change turns
set_sets : (l : List ℕ) (i k x : ℕ) (ys : List ℕ) → i < k → set (sets l k ys) i x ≡ sets (set l i x) k ys
set_sets l i k x [] h = refl
set_sets l i k x (y ∷ ys) h =
    set_sets (set l k y) i (suc k) x ys (omega arith) ∙ ap (λ m. sets m (suc k) ys) (set_comm l k i y x (λ e. omega arith))

sets_sets : (l : List ℕ) (at k : ℕ) (xs ys : List ℕ) → at + length xs ≤ k → sets (sets l k ys) at xs ≡ sets (sets l at xs) k ys
sets_sets l at k [] ys h = refl
sets_sets l at k (x ∷ xs) ys h =
    ap (λ m. sets m (suc at) xs) (set_sets l at k x ys (omega arith)) ∙ sets_sets (set l at x) (suc at) k xs ys (omega arith)

pub none : {l : List ℕ} {at : ℕ} → Written l at [] l
none = record { is = refl }

module _ {l m : List ℕ} where
  pub more : {n xs ys : List ℕ} {at k : ℕ} → Written l at xs m → Written m k ys n → k ≡ at + length xs → Written l at (xs ++ ys) n
  more {n} {xs} {ys} {at} {k} w v e =
      record { is = v.is ∙ ap (λ r. sets r k ys) w.is ∙ ap (λ i. sets (sets l at xs) i ys) e ∙ sym (sets_append l at xs ys) }

  -- what is stored after that which follows it
  pub before : {n xs ys : List ℕ} {at k : ℕ} → Written l k ys m → Written m at xs n → k ≡ at + length xs → Written l at (xs ++ ys) n
  before {n} {xs} {ys} {at} {k} w v e =
      record { is = v.is ∙ ap (λ r. sets r at xs) w.is ∙ sets_sets l at k xs ys (omega arith) ∙ ap (λ i. sets (sets l at xs) i ys) e ∙ sym (sets_append l at xs ys) }

  module _ {xs : List ℕ} {at : ℕ} (w : Written l at xs m) where
    pub spliced : at + length xs ≤ length l → m ≡ take at l ++ xs ++ drop (at + length xs) l
    spliced h = w.is ∙ sets-eq xs l at h

    -- no byte outside is touched
    pub outside : (j : ℕ) → (j < at) ⊎ (at + length xs ≤ j) → byte_at m j ≡ byte_at l j
    outside j h = ap (λ r. byte_at r j) w.is ∙ sets_outside l at xs j h

pub from_start : {l m xs : List ℕ} → Written l 0 xs m → length xs ≤ length l → m ≡ xs ++ drop (length xs) l
from_start {l} {m} {xs} w h = let e : 0 + length xs ≡ length xs = omega arith in spliced w (omega arith) ∙ ap (λ k. xs ++ drop k l) e

-- one put after the other
pub nothing : {l : List ℕ} {at : ℕ} → Put l at 0 [] l at
nothing = record { written = none; sized = refl; kept = refl; next = omega arith }

pub puts : {l m n xs ys : List ℕ} {at k after a b : ℕ} → Put l at a xs m k → Put m k b ys n after → Put l at (a + b) (xs ++ ys) n after
puts {xs = xs} {ys = ys} p q =
    record {
      written = more p.written q.written (omega (arith, p.sized, p.next));
      sized = omega (arith, length-append xs ys, p.sized, q.sized);
      kept = omega (arith, p.kept, q.kept);
      next = omega (arith, p.next, q.next);
    }

-- one put before another that was put first
pub puts-before : {l m n xs ys : List ℕ} {at k after a b : ℕ} → Put l k b ys m after → Put m at a xs n k → Put l at (a + b) (xs ++ ys) n after
puts-before {xs = xs} {ys = ys} p q =
    record {
      written = before p.written q.written (omega (arith, q.sized, q.next));
      sized = omega (arith, length-append xs ys, p.sized, q.sized);
      kept = omega (arith, p.kept, q.kept);
      next = omega (arith, p.next, q.next);
    }

-- parts 0 up to i - 1, and one more: what a loop does that writes those of its records that are kept
pub none_put : {l : List ℕ} {at : ℕ} (f : ℕ → List ℕ) → Put l at 0 (joined 0 f) l at
unfolding joined
none_put f = nothing

pub more_put : {l m n : List ℕ} {at k after a b : ℕ} (f : ℕ → List ℕ) (i : ℕ) → Put l at a (joined i f) m k → Put m k b (f i) n after → Put l at (a + b) (joined (i + 1) f) n after
unfolding joined
more_put f i p q = rw add-one (puts p q)

-- the size of a put is the length of what was put
pub put_length : {l m xs : List ℕ} {at size after : ℕ} → Put l at size xs m after → Put l at (length xs) xs m after
put_length p = rw p.sized p

pub one : (l : List ℕ) (at x : ℕ) → Put l at 1 (x ∷ []) (set l at x) (at + 1)
one l at x = record { written = record { is = refl }; sized = refl; kept = length-set l at x; next = refl }

pub two : (l : List ℕ) (at x : ℕ) → x < 65536 → Put l at 2 (bytes16 x) (set (set l at (x / 256)) (at + 1) (x % 256)) (at + 2)
unfolding bytes16
two l at x h =
    let e : x / 256 % 256 ≡ x / 256 = omega arith in
    record { written = record { is = rw (e, add-one at) }; sized = refl; kept = simp length-set; next = refl }

module _ {l : List ℕ} {at : ℕ} where
  -- the same bytes, told otherwise
  pub room_as : {xs ys : List ℕ} → xs ≡ ys → Room l at xs → Room l at ys
  room_as e h = rw e at h

  pub puts_as : {m xs ys : List ℕ} {k : ℕ} → xs ≡ ys → Puts l at xs m k → Puts l at ys m k
  puts_as e p = rw e at p

  -- room for a field, as its put asks for it
  pub count_fits : (n : ℕ) → Room l at (bytes16 n) → at + 2 ≤ length l
  count_fits n h = omega (arith, length16 n)

  pub long-fits : (n : ℕ) (ys : List ℕ) → Room l at (bytes32 n ++ ys) → at + 4 ≤ length l
  long-fits n ys h = omega (arith, length-append (bytes32 n) ys, length32 n)

  pub arc-fits : (v : Version) (a : NetArc) → Room l at (arc_bytes v a) → at + (mode_size v + 14) ≤ length l
  arc-fits v a h = omega (arith, arc-length v a)

  pub pair_fits : (k : ℕ∞) (m : ℕ) → Room l at (pair_bytes k m) → at + 8 ≤ length l
  pair_fits k m h = omega (arith, pair-length k m)

  -- one part, then another
  pub room-first : (xs ys : List ℕ) → Room l at (xs ++ ys) → Room l at xs
  room-first xs ys h = record { fits = omega (arith, length-append xs ys) }

  pub room_next : {m : List ℕ} {k : ℕ} (xs ys : List ℕ) → Room l at (xs ++ ys) → Puts l at xs m k → Room m k ys
  room_next xs ys h p = record { fits = omega (arith, length-append xs ys, p.kept, p.next) }

  pub puts-both : {m n xs ys : List ℕ} {k after : ℕ} → Puts l at xs m k → Puts m k ys n after → Puts l at (xs ++ ys) n after
  puts-both p q = put_length (puts p q)

  -- the parts that a loop puts
  module _ (part : ℕ → List ℕ) where
    pub puts_none : Puts l at (joined 0 part) l at
    puts_none = put_length (none_put part)

    module _ {m : List ℕ} {k : ℕ} (i : ℕ) (so_far : Puts l at (joined i part) m k) where
      pub room-more : (n : ℕ) → Room l at (joined n part) → i < n → Room m k (part i)
      room-more n h b = record { fits = omega (arith, joined-room part n i b, so_far.kept, so_far.next) }

      pub puts-more : {n : List ℕ} {after : ℕ} → Puts m k (part i) n after → Puts l at (joined (i + 1) part) n after
      puts-more p = put_length (more_put part i so_far p)

      pub puts-end : (n : ℕ) → i ≤ n → n ≤ i → Puts l at (joined n part) m k
      puts-end n h b = let e : n ≡ i = omega arith in rw e so_far

-- a part of a run is what stands there
pub part-is : {s xs : List ℕ} {at : ℕ} → Stands s at xs → (n : ℕ) → n ≡ length xs → part_of s at n ≡ xs
part-is {s} {xs} {at} stands n e =
    ap (part_of s at) e
    ∙ joined_ext (length xs) _ _ (λ i l. ap (λ b. b ∷ []) (stands.each i (at + i) l refl))
    ∙ sym (by-numbers 0 xs)
