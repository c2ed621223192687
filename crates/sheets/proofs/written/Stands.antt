-- Bytes that stand in a run from a place on: a run is read and written part by part.
use Prim.Native.Nat.{ℕ, ◌+◌, ◌-◌, ◌<◌, ◌≤◌}
use mathlib.Core.Path.{◌≡◌, refl, sym, ◌∙◌}
use mathlib.Core.List.{List, [], ◌∷◌, ◌++◌, flatten}
use mathlib.Core.Logic.{⊎_elim}
use lib.ListN.{length, length-append, get_or-append}
use lib.Seq.{get_or-append-add, ext_get_or}
use native.Mathlib.Omega.{arith}
use Rattle.model.proofs.First.{below_or}
use Rattle.heads.specs.Bytes.{byte_at}

pub record Stands (s : List ℕ) (at : ℕ) (bytes : List ℕ) : Type 0 where
  pub each : (j k : ℕ) → j < length bytes → k ≡ at + j → byte_at s k ≡ byte_at bytes j

-- a byte of two parts, from the second's first byte on
append_right : (xs ys : List ℕ) (j k : ℕ) → k ≡ length xs + j → byte_at (xs ++ ys) k ≡ byte_at ys j
append_right xs ys j k e = rw e (get_or-append-add xs ys j 0)

pub stands_self : (s : List ℕ) → Stands s 0 s
stands_self s = record { each = λ j k h e. let q : k ≡ j = omega arith in rw q }

pub stands-both : {s : List ℕ} {at k : ℕ} {xs ys : List ℕ} → Stands s at xs → Stands s k ys → k ≡ at + length xs → Stands s at (xs ++ ys)
stands-both {s} {at} {k} {xs} {ys} x y e =
    record {
      each = λ j i h q.
          ⊎_elim
          (λ (l : j < length xs). x.each j i l q ∙ sym (get_or-append xs ys 0 j l))
          (λ (l : length xs ≤ j).
          y.each (j - length xs) i (omega (arith, length-append xs ys)) (omega arith) ∙ sym (append_right xs ys (j - length xs) j (omega arith)))
          (below_or j (length xs));
    }

module _ {s : List ℕ} {at : ℕ} (xs ys : List ℕ) (both : Stands s at (xs ++ ys)) where
  pub stands-left : Stands s at xs
  stands-left = record { each = λ j i l q. both.each j i (omega (arith, length-append xs ys)) q ∙ get_or-append xs ys 0 j l }

  pub stands-right : (k : ℕ) → k ≡ at + length xs → Stands s k ys
  stands-right k e =
      record { each = λ j i l q. both.each (length xs + j) i (omega (arith, length-append xs ys)) (omega arith) ∙ get_or-append-add xs ys j 0 }

pub stands-whole : {s bytes : List ℕ} → Stands s 0 bytes → length s ≡ length bytes → s ≡ bytes
stands-whole {s} {bytes} h e = ext_get_or 0 s bytes e (λ i l. h.each i i (omega arith) (omega arith))

pub moved : {s bytes : List ℕ} {at : ℕ} (k : ℕ) → k ≡ at → Stands s at bytes → Stands s k bytes
moved k e h = rw e h

-- parts that stand one after the other
abbrev pub InTurn : List ℕ → ℕ → List (List ℕ) → Type 0
InTurn s at [] = Unit {0}
InTurn s at (part ∷ parts) = Stands s at part × InTurn s (at + length part) parts

module _ {s : List ℕ} where
  pub in_turn : {at : ℕ} (parts : List (List ℕ)) → Stands s at (flatten parts) → InTurn s at parts
  unfolding flatten
  in_turn [] h = tt
  in_turn {at} (part ∷ parts) h =
      (stands-left part (flatten parts) h, in_turn {at = at + length part} parts (stands-right part (flatten parts) h (at + length part) (omega arith)))

  pub none_stand : {at : ℕ} → Stands s at (flatten [])
  unfolding flatten
  none_stand = record { each = λ j k l e. absurd (omega arith) }

  pub next-stands : {at k : ℕ} {part : List ℕ} (parts : List (List ℕ)) → Stands s k part → at ≡ k → Stands s (at + length part) (flatten parts) → Stands s at (flatten (part ∷ parts))
  unfolding flatten
  next-stands {at} parts h e more = stands-both (moved at e h) more refl
