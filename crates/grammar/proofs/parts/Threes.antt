-- Three digits of a number of low..most, one after the other.
use Rattle.std.specs.Prelude.{Ok, Err}
use Prim.Native.Nat.{ℕ, ◌+◌, ◌-◌, ◌*◌, ◌/◌, ◌%◌, ◌≤◌, ◌<◌, max}
use mathlib.Core.Path.{◌≡◌, refl, sym, ◌∙◌}
use mathlib.Core.List.{List, [], ◌++◌}
use mathlib.Core.Logic.{⊎_elim}
use lib.ListN.{length, get_or, get_or-append}
use native.Mathlib.Omega.{arith}
use native.Mathlib.Nat.{eq-or-lt_of_le, add-zero}
use Rattle.pnml.specs.Agrees.{Agrees}
use Rattle.grammar.specs.parts.Read.{Numbered}
use Rattle.grammar.proofs.parts.Steps.{agrees-fewer, agrees-more}
use Rattle.pnml.specs.Pnml.{three}
use Rattle.grammar.specs.parts.Stands as L
use Rattle.grammar.specs.parts.Parts.{DigitOf, NoDigit, DigitAllows, Between, Reads}

long : (n : ℕ) → length (three n) ≡ 3
unfolding three
long n = refl

first-is : (n : ℕ) → get_or (three n) 0 0 ≡ 48 + n / 100
unfolding three
first-is n = refl

second_is : (n : ℕ) → get_or (three n) 1 0 ≡ 48 + n / 10 % 10
unfolding three
second_is n = refl

third-is : (n : ℕ) → get_or (three n) 2 0 ≡ 48 + n % 10
unfolding three
third-is n = refl

module _ {s : List ℕ} {at : ℕ} where
  byte : (n k : ℕ) (m : ℕ) (rest : List ℕ) → k < m → k < 3 → Agrees s at m (three n ++ rest) → get_or s (at + k) 0 ≡ get_or (three n) k 0
  byte n k m rest h l a = a.each k h ∙ get_or-append (three n) rest 0 k (omega (arith, long n))

  byte_0 : (n : ℕ) (m : ℕ) (rest : List ℕ) → 0 < m → Agrees s at m (three n ++ rest) → get_or s at 0 ≡ 48 + n / 100
  byte_0 n m rest h a = let b = byte n 0 m rest h (omega arith) a in (rw (add-zero at) at b) ∙ first-is n

  module _ (low most high : ℕ) (top : high ≡ most + 1) (some : low ≤ most) (few : most < 999) (in_run : at ≤ length s) where
    pub stops_1 : {p : ℕ} → NoDigit s at (low / 100) (most / 100) 0 p → L.Stops (Between low high) three s at p
    stops_1 {p} x = record { count = 0; place = omega (arith, x.place); one = (low, (omega arith, omega arith), record { in_run = omega arith; in_text = omega arith; each = λ i h. absurd (omega arith) }); never = never; absent = λ k o a. never k [] o (agrees-more (three k) [] (agrees-fewer (omega (arith, long k)) a)) }
      where
        never : (k : ℕ) (rest : List ℕ) → Between low high k → ¬ Agrees s at (0 + 1) (three k ++ rest)
        never k rest o a = x.none (omega (arith, a.in_run)) (k / 100) (omega arith) (omega arith) (omega arith) (byte_0 k (0 + 1) rest (omega arith) a)

    module _ {one m : ℕ} (x : DigitOf s at (low / 100) (most / 100) 0 one m) where
      hundreds : (k n : ℕ) (rest : List ℕ) → 0 < n → Agrees s at n (three k ++ rest) → k / 100 ≡ one
      hundreds k n rest h a = omega (arith, byte_0 k n rest h a, x.byte, x.makes)

      byte_1 : (k n : ℕ) (rest : List ℕ) → 1 < n → Agrees s at n (three k ++ rest) → get_or s m 0 ≡ 48 + k / 10 % 10
      byte_1 k n rest h a = let b = byte k 1 n rest h (omega arith) a in (rw (← x.place) at b) ∙ second_is k

      pub stops_2 : {p : ℕ} → NoDigit s m (low / 10) (most / 10) one p → L.Stops (Between low high) three s at p
      stops_2 {p} y =
          record {
            count = 1;
            place = omega (arith, y.place, x.place);
            one = (
              max low (one * 100),
              (omega arith, omega (arith, x.below)),
              record { in_run = omega (arith, x.in_run); in_text = omega (arith, long (max low (one * 100))); each = λ i h. let e : i ≡ 0 = omega arith in rw (e, add-zero) (omega (arith, x.byte, first-is (max low (one * 100)), x.makes, x.above, x.below)) },
            );
            never = never;
            absent = λ k o a. never k [] o (agrees-more (three k) [] (agrees-fewer (omega (arith, long k)) a));
          }
        where
          never : (k : ℕ) (rest : List ℕ) → Between low high k → ¬ Agrees s at (1 + 1) (three k ++ rest)
          never k rest o a =
              let h = hundreds k (1 + 1) rest (omega arith) a in
              y.none (omega (arith, a.in_run, x.place)) (k / 10 % 10) (omega arith) (omega arith) (omega arith) (byte_1 k (1 + 1) rest (omega arith) a)

      module _ {two l : ℕ} (y : DigitOf s m (low / 10) (most / 10) one two l) where
        tens : (k n : ℕ) (rest : List ℕ) → 1 < n → Agrees s at n (three k ++ rest) → k / 10 ≡ two
        tens k n rest h a = omega (arith, hundreds k n rest (omega arith) a, byte_1 k n rest h a, y.byte, y.makes)

        byte_2 : (k n : ℕ) (rest : List ℕ) → 2 < n → Agrees s at n (three k ++ rest) → get_or s l 0 ≡ 48 + k % 10
        byte_2 k n rest h a = let e : at + 2 ≡ l = omega (arith, x.place, y.place) in let b = byte k 2 n rest h (omega arith) a in (rw e at b) ∙ third-is k

        -- two digits agree
        two-agree : (k : ℕ) → k / 10 ≡ two → Agrees s at 2 (three k)
        two-agree k e =
            record {
              in_run = omega (arith, y.in_run, x.place);
              in_text = omega (arith, long k);
              each = λ i h.
                  ⊎_elim (λ (q : i ≡ 1). let w : at + 1 ≡ m = sym x.place in rw (q, w) (omega (arith, y.byte, y.makes, y.ten, second_is k)))
                  (λ (q : i < 1). let z : i ≡ 0 = omega arith in rw (z, add-zero) (omega (arith, x.byte, x.makes, y.makes, y.ten, first-is k)))
                  (eq-or-lt_of_le {m = 1} (omega arith));
            }

        pub stops_3 : {p : ℕ} → NoDigit s l low most two p → L.Stops (Between low high) three s at p
        stops_3 {p} z =
            record {
              count = 2;
              place = omega (arith, z.place, y.place, x.place);
              one = (max low (two * 10), (omega arith, omega (arith, y.below)), two-agree (max low (two * 10)) (omega (arith, y.above, y.below)));
              never = never;
              absent = λ k o a. never k [] o (agrees-more (three k) [] (agrees-fewer (omega (arith, long k)) a));
            }
          where
            never : (k : ℕ) (rest : List ℕ) → Between low high k → ¬ Agrees s at (2 + 1) (three k ++ rest)
            never k rest o a =
                let h = tens k (2 + 1) rest (omega arith) a in
                z.none (omega (arith, a.in_run, x.place, y.place)) (k % 10) (omega arith) (omega arith) (omega arith) (byte_2 k (2 + 1) rest (omega arith) a)

        pub stands_3 : {v e : ℕ} → DigitOf s l low most two v e → L.Stands (Between low high) three s at v e
        stands_3 {v} {e} z =
            let t : v / 10 ≡ two = omega (arith, z.makes, z.ten) in
            let a = two-agree v t in
            record {
              is = (z.above, omega (arith, z.below));
              whole =
                  record {
                    in_run = omega (arith, long v, z.in_run, x.place, y.place);
                    in_text = omega arith;
                    each = λ i h.
                        ⊎_elim (λ (q : i ≡ 2). let w : at + 2 ≡ l = omega (arith, x.place, y.place) in rw (q, w) (omega (arith, z.byte, z.makes, z.ten, third-is v)))
                        (λ (q : i < 2). a.each i q)
                        (eq-or-lt_of_le {m = 2} (omega (arith, long v)));
                  };
              place = omega (arith, long v, z.place, y.place, x.place);
              only = λ k rest o b. omega (arith, tens k (length (three v)) rest (omega (arith, long v)) b, byte_2 k (length (three v)) rest (omega (arith, long v)) b, z.byte, z.makes);
            }

        pub third : (r : Numbered) → DigitAllows s l low most two r → Reads (Between low high) three s at r
        third (Ok x) z = record { how = stands_3 z.how }
        third (Err p) z = record { how = stops_3 z.how }
