-- A family of texts after a constant, and before one.
use Prim.Native.Nat.{ℕ, ◌+◌}
use mathlib.Core.Path.{◌≡◌}
use mathlib.Core.List.{List, ◌++◌, append_assoc}
use lib.ListN.{length, length-append}
use native.Mathlib.Omega.{arith}
use Rattle.pnml.specs.Agrees.{Agrees}
use Rattle.grammar.proofs.parts.Steps.{agrees-both, agrees-rest, agrees_first, agrees-fewer, agrees-more}
use Rattle.grammar.specs.parts.Stands.{Stands, Stops}
use Rattle.grammar.specs.parts.Parts.{WholeOf, PartOf}
use Rattle.grammar.proofs.parts.Reading.{the_one, whole-first}

rest : {s : List ℕ} {at m : ℕ} (c : List ℕ) → WholeOf s at c m → (x r : List ℕ) (n : ℕ) → Agrees s at (length c + n) ((c ++ x) ++ r) → Agrees s m n (x ++ r)
rest {s} {at} c w x r n a = let b : Agrees s at (length c + n) (c ++ (x ++ r)) = rw append_assoc at a in rw (← w.place) at (agrees-rest c (x ++ r) b)

module _ {J : Type 0} {ok : J → Type 0} {s : List ℕ} {at : ℕ} where
  module _ {text new : J → List ℕ} (same : (j : J) → text j ≡ new j) where
    pub stands_as : {j : J} {next : ℕ} → Stands ok text s at j next → Stands ok new s at j next
    stands_as {j} x =
        record {
          is = x.is;
          whole = rw (← same j) x.whole;
          place = rw (← same j) x.place;
          only = λ k rest o a. x.only k rest o (rw (same j, same k) a);
        }

    pub stops_as : {p : ℕ} → Stops ok text s at p → Stops ok new s at p
    stops_as x =
        record {
          count = x.count;
          place = x.place;
          one = (x.one.0, x.one.1, rw (← same x.one.0) x.one.2);
          never = λ k rest o a. x.never k rest o (rw (same k) a);
          absent = λ k o a. x.absent k o (rw (same k) a);
        }

  module _ (text : J → List ℕ) where
    module _ (c : List ℕ) where
      -- the constant stands
      module _ {m : ℕ} (w : WholeOf s at c m) where
        pub const_stands : {j : J} {next : ℕ} → Stands ok text s m j next → Stands ok (λ k. c ++ text k) s at j next
        const_stands {j} x =
            let long = length-append c (text j) in
            record {
              is = x.is;
              whole = rw long (agrees-both {n = length (text j)} c (text j) w.agrees (rw (← w.place) x.whole));
              place = omega (arith, x.place, w.place);
              only = λ k r o a. x.only k r o (rest c w (text k) r (length (text j)) (rw long at a));
            }

        pub const_stops : {p : ℕ} → Stops ok text s m p → Stops ok (λ k. c ++ text k) s at p
        const_stops x =
            record {
              count = length c + x.count;
              place = omega (arith, x.place, w.place);
              one = (x.one.0, x.one.1, agrees-both {n = x.count} c (text x.one.0) w.agrees (rw (← w.place) x.one.2));
              never = λ k r o a. let e : length c + x.count + 1 ≡ length c + (x.count + 1) = omega arith in x.never k r o (rest c w (text k) r (x.count + 1) (rw e at a));
              absent = λ k o a.
                  let b = agrees-rest {n = length (text k)} c (text k) (rw (length-append c (text k)) at a) in
                  x.absent k o (rw (← w.place) at b);
            }

      pub const_part : {p : ℕ} → PartOf s at c p → (j : J) → ok j → Stops ok (λ k. c ++ text k) s at p
      const_part x j o =
          record {
            count = x.count;
            place = x.place;
            one = (j, o, agrees-more c (text j) x.agrees);
            never = λ k r o a. let b : Agrees s at (x.count + 1) (c ++ (text k ++ r)) = rw append_assoc at a in x.never (agrees_first c (text k ++ r) (omega (arith, x.less)) b);
            absent = λ k o a. x.never (agrees-fewer (omega (arith, x.less)) (whole-first c (text k) a));
          }

    module _ (tail : J → List ℕ) where
      pub tail-stops : {p : ℕ} → Stops ok text s at p → Stops ok (λ k. text k ++ tail k) s at p
      tail-stops x =
          record {
            count = x.count;
            place = x.place;
            one = (x.one.0, x.one.1, agrees-more (text x.one.0) (tail x.one.0) x.one.2);
            never = λ k r o a. x.never k (tail k ++ r) o (rw append_assoc at a);
            absent = λ k o a. x.absent k o (whole-first (text k) (tail k) a);
          }

      module _ {j : J} {m : ℕ} (x : Stands ok text s at j m) where
        only-tail : (k : J) (r : List ℕ) (n : ℕ) → ok k → Agrees s at (length (text j) + n) ((text k ++ tail k) ++ r) → (k ≡ j) × Agrees s m n (tail j ++ r)
        only-tail k r n o a =
            let b : Agrees s at (length (text j) + n) (text k ++ (tail k ++ r)) = rw append_assoc at a in
            let e = x.only k (tail k ++ r) o (agrees-fewer (omega arith) b) in
            (e, go k e b)
          where
            go : (k : J) → k ≡ j → Agrees s at (length (text j) + n) (text k ++ (tail k ++ r)) → Agrees s m n (tail j ++ r)
            go k e b = let b' : Agrees s at (length (text j) + n) (text j ++ (tail j ++ r)) = rw e at b in rw (← x.place) at (agrees-rest (text j) (tail j ++ r) b')

        pub tail-stands : {next : ℕ} → WholeOf s m (tail j) next → Stands ok (λ k. text k ++ tail k) s at j next
        tail-stands w =
            let long = length-append (text j) (tail j) in
            record {
              is = x.is;
              whole = rw long (agrees-both {n = length (tail j)} (text j) (tail j) x.whole (rw (← x.place) w.agrees));
              place = omega (arith, x.place, w.place);
              only = λ k r o a. (only-tail k r (length (tail j)) o (rw long at a)).0;
            }

        pub tail-part : {p : ℕ} → PartOf s m (tail j) p → Stops ok (λ k. text k ++ tail k) s at p
        tail-part w =
            record {
              count = length (text j) + w.count;
              place = omega (arith, x.place, w.place);
              one = (j, x.is, agrees-both {n = w.count} (text j) (tail j) x.whole (rw (← x.place) w.agrees));
              never = λ k r o a.
                  let e : length (text j) + w.count + 1 ≡ length (text j) + (w.count + 1) = omega arith in
                  let b = only-tail k r (w.count + 1) o (rw e at a) in
                  w.never (agrees_first (tail j) r (omega (arith, w.less)) b.1);
              absent = λ k o a.
                  let e = the_one x k o (whole-first (text k) (tail k) a) in
                  gone k e a;
            }
          where
            gone : (k : J) → k ≡ j → ¬ Agrees s at (length (text k ++ tail k)) (text k ++ tail k)
            gone k e a =
                let b : Agrees s at (length (text j) + length (tail j)) (text j ++ tail j) = rw (e, length-append) at a in
                let d = agrees-rest {n = length (tail j)} (text j) (tail j) b in
                w.never (agrees-fewer (omega (arith, w.less)) (rw (← x.place) at d))
