-- A constant, a number with its stop, and a constant.
use Rattle.std.specs.Prelude.{Ok, Err}
use Prim.Native.Nat.{ℕ, ◌+◌, ◌-◌, ◌≤◌, ◌<◌}
use mathlib.Core.Path.{◌≡◌, refl, sym, ◌∙◌, ap, subst}
use mathlib.Core.List.{List, [], ◌∷◌, ◌++◌, append_assoc}
use mathlib.Core.Logic.{⊎_elim}
use lib.ListN.{length, get_or, length-append, get_or-append}
use lib.Seq.{get_or_at}
use native.Mathlib.Omega.{arith}
use Rattle.model.proofs.First.{below_or}
use Rattle.text.specs.Decimals.{decimal}
use Rattle.text.proofs.Decimals.{decimals}
use Rattle.pnml.specs.Agrees.{Agrees}
use Rattle.grammar.specs.parts.Numbers.{Found, Ended, Ranged}
use Rattle.grammar.specs.parts.Read.{Numbered, Literal}
use Rattle.grammar.proofs.parts.Steps.{agrees-both, agrees-rest, agrees_first, agrees-fewer, agrees-more, same_number}
use Rattle.grammar.specs.parts.Stands as L
use Rattle.grammar.specs.parts.Parts.{WholeOf, PartOf, Compares, Within, valued, Reads}
use Rattle.grammar.proofs.parts.Joints.{stands_as, stops_as, const_stands, const_stops, const_part, tail-stands, tail-part, tail-stops}

abbrev numbered : ℕ → List ℕ
numbered v = decimal v ++ 60 ∷ []

abbrev ranged : {low : ℕ} (k : ℕ) → Within low k → Ranged low
ranged k o = record { number = k; least = o.0; most = o.1 }

module _ {low : ℕ} {s : List ℕ} {at : ℕ} where
  number-stands : {v next : ℕ} → Found low 60 s at v next → L.Stands (Within low) numbered s at v next
  number-stands {v} {next} f =
      let long = length-append (decimal v) (60 ∷ []) in
      record { is = (f.least, f.most); whole = rw long f.stands; place = omega (arith, f.place, long); only = λ k rest o a. only k rest (rw long at a) }
    where
      only : (k : ℕ) (rest : List ℕ) → Agrees s at (length (decimal v) + 1) ((decimal k ++ 60 ∷ []) ++ rest) → k ≡ v
      only k rest a =
          let lk = length-append (decimal k) (60 ∷ []) in
          ⊎_elim
          (λ (l : length (decimal v) < length (decimal k)).
          let n = length (decimal v) in
          let own = a.each (length (decimal v)) (omega arith) ∙ get_or-append (decimal k ++ 60 ∷ []) rest 0 (length (decimal v)) (omega arith) ∙ get_or-append (decimal k) (60 ∷ []) 0 (length (decimal v)) l in
          let ours = f.stands.each (length (decimal v)) (omega arith) ∙ get_or_at (decimal v) 60 [] 0 (length (decimal v)) refl in
          absurd (omega (arith, own, ours, decimals.all_digits k (length (decimal v)) l)))
          (λ (l : length (decimal k) ≤ length (decimal v)).
          same_number 60 k v (omega arith) (agrees_first (decimal k ++ 60 ∷ []) rest (omega arith) (agrees-fewer {k = length (decimal k) + 1} (omega arith) a)) f.stands l)
          (below_or (length (decimal v)) (length (decimal k)))

  number-stops : {p : ℕ} → Ended low 60 s at p → L.Stops (Within low) numbered s at p
  number-stops x =
      let m = x.first.one.0 in
      record {
        count = x.count;
        place = x.place;
        one = (m.number, (m.least, m.most), x.first.one.1);
        never = λ k rest o a.
            ⊎_elim (λ (l : x.count < length (numbered k)). x.first.none (ranged k o) (agrees_first (numbered k) rest (omega arith) a))
            (λ (l : length (numbered k) ≤ x.count). x.whole (ranged k o) (agrees_first (numbered k) rest (omega arith) (agrees-fewer (omega arith) a)))
            (below_or x.count (length (numbered k)));
        absent = λ k o a. x.whole (ranged k o) a;
      }

as_valued : (c tail : List ℕ) (v : ℕ) → c ++ ((decimal v ++ 60 ∷ []) ++ tail) ≡ valued c tail v
as_valued c tail v = ap (λ z. c ++ z) (append_assoc (decimal v) (60 ∷ []) tail)

module _ {low : ℕ} {s : List ℕ} (c tail : List ℕ) {at : ℕ} where
  pub before-part : {p : ℕ} → low ≤ 1 → PartOf s at c p → L.Stops (Within low) (valued c tail) s at p
  before-part h w = const_part (λ v. decimal v ++ 60 ∷ tail) c w 1 (h, omega arith)

  module _ {m : ℕ} (w : WholeOf s at c m) where
    pub number-none : {p : ℕ} → Ended low 60 s m p → L.Stops (Within low) (valued c tail) s at p
    number-none x = stops_as (as_valued c tail) (const_stops (λ v. numbered v ++ tail) c w (tail-stops numbered (λ _. tail) (number-stops x)))

    module _ {v next : ℕ} (f : Found low 60 s m v next) where
      pub value-part : {p : ℕ} → PartOf s next tail p → L.Stops (Within low) (valued c tail) s at p
      value-part x = stops_as (as_valued c tail) (const_stops (λ v. numbered v ++ tail) c w (tail-part numbered (λ _. tail) (number-stands f) x))

      pub value-whole : {end : ℕ} → WholeOf s next tail end → L.Stands (Within low) (valued c tail) s at v end
      value-whole x = stands_as (as_valued c tail) (const_stands (λ v. numbered v ++ tail) c w (tail-stands numbered (λ _. tail) (number-stands f) x))

module _ {s : List ℕ} {at : ℕ} {c : List ℕ} {r : Literal} (x : Compares s at c r) where
  pub whole_of : {m : ℕ} → r ≡ Ok m → WholeOf s at c m
  whole_of e = let h = x.how in rw e at h

  pub part_of : {p : ℕ} → r ≡ Err p → PartOf s at c p
  part_of e = let h = x.how in rw e at h

-- the stop of a number is the first byte of what follows it
abbrev stop : List ℕ
stop = 60 ∷ []

module _ {s : List ℕ} {k next : ℕ} (here : k < length s) (is : get_or s k 0 ≡ 60) (up : next ≡ k + 1) where
  stop-agrees : (n : ℕ) → n ≡ 1 → Agrees s k n stop
  stop-agrees n e =
      record {
        in_run = omega arith;
        in_text = omega arith;
        each = λ i h. let z : i ≡ 0 = omega arith in let q : k + 0 ≡ k = omega arith in rw (z, q) is;
      }

  whole-after : {rest : List ℕ} {e : ℕ} → WholeOf s k (60 ∷ rest) e → WholeOf s next rest e
  whole-after {rest} {e} w =
      let a : Agrees s k (length stop + length rest) (60 ∷ rest) = subst (λ n. Agrees s k n (60 ∷ rest)) (omega arith) w.agrees in
      record { agrees = subst (λ n. Agrees s n (length rest) rest) (sym up) (agrees-rest stop rest a); place = omega (arith, w.place) }

  part-after : {rest : List ℕ} {p : ℕ} → PartOf s k (60 ∷ rest) p → PartOf s next rest p
  part-after {rest} {p} x =
      let some : 1 ≤ x.count =
      ⊎_elim (λ (h : x.count < 1). absurd (x.never (agrees-more stop rest (stop-agrees (x.count + 1) (omega arith))))) (λ (h : 1 ≤ x.count). h) (below_or x.count 1) in
      let a : Agrees s k (length stop + (x.count - 1)) (60 ∷ rest) = subst (λ n. Agrees s k n (60 ∷ rest)) (omega arith) x.agrees in
      record {
        count = x.count - 1;
        place = omega (arith, x.place);
        less = omega (arith, x.less);
        agrees = subst (λ n. Agrees s n (x.count - 1) rest) (sym up) (agrees-rest stop rest a);
        never = λ b.
            let c = agrees-both stop rest (stop-agrees (length stop) (omega arith)) (subst (λ n. Agrees s n (x.count - 1 + 1) rest) up b) in
            x.never (subst (λ n. Agrees s k n (60 ∷ rest)) (omega arith) c);
      }

module _ {low : ℕ} {s : List ℕ} {at v next : ℕ} (f : Found low 60 s at v next) where
  stop-inside : next - 1 < length s
  stop-inside = omega (arith, f.stands.in_run, f.place)

  stop_is : get_or s (next - 1) 0 ≡ 60
  stop_is =
      let e : at + length (decimal v) ≡ next - 1 = omega (arith, f.place) in
      ap (λ n. get_or s n 0) (sym e) ∙ f.stands.each (length (decimal v)) (omega arith) ∙ get_or_at (decimal v) 60 [] 0 (length (decimal v)) refl

  pub tail-whole-after : {rest : List ℕ} {e : ℕ} → WholeOf s (next - 1) (60 ∷ rest) e → WholeOf s next rest e
  tail-whole-after w = whole-after stop-inside stop_is (omega (arith, f.place)) w

  pub tail-part-after : {rest : List ℕ} {p : ℕ} → PartOf s (next - 1) (60 ∷ rest) p → PartOf s next rest p
  tail-part-after x = part-after stop-inside stop_is (omega (arith, f.place)) x

pub found_within : {low : ℕ} {s : List ℕ} {at v n : ℕ} → Found low 60 s at v n → n ≤ length s
found_within f = omega (arith, f.stands.in_run, f.place)

pub reads-stop : {ok : ℕ → Type 0} {text : ℕ → List ℕ} {s : List ℕ} {at p : ℕ} {r : Numbered} → r ≡ Err p → L.Stops ok text s at p → Reads ok text s at r
reads-stop e x = record { how = rw e x }

pub stands-within : {J : Type 0} {ok : J → Type 0} {text : J → List ℕ} {s : List ℕ} {at : ℕ} {j : J} {n : ℕ} → L.Stands ok text s at j n → n ≤ length s
stands-within x = omega (arith, x.whole.in_run, x.place)

pub const_reads : {ok : ℕ → Type 0} {text : ℕ → List ℕ} {s : List ℕ} {at : ℕ} (c : List ℕ) {m : ℕ} (r : Numbered) → WholeOf s at c m → Reads ok text s m r → Reads ok (λ v. c ++ text v) s at r
const_reads {text = text} c (Ok y) w x = record { how = const_stands text c w x.how }
const_reads {text = text} c (Err p) w x = record { how = const_stops text c w x.how }

pub whole-within : {s : List ℕ} {at : ℕ} {c : List ℕ} {m : ℕ} → WholeOf s at c m → m ≤ length s
whole-within w = omega (arith, w.agrees.in_run, w.place)
