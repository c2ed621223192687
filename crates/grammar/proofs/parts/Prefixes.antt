-- Every beginning of a decimal is the decimal of a number that is no larger.
use Rattle.std.specs.Prelude.{Some, None}
use Prim.Native.Nat.{ℕ, zero, suc, ◌+◌, ◌*◌, ◌-◌, ◌/◌, ◌%◌, ◌≤◌, ◌<◌}
use mathlib.Core.Path.{◌≡◌, refl, sym, ◌∙◌, ap}
use mathlib.Core.Bool.{Bool, true, false}
use mathlib.Core.List.{List, [], ◌∷◌, ◌++◌}
use mathlib.Core.Logic.{◌⊎◌, inl, inr, ⊎_elim, ◌≢◌}
use lib.Dec.{ltb}
use lib.ListN.{length, get_or, length-append, get_or-append}
use lib.Seq.{get_or_at, ext_get_or}
use native.Mathlib.Omega.{arith}
use native.Mathlib.Nat.{eq-or-lt_of_le}
use borrow.Author.Tests.{ltb-true, ltb-false, lt-ltb, le-ltb, eq-eqb, ne_eqb}
use Rattle.model.proofs.First.{below_or}
use Rattle.text.specs.Decimals.{digit, decimal_within, decimal}
use Rattle.text.specs.Promises.{reads_after}
use Rattle.text.proofs.Decimals.{by-tens, last-length, decimals}
use Rattle.pnml.specs.Agrees.{Agrees}
use Rattle.grammar.specs.parts.Numbers.{Ranged, number_text, Found, Ended, next_value, Span}
use Rattle.model.specs.Numbers.{limit}

fuel : (a b n : ℕ) → n ≤ a → n ≤ b → decimal_within a n ≡ decimal_within b n
unfolding decimal_within
fuel zero zero n h l = refl
fuel zero (suc b) n h l = go (ltb n 10) refl
  where
    go : (t : Bool) → ltb n 10 ≡ t → digit n ∷ [] ≡ decimal_within (suc b) n
    go true e = rw (e, decimal_within)
    go false e = absurd (omega (arith, ltb-false n 10 e))
fuel (suc a) zero n h l = go (ltb n 10) refl
  where
    go : (t : Bool) → ltb n 10 ≡ t → decimal_within (suc a) n ≡ digit n ∷ []
    go true e = rw (e, decimal_within)
    go false e = absurd (omega (arith, ltb-false n 10 e))
fuel (suc a) (suc b) n h l = go (ltb n 10) refl (fuel a b (n / 10))
  where
    go : (t : Bool) → ltb n 10 ≡ t → (n / 10 ≤ a → n / 10 ≤ b → decimal_within a (n / 10) ≡ decimal_within b (n / 10))
        → decimal_within (suc a) n ≡ decimal_within (suc b) n
    go true e ih = rw (e, decimal_within)
    go false e ih = rw (e, decimal_within, ih (omega (arith, ltb-false n 10 e)) (omega (arith, ltb-false n 10 e)))

pub small : (n : ℕ) → n < 10 → decimal n ≡ digit n ∷ []
unfolding decimal decimal_within
small zero h = refl
small (suc n) h = go (ltb (suc n) 10) refl
  where
    go : (t : Bool) → ltb (suc n) 10 ≡ t → decimal_within (suc n) (suc n) ≡ digit (suc n) ∷ []
    go true e = rw (e, decimal_within)
    go false e = absurd (omega (arith, ltb-false (suc n) 10 e))

-- a decimal of ten or more is its tenth's and a digit
pub tens : (n : ℕ) → 10 ≤ n → decimal n ≡ decimal (n / 10) ++ digit (n % 10) ∷ []
unfolding decimal decimal_within
tens zero h = absurd (omega arith)
tens (suc n) h = go (ltb (suc n) 10) refl
  where
    go : (t : Bool) → ltb (suc n) 10 ≡ t → decimal_within (suc n) (suc n) ≡ decimal_within (suc n / 10) (suc n / 10) ++ digit (suc n % 10) ∷ []
    go true e = absurd (omega (arith, ltb-true (suc n) 10 e))
    go false e = rw (e, decimal_within, fuel n (suc n / 10) (suc n / 10) (omega arith) (omega arith))

pub one_more_lem : (v d : ℕ) → 0 < v → d < 10 → decimal (v * 10 + d) ≡ decimal v ++ digit d ∷ []
one_more_lem v d h l =
    let q : (v * 10 + d) / 10 ≡ v = omega arith in
    let r : (v * 10 + d) % 10 ≡ d = omega arith in
    rw (q, r) at (tens (v * 10 + d) (omega arith))

pub digits_of : (n : ℕ) → reads_after 0 (decimal n) ≡ n
digits_of = decimals.reads_back

-- the first k digits of n are the decimal of a number that is no larger
pub record Begins (n k : ℕ) (ds : List ℕ) : Type 0 where
  pub of : ℕ
  pub most : of ≤ n
  pub some : 0 < n → 0 < of
  pub long : length (decimal of) ≡ k
  pub same : (i : ℕ) → i < k → get_or ds i 0 ≡ get_or (decimal of) i 0

pub begins : (n : ℕ) → (1 ≤ length (decimal n)) × ((k : ℕ) → 1 ≤ k → k ≤ length (decimal n) → Begins n k (decimal n))
begins n =
    let all = by-tens P one more n in
    (all.1, all.2)
  where
    P : ℕ → List ℕ → Type 0
    P n ds = (ds ≡ decimal n) × (1 ≤ length ds) × ((k : ℕ) → 1 ≤ k → k ≤ length ds → Begins n k ds)

    one : (n : ℕ) → n < 10 → P n (digit n ∷ [])
    one n h = (
      sym (small n h),
      omega arith,
      λ k l b.
          record { of = n; most = omega arith; some = λ x. x; long = rw (small n h) (omega arith); same = λ i j. rw (small n h) },
    )

    more : (n : ℕ) (ds : List ℕ) → 10 ≤ n → P (n / 10) ds → P n (ds ++ digit (n % 10) ∷ [])
    more n ds h ih =
        let all = ds ++ digit (n % 10) ∷ [] in
        let is : all ≡ decimal n = ap (λ xs. xs ++ digit (n % 10) ∷ []) ih.0 ∙ sym (tens n h) in
        let long = last-length ds (digit (n % 10)) in (
          is,
          omega arith,
          λ k l b.
              ⊎_elim (λ (q : k ≡ length all). record { of = n; most = omega arith; some = λ x. x; long = ap length (sym is) ∙ sym q; same = λ i j. ap (λ xs. get_or xs i 0) is })
              (λ (q : k < length all).
              let u = ih.2 k l (omega arith) in
              record {
                of = u.of;
                most = omega (arith, u.most);
                some = λ x. u.some (omega arith);
                long = u.long;
                same = λ i j. get_or-append ds (digit (n % 10) ∷ []) 0 i (omega arith) ∙ u.same i j;
              })
              (eq-or-lt_of_le b),
        )

-- what a byte after the digits of v can be, if a text of a number goes on with it: the stop, or a digit that makes no more than the number
module _ (low stop : ℕ) (s : List ℕ) (at : ℕ) (few : low ≤ 1) (non-digit : 57 < stop) where
  agrees-less : {n k : ℕ} {text : List ℕ} → k ≤ n → Agrees s at n text → Agrees s at k text
  agrees-less l a = record { in_run = omega (arith, a.in_run); in_text = omega (arith, a.in_text); each = λ i h. a.each i (omega arith) }

  text-digit : (m : Ranged low) (i : ℕ) → i < length (decimal m.number) → get_or (number_text low stop m) i 0 ≡ get_or (decimal m.number) i 0
  text-digit m i h = get_or-append (decimal m.number) (stop ∷ []) 0 i h

  text-stop : (m : Ranged low) → get_or (number_text low stop m) (length (decimal m.number)) 0 ≡ stop
  text-stop m = get_or_at (decimal m.number) stop [] 0 _ refl

  text-length : (m : Ranged low) → length (number_text low stop m) ≡ length (decimal m.number) + 1
  text-length m = length-append (decimal m.number) (stop ∷ [])

  -- the first byte is a digit, and no less than low
  first_byte : (m : Ranged low) → Agrees s at 1 (number_text low stop m) → let b = get_or s at 0 in (48 ≤ b) × (b ≤ 57) × (low ≤ b - 48)
  first_byte m a =
      let n = m.number in
      let some = (begins n).0 in
      let e : get_or s (at + 0) 0 ≡ get_or (decimal n) 0 0 = a.each 0 (omega arith) ∙ text-digit m 0 some in
      let z : at + 0 ≡ at = omega arith in
      let d = decimals.all_digits n 0 some in
      let f : get_or s at 0 ≡ get_or (decimal n) 0 0 = rw z at e in
      ⊎_elim (λ (p : 0 < n). let q : get_or (decimal n) 0 0 ≢ digit 0 = decimals.no_leading_zero n p in (omega arith, omega arith, omega (arith, above q d.0)))
      (λ (p : n ≤ 0). (omega arith, omega arith, omega (arith, m.least)))
      (below_or 0 n)
    where
      above : {x : ℕ} → x ≢ digit 0 → digit 0 ≤ x → digit 0 < x
      above {x} d h = ⊎_elim (λ (e : digit 0 ≡ x). absurd (d (sym e))) (λ (l : digit 0 < x). l) (eq-or-lt_of_le h)

  -- the digits of v and one more are those of w: v is its tenth
  last-digit : (w v j : ℕ) → 10 ≤ w → length (decimal w) ≡ j + 1 → j ≡ length (decimal v) → ((i : ℕ) → i < j + 1 → get_or s (at + i) 0 ≡ get_or (decimal w) i 0)
      → Agrees s at j (decimal v) → (w / 10 ≡ v) × (get_or s (at + j) 0 ≡ digit (w % 10))
  last-digit w v j ten whole e each got =
      let is = tens w ten in
      let long : length (decimal (w / 10)) ≡ j = omega (arith, ap length is, last-length (decimal (w / 10)) (digit (w % 10))) in
      let front : decimal (w / 10) ≡ decimal v =
      ext_get_or 0 (decimal (w / 10)) (decimal v) (long ∙ e)
      (λ i h.
      sym (get_or-append (decimal (w / 10)) (digit (w % 10) ∷ []) 0 i h) ∙ sym (ap (λ xs. get_or xs i 0) is) ∙ sym (each i (omega arith)) ∙ got.each i (omega arith)) in
      (sym (digits_of (w / 10)) ∙ ap (reads_after 0) front ∙ digits_of v, each j (omega arith) ∙ ap (λ xs. get_or xs j 0) is ∙ get_or_at (decimal (w / 10)) (digit (w % 10)) [] 0 j long)

  -- a later byte, after the digits of v: the stop, or a digit that makes no more than the number
  later-byte : (m : Ranged low) (v j : ℕ) → j ≡ length (decimal v) → Agrees s at j (decimal v) → Agrees s at (j + 1) (number_text low stop m)
      → let b = get_or s (at + j) 0 in (b ≡ stop) ⊎ ((48 ≤ b) × (b ≤ 57) × (0 < v) × (v * 10 + (b - 48) ≤ m.number))
  later-byte m v j e got a = ⊎_elim inside (λ (l : length (decimal n) ≤ j). inl (ends l)) (below_or j (length (decimal n)))
    where
      n : ℕ
      n = m.number

      ends : length (decimal m.number) ≤ j → get_or s (at + j) 0 ≡ stop
      ends l =
          let q : j ≡ length (decimal m.number) = omega (arith, a.in_text, text-length m) in
          a.each j (omega arith) ∙ rw q (text-stop m)

      inside : j < length (decimal m.number)
          → (get_or s (at + j) 0 ≡ stop) ⊎ ((48 ≤ get_or s (at + j) 0) × (get_or s (at + j) 0 ≤ 57) × (0 < v) × (v * 10 + (get_or s (at + j) 0 - 48) ≤ m.number))
      inside l =
          let u = (begins m.number).1 (j + 1) (omega arith) (omega arith) in
          let w = u.of in
          let some = (begins v).0 in
          let ten : 10 ≤ w = ⊎_elim (λ (x : w < 10). absurd (omega (arith, u.long, ap length (small w x)))) (λ (x : 10 ≤ w). x) (below_or w 10) in
          let is = last-digit w v j ten u.long e (λ i h. a.each i h ∙ text-digit m i (omega arith) ∙ u.same i h) got in
          let tenth = is.0 in
          let last = is.1 in
          inr (omega arith, omega arith, omega arith, omega (arith, u.most))

  first_goes : (v b : ℕ) → 48 ≤ b → b ≤ 57 → low ≤ b - 48 → next_value low v false b ≡ Some (b - 48)
  unfolding next_value
  first_goes v b h l k = rw (le-ltb b 48 h, le-ltb 57 b l, le-ltb (b - 48) low k)

  later-goes : (v b : ℕ) → 48 ≤ b → b ≤ 57 → 0 < v → v * 10 + (b - 48) ≤ limit → next_value low v true b ≡ Some (v * 10 + (b - 48))
  unfolding next_value
  later-goes v b h l k m = rw (le-ltb b 48 h, le-ltb 57 b l, ne_eqb v 0 (λ e. omega arith), le-ltb limit (v * 10 + (b - 48)) m)

  module _ (v end : ℕ) (span : Span low s at v end) where
    none_first : end ≡ at → (m : Ranged low) → ¬ Agrees s at 1 (number_text low stop m)
    none_first e m a =
        let f = first_byte m a in
        let z : ltb at end ≡ false = le-ltb at end (omega arith) in
        let l = span.stuck (omega (arith, a.in_run)) in
        let l' : next_value low v false (get_or s at 0) ≡ None = rw (z, e) at l in
        let g = first_goes v (get_or s at 0) f.0 f.1 f.2 in
        cc

    ended-empty : end ≡ at → Ended low stop s at end
    ended-empty e =
        record {
          count = 0;
          place = omega arith;
          first = record { one = (record { number = 1; least = few; most = omega arith }, record { in_run = omega (arith, span.in_run); in_text = omega arith; each = λ i h. absurd (omega arith) }); none = none_first e };
          whole = λ m a. none_first e m (agrees-less (omega (arith, text-length m)) a);
        }

    pub found : at < end → end < length s → get_or s end 0 ≡ stop → Found low stop s at v (end + 1)
    found l h e =
        let d = span.digits l in
        record {
          least = d.0;
          most = span.most;
          stands =
              record {
                in_run = omega (arith, d.1);
                in_text = omega (arith, length-append (decimal v) (stop ∷ []));
                each = λ i b.
                    ⊎_elim (λ (q : i < length (decimal v)). d.2.each i q ∙ sym (get_or-append (decimal v) (stop ∷ []) 0 i q))
                    (λ (q : length (decimal v) ≤ i).
                    let r : i ≡ length (decimal v) = omega arith in
                    let w : at + i ≡ end = omega (arith, d.1) in
                    rw w (e ∙ sym (get_or_at (decimal v) stop [] 0 i (sym r))))
                    (below_or i (length (decimal v)));
              };
          place = omega (arith, d.1);
        }

    none-later : at < end → (end < length s → get_or s end 0 ≢ stop) → (m : Ranged low) → ¬ Agrees s at (length (decimal v) + 1) (number_text low stop m)
    none-later l h m a =
        let d = span.digits l in
        let i : end < length s = omega (arith, d.1, a.in_run) in
        let w : at + length (decimal v) ≡ end = omega (arith, d.1) in
        let b = get_or s end 0 in
        let z : ltb at end ≡ true = lt-ltb at end l in
        let k : next_value low v true b ≡ None = rw z at (span.stuck i) in
        ⊎_elim (λ (q : b ≡ stop). h i q)
        (λ (q : (48 ≤ b) × (b ≤ 57) × (0 < v) × (v * 10 + (b - 48) ≤ m.number)). let g = later-goes v b q.0 q.1 q.2 (omega (arith, q.3, m.most)) in cc)
        (rw w at (later-byte m v (length (decimal v)) refl d.2 a))

    ended-later : at < end → (end < length s → get_or s end 0 ≢ stop) → Ended low stop s at end
    ended-later l h =
        let d = span.digits l in
        record {
          count = length (decimal v);
          place = d.1;
          first =
              record {
                one = (record { number = v; least = d.0; most = span.most }, record { in_run = d.2.in_run; in_text = omega (arith, length-append (decimal v) (stop ∷ [])); each = λ i b. d.2.each i b ∙ sym (get_or-append (decimal v) (stop ∷ []) 0 i b) });
                none = none-later l h;
              };
          whole = λ m a.
              ⊎_elim
              (λ (q : length (decimal m.number) < length (decimal v)).
              let e = a.each (length (decimal m.number)) (omega (arith, text-length m)) ∙ text-stop m in
              omega (arith, d.2.each (length (decimal m.number)) q, decimals.all_digits v (length (decimal m.number)) q))
              (λ (q : length (decimal v) ≤ length (decimal m.number)). none-later l h m (agrees-less (omega (arith, text-length m)) a))
              (below_or (length (decimal m.number)) (length (decimal v)));
        }

    pub ended : (at < end → end < length s → get_or s end 0 ≢ stop) → Ended low stop s at end
    ended h = ⊎_elim (λ (q : at ≡ end). ended-empty (sym q)) (λ (l : at < end). ended-later l (h l)) (eq-or-lt_of_le span.after)

-- the digits so far, and one more
pub record SoFar (low : ℕ) (s : List ℕ) (at value end : ℕ) : Type 0 where
  pub after : at ≤ end
  pub in_run : end ≤ length s
  pub most : value ≤ limit
  pub digits : at < end → (low ≤ value) × (end ≡ at + length (decimal value)) × Agrees s at (length (decimal value)) (decimal value)

module _ (low value b : ℕ) where
  pub first_inv : {n : ℕ} → Some n ≡ next_value low value false b → (48 ≤ b) × (b ≤ 57) × (low ≤ b - 48) × (n ≡ b - 48)
  unfolding next_value
  first_inv {n} h = go (ltb b 48) refl (ltb 57 b) refl (ltb (b - 48) low) refl
    where
      go : (x : Bool) → ltb b 48 ≡ x → (y : Bool) → ltb 57 b ≡ y → (z : Bool) → ltb (b - 48) low ≡ z
          → (48 ≤ b) × (b ≤ 57) × (low ≤ b - 48) × (n ≡ b - 48)
      go true e y f z g = let k = rw e at h in absurd cc
      go false e true f z g = let k = rw (e, f) at h in absurd cc
      go false e false f true g = let k = rw (e, f, g) at h in absurd cc
      go false e false f false g = let k = rw (e, f, g) at h in (ltb-false b 48 e, ltb-false 57 b f, ltb-false (b - 48) low g, cc)

  pub later_inv : {n : ℕ} → Some n ≡ next_value low value true b → (48 ≤ b) × (b ≤ 57) × (0 < value) × (n ≡ value * 10 + (b - 48)) × (n ≤ limit)
  unfolding next_value
  later_inv {n} h = go (ltb b 48) refl (ltb 57 b) refl (below_or 0 value) (ltb limit (value * 10 + (b - 48))) refl
    where
      go : (x : Bool) → ltb b 48 ≡ x → (y : Bool) → ltb 57 b ≡ y → (0 < value) ⊎ (value ≤ 0) → (z : Bool) → ltb limit (value * 10 + (b - 48)) ≡ z
          → (48 ≤ b) × (b ≤ 57) × (0 < value) × (n ≡ value * 10 + (b - 48)) × (n ≤ limit)
      go true e y f w z g = let k = rw e at h in absurd cc
      go false e true f w z g = let k = rw (e, f) at h in absurd cc
      go false e false f (inr w) z g = let k = rw (e, f, eq-eqb value 0 (omega arith)) at h in absurd cc
      go false e false f (inl w) true g = let k = rw (e, f, ne_eqb value 0 (λ q. omega arith), g) at h in absurd cc
      go false e false f (inl w) false g =
          let k = rw (e, f, ne_eqb value 0 (λ q. omega arith), g) at h in
          let is : n ≡ value * 10 + (b - 48) = cc in
          (ltb-false b 48 e, ltb-false 57 b f, w, is, omega (arith, ltb-false limit (value * 10 + (b - 48)) g))

pub so_far_none : (low : ℕ) (s : List ℕ) (at : ℕ) → at ≤ length s → SoFar low s at 0 at
so_far_none low s at h = record { after = omega arith; in_run = h; most = omega arith; digits = λ l. absurd (omega arith) }

-- a digit is put after those that agree
agrees-more : {s : List ℕ} {at : ℕ} (ds : List ℕ) (b : ℕ) → Agrees s at (length ds) ds → at + length ds < length s → get_or s (at + length ds) 0 ≡ b
    → Agrees s at (length (ds ++ b ∷ [])) (ds ++ b ∷ [])
agrees-more ds b a h e =
    let long = last-length ds b in
    record {
      in_run = omega arith;
      in_text = omega arith;
      each = λ i l.
          ⊎_elim (λ (q : i < length ds). a.each i q ∙ sym (get_or-append ds (b ∷ []) 0 i q))
          (λ (q : length ds ≤ i). let r : i ≡ length ds = omega arith in rw r (e ∙ sym (get_or_at ds b [] 0 (length ds) refl)))
          (below_or i (length ds));
    }

pub so_far_more : (low : ℕ) (s : List ℕ) (at value end next : ℕ) → SoFar low s at value end → end < length s
    → Some next ≡ next_value low value (ltb at end) (get_or s end 0) → SoFar low s at next (end + 1)
so_far_more low s at value end next f h e =
    record { after = omega (arith, f.after); in_run = omega arith; most = most; digits = λ _. ⊎_elim begun (λ (q : at ≡ end). fresh (sym q)) (⊎_elim (λ (q : at ≡ end). inr q) (λ (q : at < end). inl q) (eq-or-lt_of_le f.after)) }
  where
    most : next ≤ limit
    most =
        ⊎_elim
        (λ (q : at ≡ end).
        let z : ltb at end ≡ false = le-ltb at end (omega arith) in
        let e' : Some next ≡ next_value low value false (get_or s end 0) = rw z at e in
        let i = first_inv low value (get_or s end 0) e' in
        omega (arith, i.1, i.3))
        (λ (q : at < end).
        let z : ltb at end ≡ true = lt-ltb at end q in
        let e' : Some next ≡ next_value low value true (get_or s end 0) = rw z at e in
        (later_inv low value (get_or s end 0) e').4)
        (eq-or-lt_of_le f.after)

    fresh : end ≡ at → (low ≤ next) × (end + 1 ≡ at + length (decimal next)) × Agrees s at (length (decimal next)) (decimal next)
    fresh q =
        let z : ltb at end ≡ false = le-ltb at end (omega arith) in
        let e' : Some next ≡ next_value low value false (get_or s end 0) = rw z at e in
        let i = first_inv low value (get_or s end 0) e' in
        let x : next ≡ get_or s end 0 - 48 = i.3 in
        let y : decimal next ≡ digit next ∷ [] = small next (omega arith) in
        let w : digit next ≡ get_or s end 0 = omega arith in
        rw (y, w) (
          omega (arith, i.2),
          omega arith,
          record { in_run = omega arith; in_text = omega arith; each = λ k m. let k0 : k ≡ 0 = omega arith in let a0 : at + 0 ≡ end = omega arith in rw (k0, a0) },
        )

    begun : at < end → (low ≤ next) × (end + 1 ≡ at + length (decimal next)) × Agrees s at (length (decimal next)) (decimal next)
    begun q =
        let d = f.digits q in
        let z : ltb at end ≡ true = lt-ltb at end q in
        let e' : Some next ≡ next_value low value true (get_or s end 0) = rw z at e in
        let i = later_inv low value (get_or s end 0) e' in
        let x : next ≡ value * 10 + (get_or s end 0 - 48) = i.3 in
        let w : digit (get_or s end 0 - 48) ≡ get_or s end 0 = omega arith in
        let y : decimal next ≡ decimal value ++ get_or s end 0 ∷ [] = ap decimal x ∙ one_more_lem value (get_or s end 0 - 48) i.2 (omega arith) ∙ ap (λ c. decimal value ++ c ∷ []) w in
        let p : at + length (decimal value) ≡ end = omega (arith, d.1) in
        rw y
        (omega (arith, d.0), omega (arith, last-length (decimal value) (get_or s end 0)), agrees-more (decimal value) (get_or s end 0) d.2 (omega arith) (ap (λ k. get_or s k 0) p))

pub stuck : {low : ℕ} {s : List ℕ} {at value end : ℕ} → SoFar low s at value end → (end < length s → next_value low value (ltb at end) (get_or s end 0) ≡ None) → Span low s at value end
stuck f h = record { after = f.after; in_run = f.in_run; most = f.most; digits = f.digits; stuck = h }

-- all bytes to the end of the run
pub all_digits : {low : ℕ} {s : List ℕ} {at value end : ℕ} → SoFar low s at value end → length s ≤ end → Span low s at value (length s)
all_digits {low} {s} {at} {value} {end} f h =
    let e : end ≡ length s = omega (arith, f.in_run) in
    rw e at (stuck f (λ l. absurd (omega arith)))
