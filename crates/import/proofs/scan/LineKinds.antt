-- The five kinds of lines, each with what follows its head.
use Rattle.std.specs.Prelude.{Result, Err}
use Prim.Native.Nat.{ℕ, ◌+◌, ◌-◌, ◌≤◌, ◌<◌}
use mathlib.Core.Path.{◌≡◌, refl, sym, ap, subst}
use mathlib.Core.Bool.{Bool, true, false, cond, ◌&&◌}
use mathlib.Core.List.{List, ◌++◌, append_assoc}
use mathlib.Core.Logic.{⊎_elim}
use mathlib.Core.Option.{Option, none, some}
use lib.Dec.{ltb, eqb}
use lib.ListN.{length}
use native.Mathlib.Omega.{arith}
use borrow.Author.Tests.{ltb-true, eqb-true, lt-ltb, eq-eqb}
use Rattle.model.proofs.First.{below_or}
use Rattle.pnml.specs.Agrees.{Agrees}
use Rattle.grammar.proofs.parts.Steps.{agrees_first, agrees-fewer, agrees-more}
use Rattle.grammar.specs.declared.State.{State}
use Rattle.import.specs.declared.scan.Kind.{Kind}
use Rattle.import.specs.declared.scan.Kind.TheVariants.{Close, Place, Transition, Pre, Post}
use Rattle.text.specs.Ascii.{ascii}
use Rattle.pnml.specs.Pnml.{three}
use Rattle.grammar.specs.Lines.{Line, place, transition, pre, post, ArcAllowed, from_post, up_to, AllowedNext, next_text}
use Rattle.grammar.specs.parts.Stands.{Stands, Stops}
use Rattle.grammar.specs.parts.Parts.{WholeOf, PartOf, Between, Within, valued}
use Rattle.import.specs.scan.Kinds.{head_text, possible, Sound, UpTo, NoHeadOf, HeadOf, kinds, place_start, place_tail, ArcOk, arc_rest, Arced, ArcAllows, StepAllows, RestAllows}
use Rattle.import.specs.declared.scan.Step.{Step}
use Rattle.grammar.proofs.parts.Reading.{whole-first}
use Rattle.import.proofs.scan.Choice.{kind_of, tail_written, split, kind_stands, kind_stops}

apart : {k l : Kind} → k ≡ l → (rank : Kind → ℕ) → (rank k ≡ rank l → ⊥) → ⊥
apart e rank h = h (ap rank e)

number : Kind → ℕ
number Close = 0
number Place = 1
number Transition = 2
number Pre = 3
number Post = 4

both_true : (a b : Bool) → (a && b) ≡ true → (a ≡ true) × (b ≡ true)
both_true true b e = (refl, e)
both_true false b e = let w : false ≡ true = e in let v : ◌≡◌ {A = ℕ} 0 1 = cc in absurd (omega arith)

true_both : (a b : Bool) → a ≡ true → b ≡ true → (a && b) ≡ true
true_both a b e f = rw (e, f)

pub up-to-most : (q : State) → Sound q → up_to q ≤ q.places
up-to-most q h = go (ltb q.arcs 2048)
  where
    go : (b : Bool) → cond b q.places q.low ≤ q.places
    go true = omega arith
    go false = h.low

module _ {q : State} (h : Sound q) where
  arc_ok : (least p w : ℕ) → 1 ≤ q.modes → Between least (up_to q) p → Within 1 w → ArcAllowed q least p w
  arc_ok least p w m b o = record { some_mode = m; least = b.0; most = b.1; inside = omega (arith, b.1, up-to-most q h); positive = o.0; weight = o.1 }

  pub pre_bounds : possible q Pre ≡ true → (1 ≤ q.modes) × (q.low < up_to q) × (up_to q ≤ 999)
  unfolding possible
  pre_bounds e =
      let b = both_true (ltb 0 q.modes) (ltb q.low (up_to q)) e in
      (ltb-true 0 q.modes b.0, ltb-true q.low (up_to q) b.1, omega (arith, up-to-most q h, h.places))

  pub post_bounds : possible q Post ≡ true → (1 ≤ q.modes) × (from_post q < up_to q) × (up_to q ≤ 999)
  unfolding possible
  post_bounds e =
      let b = both_true (ltb 0 q.modes) (ltb (from_post q) (up_to q)) e in
      (ltb-true 0 q.modes b.0, ltb-true (from_post q) (up_to q) b.1, omega (arith, up-to-most q h, h.places))

  -- a kind that is possible has a line, and a line's kind is possible
  pub a-line : (k : Kind) → possible q k ≡ true → (l : Option Line) × (AllowedNext q l) × (kind_of l ≡ k)
  unfolding possible
  a-line Close e = (none, ltb-true 0 q.places e, refl)
  a-line Place e =
      let b = both_true (eqb q.modes 0) (ltb q.places 256) e in
      (some (place 0), record { no_mode = eqb-true q.modes 0 b.0; most = ltb-true q.places 256 b.1; count = omega arith }, refl)
  a-line Transition e =
      let b = both_true (ltb 0 q.places) (ltb q.modes 256) e in
      (some transition, record { some_place = ltb-true 0 q.places b.0; most = ltb-true q.modes 256 b.1 }, refl)
  a-line Pre e =
      let b = both_true (ltb 0 q.modes) (ltb q.low (up_to q)) e in
      (some (pre q.low 1), arc_ok q.low q.low 1 (ltb-true 0 q.modes b.0) (omega arith, ltb-true q.low (up_to q) b.1) (omega arith, omega arith), refl)
  a-line Post e =
      let b = both_true (ltb 0 q.modes) (ltb (from_post q) (up_to q)) e in
      (some (post (from_post q) 1), arc_ok (from_post q) (from_post q) 1 (ltb-true 0 q.modes b.0) (omega arith, ltb-true (from_post q) (up_to q) b.1) (omega arith, omega arith), refl)

  pub can : (l : Option Line) → AllowedNext q l → possible q (kind_of l) ≡ true
  unfolding possible
  can none o = lt-ltb 0 q.places o
  can (some (place n)) o = true_both (eqb q.modes 0) (ltb q.places 256) (eq-eqb q.modes 0 o.no_mode) (lt-ltb q.places 256 o.most)
  can (some transition) o = true_both (ltb 0 q.places) (ltb q.modes 256) (lt-ltb 0 q.places o.some_place) (lt-ltb q.modes 256 o.most)
  can (some (pre p w)) o =
      true_both (ltb 0 q.modes) (ltb q.low (up_to q)) (lt-ltb 0 q.modes o.some_mode) (lt-ltb q.low (up_to q) (omega (arith, o.least, o.most)))
  can (some (post p w)) o =
      true_both (ltb 0 q.modes) (ltb (from_post q) (up_to q)) (lt-ltb 0 q.modes o.some_mode) (lt-ltb (from_post q) (up_to q) (omega (arith, o.least, o.most)))

  some-line : (l : Option Line) × AllowedNext q l
  some-line =
      ⊎_elim (λ (b : 0 < q.places). (none, b))
      (λ (b : q.places ≤ 0).
      ⊎_elim (λ (m : 0 < q.modes). absurd (omega (arith, h.some m))) (λ (m : q.modes ≤ 0). (some (place 0), record { no_mode = omega arith; most = omega arith; count = omega arith }))
      (below_or 0 q.modes))
      (below_or 0 q.places)

  pub no_head : {s : List ℕ} {at p : ℕ} → at ≤ length s → NoHeadOf q kinds s at p → Stops (AllowedNext q) (next_text q) s at p
  no_head {s} {at} {p} in_run x =
      record { count = x.count; place = x.place; one = ⊎_elim zero_one (λ (y : (k : Kind) × (possible q k ≡ true) × (Agrees s at x.count (head_text k))). some_one y.0 y.1 y.2) x.one; never = never; absent = absent }
    where
      One : Type 0
      One = (l : Option Line) × (AllowedNext q l) × (Agrees s at x.count (next_text q l))

      zero_one : x.count ≡ 0 → (l : Option Line) × (AllowedNext q l) × (Agrees s at x.count (next_text q l))
      zero_one e = (some-line.0, some-line.1, record { in_run = omega arith; in_text = omega arith; each = λ i l. absurd (omega arith) })

      some_one : (k : Kind) → possible q k ≡ true → Agrees s at x.count (head_text k) → (l : Option Line) × (AllowedNext q l) × (Agrees s at x.count (next_text q l))
      some_one k e a =
          let l = a-line k e in
          (l.0, l.1, rw (split q l.0, l.2) (agrees-more (head_text k) (tail_written q l.0) a))

      each : (k : Kind) → possible q k ≡ true → UpTo s at (head_text k) x.count
      each Post = x.each.0
      each Pre = x.each.1.0
      each Transition = x.each.1.1.0
      each Place = x.each.1.1.1.0
      each Close = x.each.1.1.1.1.0

      never : (l : Option Line) (rest : List ℕ) → AllowedNext q l → ¬ Agrees s at (x.count + 1) (next_text q l ++ rest)
      never l rest o a =
          let k = kind_of l in
          let u = each (kind_of l) (can l o) in
          let b : Agrees s at (x.count + 1) (head_text (kind_of l) ++ (tail_written q l ++ rest)) = rw (split q l, append_assoc) at a in
          ⊎_elim
          (λ (g : x.count < length (head_text (kind_of l))). let y = u (x.count + 1) (omega arith) (agrees_first (head_text (kind_of l)) (tail_written q l ++ rest) (omega arith) b) in omega (arith, y.0))
          (λ (g : length (head_text (kind_of l)) ≤ x.count). let y = u (length (head_text (kind_of l))) (omega arith) (agrees_first (head_text (kind_of l)) (tail_written q l ++ rest) (omega arith) (agrees-fewer (omega arith) b)) in omega (arith, y.1))
          (below_or x.count (length (head_text (kind_of l))))

      absent : (l : Option Line) → AllowedNext q l → ¬ Agrees s at (length (next_text q l)) (next_text q l)
      absent l o a =
          let b : Agrees s at (length (head_text (kind_of l) ++ tail_written q l)) (head_text (kind_of l) ++ tail_written q l) = rw (split q l) at a in
          let y = each (kind_of l) (can l o) (length (head_text (kind_of l))) (omega arith) (whole-first (head_text (kind_of l)) (tail_written q l) b) in
          omega (arith, y.1)

  back-place : (l : Option Line) → AllowedNext q l → kind_of l ≡ Place → (n : ℕ) × (Within 0 n) × (l ≡ some (place n))
  unfolding number
  back-place none o e = absurd (apart e number (λ z. omega arith))
  back-place (some (place n)) o e = (n, (omega arith, o.count), refl)
  back-place (some transition) o e = absurd (apart e number (λ z. omega arith))
  back-place (some (pre p w)) o e = absurd (apart e number (λ z. omega arith))
  back-place (some (post p w)) o e = absurd (apart e number (λ z. omega arith))

  module _ {s : List ℕ} {at m : ℕ} where
    pub closing-stands : HeadOf q s at Close m → Stands (AllowedNext q) (next_text q) s at none m
    unfolding possible number
    closing-stands x =
        kind_stands Close x.whole (λ (u : Unit {0}). 1 ≤ q.places) (λ u. none) (λ u. refl) (λ u o. o) back {j = tt}
        (record { is = ltb-true 0 q.places x.can; whole = record { in_run = omega (arith, x.whole.agrees.in_run, x.whole.place); in_text = omega arith; each = λ i h. absurd (omega arith) }; place = omega arith; only = λ u rest o a. refl })
      where
        back : (l : Option Line) → AllowedNext q l → kind_of l ≡ Close → (u : Unit {0}) × (1 ≤ q.places) × (l ≡ none)
        back none o e = (tt, o, refl)
        back (some (place n)) o e = absurd (apart e number (λ z. omega arith))
        back (some transition) o e = absurd (apart e number (λ z. omega arith))
        back (some (pre p w)) o e = absurd (apart e number (λ z. omega arith))
        back (some (post p w)) o e = absurd (apart e number (λ z. omega arith))

    pub module_place : HeadOf q s at Place m → (n : ℕ) → Within 0 n → AllowedNext q (some (place n))
    unfolding possible
    module_place x n o =
        let b = both_true (eqb q.modes 0) (ltb q.places 256) x.can in
        record { no_mode = eqb-true q.modes 0 b.0; most = ltb-true q.places 256 b.1; count = o.1 }

    pub place-stands : HeadOf q s at Place m → {n next : ℕ} → Stands (Within 0) (valued (place_start q.places) place_tail) s m n next → Stands (AllowedNext q) (next_text q) s at (some (place n)) next
    place-stands x y = kind_stands Place x.whole (Within 0) (λ n. some (place n)) (λ n. refl) (module_place x) back-place y

    pub place-stops : HeadOf q s at Place m → {p : ℕ} → Stops (Within 0) (valued (place_start q.places) place_tail) s m p → Stops (AllowedNext q) (next_text q) s at p
    place-stops x y = kind_stops Place x.whole (Within 0) (λ n. some (place n)) (λ n. refl) (module_place x) back-place y

    module _ (x : HeadOf q s at Transition m) where
      ok_transition : AllowedNext q (some transition)
      unfolding possible
      ok_transition =
          let b = both_true (ltb 0 q.places) (ltb q.modes 256) x.can in
          record { some_place = ltb-true 0 q.places b.0; most = ltb-true q.modes 256 b.1 }

      back-transition : (l : Option Line) → AllowedNext q l → kind_of l ≡ Transition → (u : Unit {0}) × (Unit {0}) × (l ≡ some transition)
      unfolding number
      back-transition none o e = absurd (apart e number (λ z. omega arith))
      back-transition (some (place n)) o e = absurd (apart e number (λ z. omega arith))
      back-transition (some transition) o e = (tt, tt, refl)
      back-transition (some (pre p w)) o e = absurd (apart e number (λ z. omega arith))
      back-transition (some (post p w)) o e = absurd (apart e number (λ z. omega arith))

      pub transition-stands : {next : ℕ} → WholeOf s m (three q.modes ++ ascii "\"/>\n") next → Stands (AllowedNext q) (next_text q) s at (some transition) next
      transition-stands w =
          kind_stands Transition x.whole (λ (u : Unit {0}). Unit {0}) (λ u. some transition) (λ u. refl) (λ u o. ok_transition) back-transition {j = tt}
          (record { is = tt; whole = w.agrees; place = w.place; only = λ u rest o a. refl })

      pub transition-stops : {p : ℕ} → PartOf s m (three q.modes ++ ascii "\"/>\n") p → Stops (AllowedNext q) (next_text q) s at p
      transition-stops w =
          kind_stops Transition x.whole (λ (u : Unit {0}). Unit {0}) (λ u. some transition) (λ u. refl) (λ u o. ok_transition) back-transition
          (record {
            count = w.count;
            place = w.place;
            one = (tt, tt, w.agrees);
            never = λ u rest o a. w.never (agrees_first (three q.modes ++ ascii "\"/>\n") rest (omega (arith, w.less)) a);
            absent = λ u o a. w.never (agrees-fewer (omega (arith, w.less)) a);
          })

    module _ (x : HeadOf q s at Pre m) where
      ok_pre : (j : ℕ × ℕ) → ArcOk q.low (up_to q) j → AllowedNext q (some (pre j.0 j.1))
      unfolding possible
      ok_pre j o = arc_ok q.low j.0 j.1 (ltb-true 0 q.modes (both_true (ltb 0 q.modes) (ltb q.low (up_to q)) x.can).0) o.0 o.1

      back-pre : (l : Option Line) → AllowedNext q l → kind_of l ≡ Pre → (j : ℕ × ℕ) × (ArcOk q.low (up_to q) j) × (l ≡ some (pre j.0 j.1))
      unfolding number
      back-pre none o e = absurd (apart e number (λ z. omega arith))
      back-pre (some (place n)) o e = absurd (apart e number (λ z. omega arith))
      back-pre (some transition) o e = absurd (apart e number (λ z. omega arith))
      back-pre (some (pre p w)) o e = ((p, w), ((o.least, o.most), (o.positive, o.weight)), refl)
      back-pre (some (post p w)) o e = absurd (apart e number (λ z. omega arith))

      pub pre-stands : {j : ℕ × ℕ} {next : ℕ} → Stands (ArcOk q.low (up_to q)) (arc_rest true (q.modes - 1)) s m j next → Stands (AllowedNext q) (next_text q) s at (some (pre j.0 j.1)) next
      pre-stands y = kind_stands Pre x.whole (ArcOk q.low (up_to q)) (λ j. some (pre j.0 j.1)) (λ j. refl) ok_pre back-pre y

      pub pre-stops : {p : ℕ} → Stops (ArcOk q.low (up_to q)) (arc_rest true (q.modes - 1)) s m p → Stops (AllowedNext q) (next_text q) s at p
      pre-stops y = kind_stops Pre x.whole (ArcOk q.low (up_to q)) (λ j. some (pre j.0 j.1)) (λ j. refl) ok_pre back-pre y

    module _ (x : HeadOf q s at Post m) where
      ok_post : (j : ℕ × ℕ) → ArcOk (from_post q) (up_to q) j → AllowedNext q (some (post j.0 j.1))
      unfolding possible
      ok_post j o = arc_ok (from_post q) j.0 j.1 (ltb-true 0 q.modes (both_true (ltb 0 q.modes) (ltb (from_post q) (up_to q)) x.can).0) o.0 o.1

      back-post : (l : Option Line) → AllowedNext q l → kind_of l ≡ Post → (j : ℕ × ℕ) × (ArcOk (from_post q) (up_to q) j) × (l ≡ some (post j.0 j.1))
      unfolding number
      back-post none o e = absurd (apart e number (λ z. omega arith))
      back-post (some (place n)) o e = absurd (apart e number (λ z. omega arith))
      back-post (some transition) o e = absurd (apart e number (λ z. omega arith))
      back-post (some (pre p w)) o e = absurd (apart e number (λ z. omega arith))
      back-post (some (post p w)) o e = ((p, w), ((o.least, o.most), (o.positive, o.weight)), refl)

      pub post-stands : {j : ℕ × ℕ} {next : ℕ} → Stands (ArcOk (from_post q) (up_to q)) (arc_rest false (q.modes - 1)) s m j next → Stands (AllowedNext q) (next_text q) s at (some (post j.0 j.1)) next
      post-stands y = kind_stands Post x.whole (ArcOk (from_post q) (up_to q)) (λ j. some (post j.0 j.1)) (λ j. refl) ok_post back-post y

      pub post-stops : {p : ℕ} → Stops (ArcOk (from_post q) (up_to q)) (arc_rest false (q.modes - 1)) s m p → Stops (AllowedNext q) (next_text q) s at p
      post-stops y = kind_stops Post x.whole (ArcOk (from_post q) (up_to q)) (λ j. some (post j.0 j.1)) (λ j. refl) ok_post back-post y

pub rest_of : {q : State} {k l : Kind} {s : List ℕ} {m : ℕ} {r : Result Step ℕ} → l ≡ k → RestAllows q k s m r → RestAllows q l s m r
rest_of {q} {k} {l} {s} {m} {r} e x = subst (λ y. RestAllows q y s m r) (sym e) x

pub step-not : {q : State} {s : List ℕ} {at p : ℕ} {r : Result Step ℕ} → r ≡ Err p → Stops (AllowedNext q) (next_text q) s at p → StepAllows q s at r
step-not e x = record { how = rw e x }

pub arc-stops : {b : Bool} {t low high : ℕ} {s : List ℕ} {at p : ℕ} {r : Arced} → r ≡ Err p → Stops (ArcOk low high) (arc_rest b t) s at p → ArcAllows b t low high s at r
arc-stops e x = record { how = rw e x }
