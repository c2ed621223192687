-- Lines one after the other, and the closing.
use Prim.Native.Nat.{ℕ, ◌+◌, ◌≤◌}
use mathlib.Core.Path.{◌≡◌, refl, ◌∙◌, ap}
use mathlib.Core.List.{List, [], ◌∷◌, ◌++◌, append_assoc}
use mathlib.Core.Option.{Option, none, some}
use lib.ListN.{length, length-append}
use native.Mathlib.Omega.{arith}
use Rattle.pnml.specs.Agrees.{Agrees}
use Rattle.grammar.proofs.parts.Steps.{agrees-both, agrees-rest, agrees-fewer, agrees-more}
use Rattle.pnml.specs.Pnml.{closing}
use Rattle.grammar.proofs.parts.Reading.{the_one, whole-first}
use Rattle.grammar.specs.declared.State.{State}
use Rattle.grammar.specs.Lines.{Line, place, transition, pre, post, Allowed, after, line_text, AllowedNext, next_text, Valid, text_from}
use Rattle.grammar.specs.parts.Stands.{Stands, Stops}

-- a state after a line can be closed
pub closable : (q : State) (l : Line) → Allowed q l → 1 ≤ (after q l).places
closable q (place n) h = omega arith
closable q transition h = h.some_place
closable q (pre p w) h = omega (arith, h.inside)
closable q (post p w) h = omega (arith, h.inside)

abbrev pub More : State → List ℕ → ℕ → ℕ → Type 0
More q s at p = Stops (Valid q) (text_from q) s at p

abbrev pub Ends : State → List ℕ → ℕ → List Line → ℕ → Type 0
Ends q s at ls next = Stands (Valid q) (text_from q) s at ls next

pub differ : {l : Line} → ◌≡◌ {A = Option Line} (some l) none → ⊥
differ e = let z : ◌≡◌ {A = ℕ} 0 1 = cc in omega arith

pub differ' : {l : Line} → ◌≡◌ {A = Option Line} none (some l) → ⊥
differ' e = let z : ◌≡◌ {A = ℕ} 0 1 = cc in omega arith

pub same : {k l : Line} → ◌≡◌ {A = Option Line} (some k) (some l) → k ≡ l
same e = cc

module _ {q : State} {s : List ℕ} {at : ℕ} where
  pub closed : {next : ℕ} → Stands (AllowedNext q) (next_text q) s at none next → Ends q s at [] next
  unfolding Valid text_from
  closed {next} st = record { is = st.is; whole = st.whole; place = st.place; only = only }
    where
      only : (ls : List Line) (rest : List ℕ) → Valid q ls → Agrees s at (length closing) (text_from q ls ++ rest) → ls ≡ []
      only [] rest ok a = refl
      only (l ∷ ls) rest ok a = absurd (differ (st.only (some l) (text_from (after q l) ls ++ rest) ok.0 (rw append_assoc at a)))

  pub line-stops : {p : ℕ} → Stops (AllowedNext q) (next_text q) s at p → More q s at p
  unfolding Valid text_from
  line-stops {p} st = record { count = st.count; place = st.place; one = one st.one.0 st.one.1 st.one.2; never = never; absent = absent }
    where
      one : (j : Option Line) → AllowedNext q j → Agrees s at st.count (next_text q j) → (ls : List Line) × (Valid q ls) × (Agrees s at st.count (text_from q ls))
      one none ok a = ([], ok, a)
      one (some l) ok a = (l ∷ [], (ok, closable q l ok), agrees-more (line_text q l) closing a)

      never : (ls : List Line) (rest : List ℕ) → Valid q ls → ¬ Agrees s at (st.count + 1) (text_from q ls ++ rest)
      never [] rest ok a = st.never none rest ok a
      never (l ∷ ls) rest ok a = st.never (some l) (text_from (after q l) ls ++ rest) ok.0 (rw append_assoc at a)

      absent : (ls : List Line) → Valid q ls → ¬ Agrees s at (length (text_from q ls)) (text_from q ls)
      absent [] ok a = st.absent none ok a
      absent (l ∷ ls) ok a = st.absent (some l) ok.0 (whole-first (line_text q l) (text_from (after q l) ls) a)

  module _ {l : Line} {m : ℕ} (st : Stands (AllowedNext q) (next_text q) s at (some l) m) where
    -- a text that agrees with more than the line has it
    begins : (n : ℕ) (ls : List Line) (rest : List ℕ) → Valid q ls → Agrees s at (length (line_text q l) + n) (text_from q ls ++ rest)
        → (ks : List Line) × (ls ≡ l ∷ ks) × (Valid (after q l) ks) × (Agrees s m n (text_from (after q l) ks ++ rest))
    unfolding Valid text_from
    begins n [] rest ok a = absurd (differ' (st.only none rest ok (agrees-fewer (omega arith) a)))
    begins n (k ∷ ks) rest ok a =
        let a' : Agrees s at (length (line_text q l) + n) (line_text q k ++ (text_from (after q k) ks ++ rest)) = rw append_assoc at a in
        let e = same (st.only (some k) (text_from (after q k) ks ++ rest) ok.0 (agrees-fewer (omega arith) a')) in
        go k e ok.1 a'
      where
        go : (k : Line) → k ≡ l → Valid (after q k) ks → Agrees s at (length (line_text q l) + n) (line_text q k ++ (text_from (after q k) ks ++ rest))
            → (js : List Line) × (◌≡◌ {A = List Line} (k ∷ ks) (l ∷ js)) × (Valid (after q l) js) × (Agrees s m n (text_from (after q l) js ++ rest))
        go k e v y =
            let y' : Agrees s at (length (line_text q l) + n) (line_text q l ++ (text_from (after q l) ks ++ rest)) = rw e at y in
            (ks, ap (λ h. h ∷ ks) e, rw e at v, rw (← st.place) at (agrees-rest (line_text q l) (text_from (after q l) ks ++ rest) y'))

    pub line-more : {p : ℕ} → More (after q l) s m p → More q s at p
    unfolding Valid text_from
    line-more {p} su =
        record {
          count = length (line_text q l) + su.count;
          place = omega (arith, st.place, su.place);
          one = (l ∷ su.one.0, (st.is, su.one.1), agrees-both (line_text q l) (text_from (after q l) su.one.0) st.whole (rw (← st.place) su.one.2));
          never = λ ls rest ok a.
              let e : length (line_text q l) + su.count + 1 ≡ length (line_text q l) + (su.count + 1) = omega arith in
              let b = begins (su.count + 1) ls rest ok (rw e at a) in
              su.never b.0 rest b.2 b.3;
          absent = absent;
        }
      where
        absent : (ls : List Line) → Valid q ls → ¬ Agrees s at (length (text_from q ls)) (text_from q ls)
        absent [] ok a = differ' (the_one st none ok a)
        absent (k ∷ ks) ok a = go k (same (the_one st (some k) ok.0 (whole-first (line_text q k) (text_from (after q k) ks) a))) ok.1 a
          where
            go : (k : Line) → k ≡ l → Valid (after q k) ks → ¬ Agrees s at (length (line_text q k ++ text_from (after q k) ks)) (line_text q k ++ text_from (after q k) ks)
            go k e v y =
                let y' : Agrees s at (length (line_text q l) + length (text_from (after q l) ks)) (line_text q l ++ text_from (after q l) ks) = rw (e, length-append) at y in
                su.absent ks (rw e at v) (rw (← st.place) at (agrees-rest (line_text q l) (text_from (after q l) ks) y'))

    pub line-ends : {ls : List Line} {next : ℕ} → Ends (after q l) s m ls next → Ends q s at (l ∷ ls) next
    unfolding Valid text_from
    line-ends {ls} {next} su =
        let long = length-append (line_text q l) (text_from (after q l) ls) in
        record {
          is = (st.is, su.is);
          whole = rw long (agrees-both (line_text q l) (text_from (after q l) ls) st.whole (rw (← st.place) su.whole));
          place = omega (arith, st.place, su.place, long);
          only = λ ks rest ok a.
              let b = begins (length (text_from (after q l) ls)) ks rest ok (rw long at a) in
              b.1 ∙ ap (λ x. l ∷ x) (su.only b.0 rest b.2 b.3);
        }
