-- Texts one after the other.
use Prim.Native.Nat.{ℕ, ◌+◌, ◌-◌, ◌≤◌, ◌<◌}
use mathlib.Core.Path.{◌≡◌, sym, ◌∙◌, ap}
use mathlib.Core.List.{List, ◌++◌, append_assoc}
use mathlib.Core.Logic.{⊎_elim}
use lib.ListN.{length, get_or, drop, length-append, length-drop, get_or-append}
use lib.Seq.{get_or-drop, get_or-append-add}
use Rattle.model.proofs.First.{below_or}
use native.Mathlib.Omega.{arith}
use Rattle.pnml.specs.Agrees.{Agrees}
use Rattle.grammar.proofs.parts.Steps.{agrees-both, agrees-rest, agrees_first, agrees-fewer, agrees-more}
use Rattle.grammar.specs.parts.Stands.{Stands, Stops}

pub whole-first : {s : List ℕ} {at : ℕ} (c rest : List ℕ) → Agrees s at (length (c ++ rest)) (c ++ rest) → Agrees s at (length c) c
whole-first c rest a = agrees_first c rest (omega arith) (agrees-fewer (omega (arith, length-append c rest)) a)

-- of the texts that stand there whole there is one only
module _ {J : Type 0} {ok : J → Type 0} {text : J → List ℕ} {s : List ℕ} {at : ℕ} where
  pub the_one : {j : J} {next : ℕ} → Stands ok text s at j next → (k : J) → ok k → Agrees s at (length (text k)) (text k) → k ≡ j
  the_one {j} st k o a =
      st.only k (drop (length (text k)) (text j)) o
      (record {
        in_run = st.whole.in_run;
        in_text = omega (arith, length-append (text k) (drop (length (text k)) (text j)), length-drop (length (text k)) (text j));
        each = λ i h.
            ⊎_elim (λ (l : i < length (text k)). a.each i l ∙ sym (get_or-append (text k) (drop (length (text k)) (text j)) 0 i l))
            (λ (l : length (text k) ≤ i).
            let e : length (text k) + (i - length (text k)) ≡ i = omega arith in
            st.whole.each i h
            ∙ ap (λ n. get_or (text j) n 0) (sym e)
            ∙ sym (get_or-drop (length (text k)) (text j) (i - length (text k)) 0)
            ∙ sym (get_or-append-add (text k) (drop (length (text k)) (text j)) (i - length (text k)) 0)
            ∙ ap (λ n. get_or (text k ++ drop (length (text k)) (text j)) n 0) e)
            (below_or i (length (text k)));
      })

module _ {J K : Type 0} (ok_j : J → Type 0) (A : J → List ℕ) (ok_k : J → K → Type 0) (B : J → K → List ℕ) where
  abbrev pub ok_both : J × K → Type 0
  ok_both x = ok_j x.0 × ok_k x.0 x.1

  abbrev pub both : J × K → List ℕ
  both x = A x.0 ++ B x.0 x.1

  module _ {s : List ℕ} {at : ℕ} where
    -- where the first text stands, one that agrees with more has it too, and agrees with the rest
    rest_of : (j : J) (m : ℕ) → Stands ok_j A s at j m → (n : ℕ) (x : J × K) (rest : List ℕ) → ok_both x → Agrees s at (length (A j) + n) (both x ++ rest)
        → (x.0 ≡ j) × Agrees s m n (B x.0 x.1 ++ rest)
    rest_of j m st n x rest ok a =
        let a' : Agrees s at (length (A j) + n) (A x.0 ++ (B x.0 x.1 ++ rest)) = rw append_assoc at a in
        let e = st.only x.0 (B x.0 x.1 ++ rest) ok.0 (agrees-fewer (omega arith) a') in
        (e, go x.0 e a')
      where
        go : (k : J) → k ≡ j → Agrees s at (length (A j) + n) (A k ++ (B x.0 x.1 ++ rest)) → Agrees s m n (B x.0 x.1 ++ rest)
        go k e y = rw (← st.place) at (agrees-rest (A j) (B x.0 x.1 ++ rest) (rw e at y))

    pub both_stand : {j : J} {k : K} {m next : ℕ} → Stands ok_j A s at j m → Stands (ok_k j) (B j) s m k next → Stands ok_both both s at (j, k) next
    both_stand {j} {k} {m} {next} st su =
        record {
          is = (st.is, su.is);
          whole = rw (length-append (A j) (B j k)) (agrees-both (A j) (B j k) st.whole (rw (← st.place) su.whole));
          place = omega (arith, st.place, su.place, length-append (A j) (B j k));
          only = λ x rest ok a.
              let r = rest_of j m st (length (B j k)) x rest ok (rw (length-append (A j) (B j k)) at a) in
              let f = second x.0 x.1 rest r.0 ok.1 r.1 in
              pair r.0 f;
        }
      where
        second : (i : J) (h : K) (rest : List ℕ) → i ≡ j → ok_k i h → Agrees s m (length (B j k)) (B i h ++ rest) → h ≡ k
        second i h rest e o y = su.only h rest (rw e at o) (rw e at y)

        pair : {a : J} {b : K} → a ≡ j → b ≡ k → ◌≡◌ {A = J × K} (a, b) (j, k)
        pair e f = cc

    pub both-stop : {j : J} {m p : ℕ} → Stands ok_j A s at j m → Stops (ok_k j) (B j) s m p → Stops ok_both both s at p
    both-stop {j} {m} {p} st su =
        record {
          count = length (A j) + su.count;
          place = omega (arith, st.place, su.place);
          one = ((j, su.one.0), (st.is, su.one.1), agrees-both (A j) (B j su.one.0) st.whole (rw (← st.place) su.one.2));
          never = λ x rest ok a.
              let q : length (A j) + su.count + 1 ≡ length (A j) + (su.count + 1) = omega arith in
              let r = rest_of j m st (su.count + 1) x rest ok (rw q at a) in
              second x.0 x.1 rest r.0 ok.1 r.1;
          absent = λ x ok a.
              let h = whole-first (A x.0) (B x.0 x.1) a in
              third x.0 x.1 (the_one st x.0 ok.0 h) ok.1 a;
        }
      where
        second : (i : J) (h : K) (rest : List ℕ) → i ≡ j → ok_k i h → ¬ Agrees s m (su.count + 1) (B i h ++ rest)
        second i h rest e o y = su.never h rest (rw e at o) (rw e at y)

        third : (i : J) (h : K) → i ≡ j → ok_k i h → ¬ Agrees s at (length (A i ++ B i h)) (A i ++ B i h)
        third i h e o y =
            let y' : Agrees s at (length (A j) + length (B j h)) (A j ++ B j h) = rw (e, length-append) at y in
            su.absent h (rw e at o) (rw (← st.place) at (agrees-rest (A j) (B j h) y'))

    -- where the first text stops, all stop
    pub first_stops : {p : ℕ} → Stops ok_j A s at p → ((j : J) → ok_j j → (k : K) × (ok_k j k)) → Stops ok_both both s at p
    first_stops st some =
        let j = st.one.0 in
        let k = some j st.one.1 in
        record {
          count = st.count;
          place = st.place;
          one = ((j, k.0), (st.one.1, k.1), agrees-more (A j) (B j k.0) st.one.2);
          never = λ x rest ok a. st.never x.0 (B x.0 x.1 ++ rest) ok.0 (rw append_assoc at a);
          absent = λ x ok a. st.absent x.0 ok.0 (whole-first (A x.0) (B x.0 x.1) a);
        }
