-- A line's kind is decided by three bytes of its first sixteen.
use Prim.Native.Nat.{ℕ, ◌+◌, ◌-◌, ◌*◌, ◌≤◌}
use mathlib.Core.Path.{◌≡◌, refl, sym, ◌∙◌, ap, subst}
use mathlib.Core.Bool.{true, false, cond}
use mathlib.Core.List.{List, [], ◌++◌, append_assoc, append-nil}
use mathlib.Core.Option.{Option, none, some}
use lib.Dec.{eqb}
use lib.ListN.{length, get_or, length-append}
use native.Mathlib.Omega.{arith}
use Rattle.pnml.specs.Agrees.{Agrees}
use Rattle.grammar.proofs.parts.Steps.{agrees-both, agrees-rest, agrees_first, agrees-fewer}
use Rattle.grammar.specs.declared.State.{State}
use Rattle.import.specs.declared.scan.Kind.{Kind}
use Rattle.import.specs.declared.scan.Kind.TheVariants.{Close, Place, Transition, Pre, Post}
use Rattle.text.specs.Ascii.{ascii}
use Rattle.pnml.specs.Pnml.{closing, three, place_text, transition_text, weight_text, pre_text, post_text}
use Rattle.grammar.specs.Lines.{Line, place, transition, pre, post, line_text, AllowedNext, next_text}
use Rattle.grammar.specs.parts.Stands.{Stands, Stops}
use Rattle.grammar.specs.parts.Parts.{WholeOf, valued}
use Rattle.import.specs.scan.Kinds.{head_text, place_start, place_tail, ends_text, arc_rest}

key : ℕ → ℕ → ℕ → ℕ
key a b c = a * 65536 + b * 256 + c

key_of : List ℕ → ℕ
key_of t = key (get_or t 4 0) (get_or t 7 0) (get_or t 15 0)

rank : ℕ → Kind
rank x =
    cond (eqb x (key_of (head_text Close))) Close
    (cond (eqb x (key_of (head_text Place))) Place (cond (eqb x (key_of (head_text Transition))) Transition (cond (eqb x (key_of (head_text Pre))) Pre Post)))

rank-head : (k : Kind) → rank (key_of (head_text k)) ≡ k
unfolding rank key_of key head_text closing
rank-head Close = refl
rank-head Place = refl
rank-head Transition = refl
rank-head Pre = refl
rank-head Post = refl

pub long-head : (k : Kind) → 16 ≤ length (head_text k)
unfolding head_text closing
long-head Close = omega arith
long-head Place = omega arith
long-head Transition = omega arith
long-head Pre = omega arith
long-head Post = omega arith

module _ {s : List ℕ} {at : ℕ} where
  key-is : (c : List ℕ) → Agrees s at 16 c → key (get_or s (at + 4) 0) (get_or s (at + 7) 0) (get_or s (at + 15) 0) ≡ key_of c
  unfolding key_of
  key-is c a = rw (a.each 4 (omega arith), a.each 7 (omega arith), a.each 15 (omega arith))

  pub one_kind : (k l : Kind) (n : ℕ) (rest : List ℕ) → 16 ≤ n → Agrees s at (length (head_text k)) (head_text k) → Agrees s at n (head_text l ++ rest) → l ≡ k
  one_kind k l n rest h a b =
      let x = key-is (head_text k) (agrees-fewer (long-head k) a) in
      let y = key-is (head_text l) (agrees_first (head_text l) rest (long-head l) (agrees-fewer h b)) in
      sym (rank-head l) ∙ ap rank (sym y ∙ x) ∙ rank-head k

abbrev pub kind_of : Option Line → Kind
kind_of none = Close
kind_of (some (place n)) = Place
kind_of (some transition) = Transition
kind_of (some (pre p w)) = Pre
kind_of (some (post p w)) = Post

abbrev pub tail_written : State → Option Line → List ℕ
tail_written q none = []
tail_written q (some (place n)) = valued (place_start q.places) place_tail n
tail_written q (some transition) = three q.modes ++ ascii "\"/>\n"
tail_written q (some (pre p w)) = arc_rest true (q.modes - 1) (p, w)
tail_written q (some (post p w)) = arc_rest false (q.modes - 1) (p, w)

pub split : (q : State) (l : Option Line) → next_text q l ≡ head_text (kind_of l) ++ tail_written q l
unfolding head_text line_text place_text transition_text pre_text post_text weight_text ends_text
split q none = sym (append-nil closing)
split q (some (place n)) = simp append_assoc
split q (some transition) = refl
split q (some (pre p w)) = simp append_assoc
split q (some (post p w)) = simp append_assoc

-- where a head stands, reading goes on with what follows it
module _ {q : State} {s : List ℕ} {at : ℕ} (k : Kind) {m : ℕ} (w : WholeOf s at (head_text k) m) {K : Type 0} (ok : K → Type 0) (inj : K → Option Line)
    (kind : (j : K) → kind_of (inj j) ≡ k) (allowed : (j : K) → ok j → AllowedNext q (inj j)) (back : (l : Option Line) → AllowedNext q l → kind_of l ≡ k → (j : K) × (ok j) × (l ≡ inj j)) where
  abbrev text : K → List ℕ
  text j = tail_written q (inj j)

  whole_is : (j : K) → next_text q (inj j) ≡ head_text k ++ tail_written q (inj j)
  whole_is j = split q (inj j) ∙ ap (λ x. head_text x ++ tail_written q (inj j)) (kind j)

  goes : (n : ℕ) (l : Option Line) (rest : List ℕ) → AllowedNext q l → Agrees s at (length (head_text k) + n) (next_text q l ++ rest)
      → (j : K) × (ok j) × (l ≡ inj j) × (Agrees s m n (tail_written q (inj j) ++ rest))
  goes n l rest o a =
      let a' : Agrees s at (length (head_text k) + n) (head_text (kind_of l) ++ (tail_written q l ++ rest)) = rw (split q l, append_assoc) at a in
      let e = one_kind k (kind_of l) (length (head_text k) + n) (tail_written q l ++ rest) (omega (arith, long-head k)) w.agrees a' in
      let j = back l o e in
      let b : Agrees s at (length (head_text k) + n) (head_text k ++ (tail_written q l ++ rest)) = rw e at a' in
      let c = agrees-rest (head_text k) (tail_written q l ++ rest) b in
      let d : Agrees s m n (tail_written q l ++ rest) = rw (← w.place) at c in
      (j.0, j.1, j.2, subst (λ x. Agrees s m n (tail_written q x ++ rest)) j.2 d)

  pub kind_stands : {j : K} {next : ℕ} → Stands ok text s m j next → Stands (AllowedNext q) (next_text q) s at (inj j) next
  kind_stands {j} {next} st =
      let long : length (next_text q (inj j)) ≡ length (head_text k) + length (tail_written q (inj j)) = ap length (whole_is j) ∙ length-append (head_text k) (tail_written q (inj j)) in
      record {
        is = allowed j st.is;
        whole = rw long (rw (whole_is j) (agrees-both {n = length (tail_written q (inj j))} (head_text k) (tail_written q (inj j)) w.agrees (rw (← w.place) st.whole)));
        place = omega (arith, st.place, w.place, long);
        only = λ l rest o a.
            let g = goes (length (tail_written q (inj j))) l rest o (rw long at a) in
            g.2 ∙ ap inj (st.only g.0 rest g.1 g.3);
      }

  pub kind_stops : {p : ℕ} → Stops ok text s m p → Stops (AllowedNext q) (next_text q) s at p
  kind_stops {p} st =
      let j = st.one.0 in
      record {
        count = length (head_text k) + st.count;
        place = omega (arith, st.place, w.place);
        one = (inj j, allowed j st.one.1, rw (whole_is j) (agrees-both {n = st.count} (head_text k) (tail_written q (inj j)) w.agrees (rw (← w.place) st.one.2)));
        never = λ l rest o a.
            let e : length (head_text k) + st.count + 1 ≡ length (head_text k) + (st.count + 1) = omega arith in
            let g = goes (st.count + 1) l rest o (rw e at a) in
            st.never g.0 rest g.1 g.3;
        absent = absent;
      }
    where
      absent : (l : Option Line) → AllowedNext q l → ¬ Agrees s at (length (next_text q l)) (next_text q l)
      absent l o a =
          let a' : Agrees s at (length (head_text (kind_of l)) + length (tail_written q l)) (head_text (kind_of l) ++ tail_written q l) = rw (split q l, length-append) at a in
          let e = one_kind k (kind_of l) (length (head_text (kind_of l)) + length (tail_written q l)) (tail_written q l) (omega (arith, long-head (kind_of l))) w.agrees a' in
          let j = back l o e in
          let b : Agrees s at (length (head_text k) + length (tail_written q l)) (head_text k ++ tail_written q l) = rw e at a' in
          let d : Agrees s m (length (tail_written q l)) (tail_written q l) = rw (← w.place) at (agrees-rest {n = length (tail_written q l)} (head_text k) (tail_written q l) b) in
          st.absent j.0 j.1 (subst (λ x. Agrees s m (length (tail_written q x)) (tail_written q x)) j.2 d)
