-- The lines still to be read of an export's text: each line that is read is the first of them, and what all of them say is the net's.
use Prim.Native.Nat.{ℕ, ◌+◌, ◌≤◌}
use mathlib.Core.Path.{◌≡◌, refl, sym, ◌∙◌}
use mathlib.Core.Bool.{Bool, true, false, cond}
use mathlib.Core.List.{List, [], ◌∷◌, ◌++◌}
use mathlib.Core.Option.{none, some}
use lib.Dec.{ltb}
use lib.ListN.{length, length-append}
use native.Mathlib.Omega.{arith}
use native.Mathlib.Nat.{zero-add}
use Rattle.model.specs.Nets.{PNet, pairs}
use Rattle.pnml.specs.Agrees.{Agrees}
use Rattle.pnml.specs.Pnml.{opening, pnml, Exportable}
use Rattle.grammar.specs.parts.Stands.{Stands, Stops}
use Rattle.grammar.proofs.parts.Steps.{agrees-rest}
use Rattle.grammar.proofs.parts.Reading.{the_one, whole-first}
use Rattle.grammar.specs.declared.State.{State}
use Rattle.grammar.specs.Lines.{Line, place, transition, pre, post, after, start, line_text, AllowedNext, next_text, Valid, text_from}
use Rattle.grammar.specs.Gathered.{Gathered, nothing, gather, finish, Tells}
use Rattle.grammar.proofs.Lists.{differ, differ', same}
use Rattle.grammar.proofs.Made.{made-start, made-line}
use Rattle.import.proofs.scan.Answers.{lines_of, all-agree}
use Rattle.import.proofs.scan.Onward.{sound-start, sound-after}
use Rattle.import.specs.Parts.{Left, Going, LineAt}

left-start : {s : List ℕ} (net : PNet) → Exportable net → s ≡ pnml net → Left s net start nothing (length opening)
left-start {s} net e i =
    let g = lines_of net e in
    let is : s ≡ opening ++ text_from start g.0 = i ∙ g.2 in
    let a = agrees-rest opening (text_from start g.0) (rw (length-append opening (text_from start g.0)) at (all-agree (opening ++ text_from start g.0) is)) in
    record { lines = g.0; valid = g.1; whole = rw (zero-add (length opening)) at a; tells = g.3 }

module _ {s : List ℕ} {net : PNet} {q : State} {d : Gathered} {at : ℕ} (w : Left s net q d at) where
  -- a line that stands there is the first of those left
  pub left-line : {l : Line} {m : ℕ} → LineAt q s at l m → Left s net (after q l) (gather q l d) m
  unfolding Valid text_from finish
  left-line {l} {m} st = go w.lines w.valid w.whole w.tells
    where
      first : (k : Line) (ks : List Line) → k ≡ l → Valid (after q k) ks → Agrees s at (length (line_text q k ++ text_from (after q k) ks)) (line_text q k ++ text_from (after q k) ks)
          → Tells net (finish (after q k) (gather q k d) ks) → Left s net (after q l) (gather q l d) m
      first k ks e v a t =
          let a' : Agrees s at (length (line_text q l) + length (text_from (after q l) ks)) (line_text q l ++ text_from (after q l) ks) = rw (e, length-append) at a in
          record { lines = ks; valid = rw e at v; whole = rw (← st.place) at (agrees-rest (line_text q l) (text_from (after q l) ks) a'); tells = rw e at t }

      go : (ls : List Line) → Valid q ls → Agrees s at (length (text_from q ls)) (text_from q ls) → Tells net (finish q d ls) → Left s net (after q l) (gather q l d) m
      go [] v a t = absurd (differ' (the_one st none v a))
      go (k ∷ ks) v a t = first k ks (same (the_one st (some k) v.0 (whole-first (line_text q k) (text_from (after q k) ks) a))) v.1 a t

  -- where the closing stands none is left, and the text says the net
  pub left_end : {m : ℕ} → Stands (AllowedNext q) (next_text q) s at none m → Tells net (q, d)
  unfolding Valid text_from finish
  left_end {m} st = go w.lines w.valid w.whole w.tells
    where
      go : (ls : List Line) → Valid q ls → Agrees s at (length (text_from q ls)) (text_from q ls) → Tells net (finish q d ls) → Tells net (q, d)
      go [] v a t = t
      go (k ∷ ks) v a t = absurd (differ (the_one st (some k) v.0 (whole-first (line_text q k) (text_from (after q k) ks) a)))

  pub left-stops : {p : ℕ} → Stops (AllowedNext q) (next_text q) s at p → ⊥
  unfolding Valid text_from
  left-stops {p} st = go w.lines w.valid w.whole
    where
      go : (ls : List Line) → Valid q ls → Agrees s at (length (text_from q ls)) (text_from q ls) → ⊥
      go [] v a = st.absent none v a
      go (k ∷ ks) v a = st.absent (some k) v.0 (whole-first (line_text q k) (text_from (after q k) ks) a)

-- no line takes a place or an arc away
pub record Grown (q r : State) : Type 0 where
  pub places : q.places ≤ r.places
  pub arcs : q.arcs ≤ r.arcs

grown_line : (q : State) (l : Line) → Grown q (after q l)
grown_line q (place n) = record { places = omega arith; arcs = omega arith }
grown_line q transition = record { places = omega arith; arcs = omega arith }
grown_line q (pre p w) = record { places = omega arith; arcs = omega arith }
grown_line q (post p w) = record { places = omega arith; arcs = go (ltb p q.low) }
  where
    go : (b : Bool) → q.arcs ≤ cond b q.arcs (q.arcs + 1)
    go true = omega arith
    go false = omega arith

grown_all : (ls : List Line) (q : State) (d : Gathered) → Grown q (finish q d ls).0
unfolding finish
grown_all [] q d = record { places = omega arith; arcs = omega arith }
grown_all (l ∷ ls) q d = grown_both (grown_line q l) (grown_all ls (after q l) (gather q l d))
  where
    grown_both : {a b c : State} → Grown a b → Grown b c → Grown a c
    grown_both g h = record { places = omega (arith, g.places, h.places); arcs = omega (arith, g.arcs, h.arcs) }

-- after a transition no place follows
places_stay : (ls : List Line) (q : State) (d : Gathered) → 1 ≤ q.modes → Valid q ls → (finish q d ls).0.places ≡ q.places
unfolding finish Valid
places_stay [] q d h v = refl
places_stay (place n ∷ ls) q d h v = absurd (omega (arith, v.0.no_mode))
places_stay (transition ∷ ls) q d h v = places_stay ls (after q transition) (gather q transition d) (omega arith) v.1
places_stay (pre p w ∷ ls) q d h v = places_stay ls (after q (pre p w)) (gather q (pre p w) d) h v.1
places_stay (post p w ∷ ls) q d h v = places_stay ls (after q (post p w)) (gather q (post p w) d) h v.1

-- and where no place follows, the first marking is told
marks_stay : (ls : List Line) (q : State) (d : Gathered) → (finish q d ls).0.places ≡ q.places → (finish q d ls).1.marks ≡ d.marks
unfolding finish
marks_stay [] q d e = refl
marks_stay (place n ∷ ls) q d e = absurd (omega (arith, e, (grown_all ls (after q (place n)) (gather q (place n) d)).places))
marks_stay (transition ∷ ls) q d e = marks_stay ls (after q transition) (gather q transition d) e
marks_stay (pre p w ∷ ls) q d e = marks_stay ls (after q (pre p w)) (gather q (pre p w) d) e
marks_stay (post p w ∷ ls) q d e = marks_stay ls (after q (post p w)) (gather q (post p w) d) e

module _ {s : List ℕ} {net : PNet} {q : State} {d : Gathered} {at : ℕ} (w : Left s net q d at) where
  pub few-places : q.places ≤ pairs net
  few-places = omega (arith, (grown_all w.lines q d).places, w.tells.pairs)

  pub few-arcs : q.arcs ≤ length net.arcs
  few-arcs = omega (arith, (grown_all w.lines q d).arcs, w.tells.many)

  pub all-places : 1 ≤ q.modes → q.places ≡ pairs net
  all-places h = sym (places_stay w.lines q d h w.valid) ∙ w.tells.pairs

  pub all-marks : q.places ≡ pairs net → d.marks ≡ net.start
  all-marks e = sym (marks_stay w.lines q d (w.tells.pairs ∙ sym e)) ∙ w.tells.marks

pub going_start : (s : List ℕ) → length opening ≤ length s → Going s start nothing (length opening)
going_start s h = record { in_run = h; sound = sound-start; text = []; made = made-start; left = left-start }

pub going-line : {s : List ℕ} {q : State} {d : Gathered} {at : ℕ} → Going s q d at → {l : Line} {m : ℕ} → LineAt q s at l m → Going s (after q l) (gather q l d) m
going-line {s} {q} {d} g {l} {m} st =
    record {
      in_run = omega (arith, st.whole.in_run, st.place);
      sound = sound-after g.sound l st.is;
      text = g.text ++ line_text q l;
      made = made-line g.made l st.is;
      left = λ net e i. left-line (g.left net e i) st;
    }
