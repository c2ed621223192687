-- From one line to the next.
use Rattle.std.specs.Prelude.{Result, Err}
use Prim.Native.Nat.{ℕ, ◌+◌, ◌≤◌, ◌<◌}
use mathlib.Core.Path.{◌≡◌, refl, sym, ◌∙◌, ap, subst}
use mathlib.Core.Bool.{Bool, true, false, cond}
use mathlib.Core.List.{List, [], ◌++◌}
use mathlib.Core.Option.{Option, none, some}
use lib.Dec.{ltb}
use lib.ListN.{length, length-append}
use native.Mathlib.Omega.{arith}
use borrow.Author.Tests.{ltb-true, ltb-false}
use Rattle.grammar.specs.declared.State.{State}
use Rattle.grammar.specs.Gathered.{Gathered, nothing, gather, finish}
use Rattle.grammar.specs.Lines.{Line, place, transition, pre, post, Allowed, ArcAllowed, after, start, text_from, line_text, AllowedNext, next_text}
use Rattle.grammar.specs.parts.Stands.{Stands, Stops}
use Rattle.import.specs.scan.Kinds.{head_text, Sound, EndOf, MovedTo, LinesAllow}
use lib.Seq.{ext_get_or}
use Rattle.pnml.specs.Agrees.{Agrees}
use Rattle.grammar.proofs.parts.Steps.{agrees-both}
use Rattle.pnml.specs.Pnml.{opening, closing}
use Rattle.grammar.proofs.Made.{Made, made-start, made-line, export}
use Rattle.grammar.proofs.Lists.{More, Ends, closed, line-stops, line-more, line-ends}
use Rattle.import.proofs.scan.Choice.{kind_of, tail_written, split, long-head}

pub sound-start : Sound start
sound-start = record { places = omega arith; modes = omega arith; arcs = omega arith; low = omega arith; some = λ h. absurd (omega arith); half = λ e. let v : ◌≡◌ {A = ℕ} 0 1 = cc in absurd (omega arith) }

module _ {q : State} (h : Sound q) where
  few : (b : Bool) → ltb q.arcs 2048 ≡ b → (p : ℕ) → q.low ≤ p → p < cond b q.places q.low → q.arcs < 2048
  few true e p l m = ltb-true q.arcs 2048 e
  few false e p l m = absurd (omega arith)

  pub sound-after : (l : Line) → Allowed q l → Sound (after q l)
  sound-after (place n) a = record { places = omega (arith, a.most); modes = h.modes; arcs = h.arcs; low = omega (arith, h.low); some = λ m. omega arith; half = h.half }
  sound-after transition a =
      record { places = h.places; modes = omega (arith, a.most); arcs = h.arcs; low = omega arith; some = λ m. a.some_place; half = λ e. let v : ◌≡◌ {A = ℕ} 0 1 = cc in absurd (omega arith) }
  sound-after (pre p w) a =
      record { places = h.places; modes = h.modes; arcs = omega (arith, few (ltb q.arcs 2048) refl p a.least a.most); low = omega (arith, a.inside); some = h.some; half = λ e. omega arith }
  sound-after (post p w) a =
      record { places = h.places; modes = h.modes; arcs = most (ltb p q.low) refl; low = omega (arith, a.inside); some = h.some; half = λ e. let v : ◌≡◌ {A = ℕ} 0 1 = cc in absurd (omega arith) }
    where
      most : (b : Bool) → ltb p q.low ≡ b → cond b q.arcs (q.arcs + 1) ≤ 2048
      most true e = h.arcs
      most false e = omega (arith, few (ltb q.arcs 2048) refl p (ltb-false p q.low e) a.most)

pub record Onward (s : List ℕ) (first : ℕ) (q : State) (at : ℕ) : Type 0 where
  pub in_run : at ≤ length s
  pub sound : Sound q
  pub stops : {p : ℕ} → More q s at p → More start s first p
  pub says : Gathered
  pub ends : {ls : List Line} {next : ℕ} → Ends q s at ls next → (ks : List Line) × (Ends start s first ks next) × (finish start nothing ks ≡ finish q says ls)
  pub text : List ℕ
  pub made : Made q says text
  pub agrees : Agrees s first (length text) text
  pub place : at ≡ first + length text

pub onward-start : (s : List ℕ) (first : ℕ) → first ≤ length s → Onward s first start first
onward-start s first h = record { in_run = h; sound = sound-start; stops = λ x. x; says = nothing; ends = λ {ls} x. (ls, x, refl); text = []; made = made-start; agrees = record { in_run = omega arith; in_text = omega arith; each = λ i l. absurd (omega arith) }; place = omega arith }

pub line-long : (q : State) (l : Option Line) → 16 ≤ length (next_text q l)
line-long q l = omega (arith, ap length (split q l), length-append (head_text (kind_of l)) (tail_written q l), long-head (kind_of l))

module _ {s : List ℕ} {first : ℕ} {q : State} {at : ℕ} (o : Onward s first q at) where
  onward-ends : {l : Line} {m : ℕ} → Stands (AllowedNext q) (next_text q) s at (some l) m → {ls : List Line} {next : ℕ} → Ends (after q l) s m ls next
      → (ks : List Line) × (Ends start s first ks next) × (finish start nothing ks ≡ finish (after q l) (gather q l o.says) ls)
  unfolding finish
  onward-ends st y = o.ends (line-ends st y)

  pub onward-line : {r : State} {m : ℕ} → MovedTo q s at r m → Onward s first r m
  onward-line {r} {m} x =
      let st = x.stands in
      subst (λ y. Onward s first y m) (sym x.state)
      (record {
        in_run = omega (arith, st.whole.in_run, st.place);
        sound = sound-after o.sound x.line st.is;
        stops = λ y. o.stops (line-more st y);
        says = gather q x.line o.says;
        ends = λ y. onward-ends st y;
        text = o.text ++ line_text q x.line;
        made = made-line o.made x.line st.is;
        agrees = rw (length-append o.text (line_text q x.line)) (agrees-both {n = length (line_text q x.line)} o.text (line_text q x.line) o.agrees (rw (← o.place) st.whole));
        place = omega (arith, o.place, st.place, length-append o.text (line_text q x.line));
      })

  pub farther : {r : State} {m : ℕ} → MovedTo q s at r m → at < m
  farther x = omega (arith, x.stands.place, line-long q (some x.line))

  pub all-stop : {p : ℕ} → Stops (AllowedNext q) (next_text q) s at p → More start s first p
  all-stop x = o.stops (line-stops x)

  pub all_end : {next : ℕ} → Stands (AllowedNext q) (next_text q) s at none next → EndOf q s first next
  unfolding finish
  all_end {next} x =
      let e = o.ends (closed x) in
      let n = export o.made x.is in
      let both = agrees-both {n = length closing} o.text closing o.agrees (rw (← o.place) x.whole) in
      let long : length (o.text ++ closing) ≡ length (text_from start e.0) = omega (arith, length-append o.text closing, o.place, x.place, e.1.place) in
      let same : o.text ++ closing ≡ text_from start e.0 =
      ext_get_or 0 (o.text ++ closing) (text_from start e.0) long (λ i l. sym (both.each i (omega (arith, length-append o.text closing))) ∙ e.1.whole.each i (omega arith)) in
      record { lines = e.0; stands = e.1; says = o.says; ends = e.2; net = n.0; exportable = n.1; text = n.2 ∙ ap (λ z. opening ++ z) same }

pub lines-not : {s : List ℕ} {at p : ℕ} {r : Result (State × ℕ) ℕ} → r ≡ Err p → More start s at p → LinesAllow s at r
lines-not e x = record { how = rw e x }

pub arc-small : {q : State} {least p w : ℕ} → Sound q → ArcAllowed q least p w → p < 1000
arc-small h a = omega (arith, a.inside, h.places)
