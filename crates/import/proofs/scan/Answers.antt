-- What is read after the opening, and what is said of exports.
use Rattle.std.specs.Prelude.{Result, Err}
use Prim.Native.Nat.{ℕ, ◌+◌, ◌≤◌, ◌<◌}
use mathlib.Core.Path.{◌≡◌, refl, sym, ◌∙◌, ap, subst}
use mathlib.Core.List.{List, [], ◌∷◌, ◌++◌, append-nil}
use lib.ListN.{length, get_or, length-append}
use lib.Seq.{ext_get_or}
use native.Mathlib.Omega.{arith}
use native.Mathlib.Nat.{zero-add}
use Rattle.model.specs.Nets.{PNet}
use Rattle.pnml.specs.Agrees.{Agrees}
use Rattle.grammar.proofs.parts.Steps.{agrees-both, agrees-rest, agrees_first, agrees-fewer, agrees-more}
use Rattle.pnml.specs.Pnml.{opening, pnml, Exportable, Refused20}
use Rattle.grammar.specs.declared.State.{State}
use Rattle.grammar.specs.parts.Parts.{WholeOf, PartOf}
use Rattle.import.specs.scan.Kinds.{ExportOf, EndOf, CheckAllows}
use Rattle.grammar.specs.Gathered.{nothing, finish, Tells}
use Rattle.grammar.specs.Lines.{Line, place, start, Valid, text_from}
use Rattle.grammar.proofs.parts.Reading.{the_one}
use Rattle.grammar.proofs.Lists.{More, Ends}
use Rattle.grammar.proofs.Generated.{generated}
use Rattle.grammar.proofs.Made.{exports}

pub lines_of : (net : PNet) → Exportable net → (ls : List Line) × (Valid start ls) × (pnml net ≡ opening ++ text_from start ls) × (Tells net (finish start nothing ls))
unfolding pnml
lines_of net e = let g = generated net e in (g.0, g.1, ap (λ z. opening ++ z) (sym g.2), g.3)

module _ {s : List ℕ} where
  pub all-agree : (text : List ℕ) → s ≡ text → Agrees s 0 (length text) text
  all-agree text e = record { in_run = omega (arith, ap length e); in_text = omega arith; each = λ i h. rw (zero-add i) (ap (λ l. get_or l i 0) e) }

  -- from the texts made of lines to those of nets
  answer : (n : ℕ) → (ls : List Line) → Valid start ls → Agrees s 0 n (opening ++ text_from start ls) → ((ls : List Line) → Valid start ls → ¬ Agrees s 0 (n + 1) (opening ++ text_from start ls))
      → ((ls : List Line) → Valid start ls → ¬ (s ≡ opening ++ text_from start ls)) → Refused20 s n
  answer n ls v a never absent =
      let x = exports ls v in
      record {
        first = record { one = ((x.0, x.1), rw x.2 a); none = λ y b. let g = lines_of y.0 y.1 in never g.0 g.1 (rw g.2 at b) };
        no_export = λ net e i. let g = lines_of net e in absent g.0 g.1 (i ∙ g.2);
      }

  module _ (o : Agrees s 0 (length opening) opening) where
    pub refused : {p : ℕ} → More start s (length opening) p → Refused20 s p
    refused {p} su =
        let z : 0 + length opening ≡ length opening = zero-add (length opening) in
        let w : p ≡ length opening + su.count = su.place in
        rw w
        (answer (length opening + su.count) su.one.0 su.one.1 (agrees-both opening (text_from start su.one.0) o (rw z su.one.2))
        (λ ls v b.
        let e : length opening + su.count + 1 ≡ length opening + (su.count + 1) = omega arith in
        let c = agrees-rest opening (text_from start ls) (rw e at b) in
        su.never ls [] v (rw (append-nil) (rw z at c)))
        (λ ls v i. let c = agrees-rest opening (text_from start ls) (rw (length-append opening (text_from start ls)) at (all-agree (opening ++ text_from start ls) i)) in su.absent ls v (rw z at c)))

    pub longer : {ls : List Line} {next : ℕ} → Ends start s (length opening) ls next → next < length s → Refused20 s next
    longer {ls} {next} st h =
        let z : 0 + length opening ≡ length opening = zero-add (length opening) in
        let n = length (text_from start ls) in
        let w : next ≡ length opening + length (text_from start ls) = st.place in
        rw w
        (answer (length opening + length (text_from start ls)) ls st.is (agrees-both {n = length (text_from start ls)} opening (text_from start ls) o (rw z st.whole))
        (λ ks v b.
        let e : length opening + length (text_from start ls) + 1 ≡ length opening + (length (text_from start ls) + 1) = omega arith in
        let c = agrees-rest opening (text_from start ks) (rw e at b) in
        let c' : Agrees s (length opening) (length (text_from start ls) + 1) (text_from start ks) = rw z at c in
        let same = st.only ks [] v (agrees-more (text_from start ks) [] (agrees-fewer (omega arith) c')) in
        omega (arith, c'.in_text, ap (λ l. length (text_from start l)) same))
        (λ ks v i.
        let c = agrees-rest opening (text_from start ks) (rw (length-append opening (text_from start ks)) at (all-agree (opening ++ text_from start ks) i)) in
        let same = the_one st ks v (rw z at c) in
        omega (arith, ap length i, length-append opening (text_from start ks), ap (λ l. length (text_from start l)) same)))

    pub accepted : {ls : List Line} {next : ℕ} → Ends start s (length opening) ls next → next ≡ length s → s ≡ opening ++ text_from start ls
    accepted {ls} {next} st e =
        let z : 0 + length opening ≡ length opening = zero-add (length opening) in
        let both = agrees-both {n = length (text_from start ls)} opening (text_from start ls) o (rw z st.whole) in
        let long : length s ≡ length (opening ++ text_from start ls) = omega (arith, st.place, length-append opening (text_from start ls)) in
        ext_get_or 0 s (opening ++ text_from start ls) long (λ i h. rw (zero-add i) at (both.each i (omega (arith, length-append opening (text_from start ls)))))

    -- whatever net's export it is, its lines are those
    pub only-lines : {ls : List Line} {next : ℕ} → Ends start s (length opening) ls next → (ks : List Line) → Valid start ks → s ≡ opening ++ text_from start ks → ks ≡ ls
    only-lines {ls} {next} st ks v i =
        let z : 0 + length opening ≡ length opening = zero-add (length opening) in
        let c = agrees-rest opening (text_from start ks) (rw (length-append opening (text_from start ks)) at (all-agree (opening ++ text_from start ks) i)) in
        the_one st ks v (rw z at c)

  -- the opening itself stands in part
  pub cut : {n : ℕ} → n < length opening → Agrees s 0 n opening → ¬ Agrees s 0 (n + 1) opening → Refused20 s n
  unfolding Valid
  cut {n} h a b =
      let one = place 0 ∷ [] in
      answer n (place 0 ∷ []) (record { no_mode = refl; most = omega arith; count = omega arith }, omega arith) (agrees-more opening (text_from start (place 0 ∷ [])) a)
      (λ ls v c. b (agrees_first opening (text_from start ls) (omega arith) c))
      (λ ls v i. b (agrees_first opening (text_from start ls) (omega arith) (agrees-fewer (omega (arith, length-append opening (text_from start ls))) (all-agree (opening ++ text_from start ls) i))))

first-is : {s : List ℕ} {first : ℕ} → WholeOf s 0 opening first → first ≡ length opening
first-is w = w.place ∙ zero-add (length opening)

module _ {s : List ℕ} {first : ℕ} (w : WholeOf s 0 opening first) where
  pub lines-refused : {p : ℕ} → More start s first p → Refused20 s p
  lines-refused {p} x = refused w.agrees (subst (λ n. More start s n p) (first-is w) x)

  pub lines-longer : {q : State} {next : ℕ} → EndOf q s first next → next < length s → Refused20 s next
  lines-longer {q} {next} y h =
      longer w.agrees (subst (λ n. Ends start s n y.lines next) (first-is w) y.stands) h

  pub lines-accepted : {q : State} {next : ℕ} → EndOf q s first next → length s ≤ next → ExportOf s q
  lines-accepted {q} {next} y h =
      let st = subst (λ n. Ends start s n y.lines next) (first-is w) y.stands in
      record {
        net = y.net;
        exportable = y.exportable;
        text = accepted w.agrees st (omega (arith, y.stands.place, y.stands.whole.in_run)) ∙ sym y.text;
        says = y.says;
        tells = λ net ok is.
            let g = lines_of net ok in
            let same = only-lines w.agrees st g.0 g.1 (is ∙ g.2) in
            subst (λ z. Tells net z) (ap (finish start nothing) same ∙ y.ends) g.3;
      }

pub opening-part : {s : List ℕ} {p : ℕ} → PartOf s 0 opening p → Refused20 s p
opening-part {s} {p} x = subst (λ n. Refused20 s n) (sym (x.place ∙ zero-add x.count)) (cut x.less x.agrees x.never)

pub checked-not : {s : List ℕ} {p : ℕ} {r : Result State ℕ} → r ≡ Err p → Refused20 s p → CheckAllows s r
checked-not e x = record { how = rw e x }
