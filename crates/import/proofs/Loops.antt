-- The two loops of the second pass: the places, then the transitions with their arcs.
use Prim.Native.Nat.{ℕ, ◌+◌, ◌-◌, ◌*◌, ◌≤◌, ◌<◌}
use mathlib.Core.Path.{◌≡◌, refl, sym, ◌∙◌, ap, subst}
use mathlib.Core.Bool.{true}
use mathlib.Core.List.{List, [], ◌∷◌, ◌++◌, flat_map}
use mathlib.Core.Logic.{◌⊎◌, inl, inr}
use mathlib.Core.Option.{none, some}
use lib.ListN.{length, length-append}
use native.Mathlib.Omega.{arith}
use Rattle.model.specs.Numbers.{∞}
use Rattle.model.specs.Nets.{NetArc, PNet, pairs, modes}
use Rattle.sheets.specs.written.Written.{pair_bytes}
use Rattle.sheets.specs.written.Puts.{Puts}
use Rattle.sheets.proofs.written.Puts.{nothing, puts, put_length, puts_as}
use Rattle.sheets.proofs.written.Sections.{section_append, section_one}
use Rattle.pnml.specs.Pnml.{opening, closing, body, pnml, Exportable}
use Rattle.grammar.specs.declared.State.{State}
use Rattle.grammar.specs.Lines.{Line, place, after, start, AllowedNext, next_text}
use Rattle.grammar.specs.parts.Stands.{Stands, Stops}
use Rattle.grammar.specs.Gathered as G
use Rattle.grammar.specs.Gathered.{Gathered, gather}
use Rattle.import.specs.scan.Kinds.{ExportOf}
use Rattle.import.proofs.scan.Onward.{line-long}
use Rattle.import.specs.Parts.{Going, LineAt, Other, PlaceReady, PlacePut, NoPlace, PlacesPut, Ready, LinePut, NoLine, ArcsFollow, ArcsPut, after_places, marks_bytes, arcs_bytes}
use Rattle.import.proofs.Left.{left-line, left_end, left-stops, few-places, few-arcs, all-places, all-marks, going_start, going-line}
use Rattle.import.proofs.ArcBytes.{arcs-length}
use Rattle.import.proofs.Singles.{marks-length}

pub record PlacesSoFar (s before : List ℕ) (at : ℕ) (now : List ℕ) (q : State) (read next : ℕ) : Type 0 where
  pub says : Gathered
  pub going : Going s q says read
  pub fresh : q ≡ after_places q.places
  pub puts : Puts before at (marks_bytes says.marks) now next

mark_more : (marks : List ℕ) (n : ℕ) → marks_bytes (marks ++ n ∷ []) ≡ marks_bytes marks ++ pair_bytes ∞ n
mark_more marks n = section_append (pair_bytes ∞) marks (n ∷ []) ∙ ap (λ z. marks_bytes marks ++ z) (section_one (pair_bytes ∞) n)

no_marks : {l : List ℕ} {at : ℕ} → Puts l at (marks_bytes []) l at
unfolding flat_map
no_marks = nothing

opened : {s : List ℕ} {q : State} → ExportOf s q → length opening ≤ length s
unfolding pnml
opened {s} x =
    omega (arith, ap length x.text, length-append opening (body (pairs x.net) x.net.start (modes x.net) x.net.arcs ++ closing))

pub places-start : {s : List ℕ} {q : State} (out : List ℕ) (at : ℕ) → ExportOf s q → PlacesSoFar s out at out start (length opening) at
places-start {s} out at x = record { says = G.nothing; going = going_start s (opened x); fresh = refl; puts = no_marks }

module _ {s before now : List ℕ} {at : ℕ} {q : State} {read next : ℕ} (f : PlacesSoFar s before at now q read next) where
  -- what a line takes the reader on by
  places-next : next ≡ at + 8 * q.places
  places-next = omega (arith, f.puts.next, marks-length f.says.marks, f.going.made.long)

  module _ {all : State} (x : ExportOf s all) where
    pub place_ready : at + 8 * all.places ≤ length before → PlaceReady s q read now next
    place_ready h =
        record {
          in_run = f.going.in_run;
          sound = f.going.sound;
          room = λ n m st.
              omega (arith, h, places-next, f.puts.kept, few-places (left-line (f.going.left x.net x.exportable x.text) st), (x.tells x.net x.exportable x.text).pairs);
        }

    pub places-end : {out : List ℕ} → NoPlace s q read now out → PlacesPut s all.places before at out read next
    places-end {out} nx =
        let here = all_here x.net x.exportable x.text in
        let there = (x.tells x.net x.exportable x.text).pairs in
        let is : q ≡ after_places all.places = f.fresh ∙ ap after_places (here ∙ sym there) in
        record {
          says = f.says;
          going = subst (λ z. Going s z f.says read) is f.going;
          puts = subst (λ z. Puts before at (marks_bytes f.says.marks) z next) (sym nx.kept) f.puts;
          marks = λ net e i. all-marks (f.going.left net e i) (all_here net e i);
        }
      where
        all_here : (net : PNet) → Exportable net → s ≡ pnml net → q.places ≡ pairs net
        all_here net e i = go nx.how
          where
            go : ((m : ℕ) × Stands (AllowedNext q) (next_text q) s read none m) ⊎ (Other q s read ⊎ ((p : ℕ) × Stops (AllowedNext q) (next_text q) s read p)) → q.places ≡ pairs net
            go (inl y) = (left_end (f.going.left net e i) y.1).pairs
            go (inr (inl y)) = sym y.4 ∙ all-places (left-line (f.going.left net e i) y.2) y.3
            go (inr (inr y)) = absurd (left-stops (f.going.left net e i) y.1)

  pub places-more : {out : List ℕ} {r : State} {end to : ℕ} → PlacePut s q read now next out r end to → PlacesSoFar s before at out r end to
  places-more {out} {r} {end} {to} p =
      subst (λ z. PlacesSoFar s before at out z end to) (sym p.state)
      (record {
        says = gather q (place p.count) f.says;
        going = going-line f.going p.stands;
        fresh = ap (λ z. after z (place p.count)) f.fresh;
        puts = puts_as (sym (mark_more f.says.marks p.count)) (put_length (puts f.puts p.puts));
      })

pub line-farther : {s : List ℕ} {q : State} {at : ℕ} {l : Line} {m : ℕ} → LineAt q s at l m → (at < m) × (m ≤ length s)
line-farther {s} {q} {at} {l} st = (omega (arith, st.place, line-long q (some l)), omega (arith, st.place, st.whole.in_run))

pub record ArcsSoFar (s before : List ℕ) (at : ℕ) (now : List ℕ) (q : State) (read next : ℕ) : Type 0 where
  pub says : Gathered
  pub going : Going s q says read
  pub puts : Puts before at (arcs_bytes says.arcs) now next
  pub places : (net : PNet) → Exportable net → s ≡ pnml net → q.places ≡ pairs net

no_arcs : {l : List ℕ} {at : ℕ} (arcs : List NetArc) → length arcs ≡ 0 → Puts l at (arcs_bytes arcs) l at
unfolding flat_map
no_arcs [] e = nothing
no_arcs (a ∷ arcs) e = absurd (omega arith)

pub arcs-start : {s : List ℕ} {all : State} {first : ℕ} (out : List ℕ) (at : ℕ) → ExportOf s all → ArcsFollow s all.places first → ArcsSoFar s out at out (after_places all.places) first at
arcs-start out at x a =
    record { says = a.says; going = a.going; puts = no_arcs a.says.arcs a.going.made.many; places = λ net e i. (x.tells net e i).pairs }

module _ {s before now : List ℕ} {at : ℕ} {q : State} {read next : ℕ} (f : ArcsSoFar s before at now q read next) where
  arcs-next : next ≡ at + 16 * q.arcs
  arcs-next = omega (arith, f.puts.next, arcs-length f.says.arcs, f.going.made.many)

  some-arc : q.half ≡ true → 1 ≤ q.arcs
  some-arc e =
      let h = f.going.made.half e in
      omega (arith, f.going.made.many, ap length h.is, length-append h.done (G.arc (q.modes - 1) (q.low - 1) h.weight 0 ∷ []))

  pub line_ready : {all : State} → ExportOf s all → at + 16 * all.arcs ≤ length before → Ready s q read now next
  line_ready x h =
      let left = f.going.left x.net x.exportable x.text in
      let many = (x.tells x.net x.exportable x.text).many in
      record {
        in_run = f.going.in_run;
        sound = f.going.sound;
        within = omega (arith, h, arcs-next, f.puts.kept, few-arcs left, many);
        in_hand = λ e. omega (arith, arcs-next, some-arc e);
        room = λ l m st. omega (arith, h, arcs-next, f.puts.kept, few-arcs (left-line left st), many);
      }

  pub arcs-more : {out : List ℕ} {r : State} {end to : ℕ} → LinePut s q read now next out r end to → ArcsSoFar s before at out r end to
  arcs-more {out} {r} {end} {to} p =
      record {
        says = gather q p.line f.says;
        going = subst (λ z. Going s z (gather q p.line f.says) end) (sym p.state) (going-line f.going p.stands);
        puts = p.puts before at f.says f.going.text f.going.made f.puts;
        places = λ net e i. p.places ∙ f.places net e i;
      }

  pub arcs-end : {out : List ℕ} → NoLine s q read now out → ArcsPut s before at out next
  arcs-end {out} nx = record { puts = all }
    where
      all : (net : PNet) → Exportable net → s ≡ pnml net → Puts before at (arcs_bytes net.arcs) out next
      all net e i = subst (λ z. Puts before at (arcs_bytes net.arcs) z next) (sym nx.kept) (puts_as (ap arcs_bytes (go nx.how)) f.puts)
        where
          go : ((m : ℕ) × Stands (AllowedNext q) (next_text q) s read none m) ⊎ (((n : ℕ) × (m : ℕ) × LineAt q s read (place n) m) ⊎ ((p : ℕ) × Stops (AllowedNext q) (next_text q) s read p)) → f.says.arcs ≡ net.arcs
          go (inl y) = (left_end (f.going.left net e i) y.1).arcs
          go (inr (inl y)) = absurd (omega (arith, f.places net e i, few-places (left-line (f.going.left net e i) y.2)))
          go (inr (inr y)) = absurd (left-stops (f.going.left net e i) y.1)
