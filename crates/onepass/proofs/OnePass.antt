-- A mode fired in one pass over its arcs, or taken back where one does not let it pass.
use Prim.Native.Nat.{ℕ, zero, suc, ◌+◌, ◌-◌, ◌≤◌, ◌<◌}
use mathlib.Core.Path.{◌≡◌, refl, sym, ◌∙◌, ap, subst, subst⁻¹}
use mathlib.Core.Bool.{Bool, true, false, cond}
use mathlib.Core.List.{List}
use mathlib.Core.Logic.{◌↔◌}
use lib.ListN.{length, set}
use lib.Seq.{get_or-set_same, set-set, set-get_or}
use borrow.Author.Count.{below_more}
use native.Mathlib.Numerals.{add-one}
use native.Mathlib.Omega.{arith}
use Rattle.model.specs.declared.Mode.{Mode}
use Rattle.model.specs.declared.Arc.{Arc}
use Rattle.model.specs.declared.Why.TheVariants.{Lacking}
use Rattle.model.specs.Numbers.{fin, limit}
use Rattle.model.specs.Nets.{NetArc, PNet, count, arc_no}
use Rattle.model.specs.Firing.{after, room_at}
use Rattle.model.proofs.Numbers.{above_false}
use Rattle.movement.proofs.ByArcs.{write_arcs, write_length, write_keeps}
use Rattle.opened.specs.declared.shape.NetShape.{NetShape}
use Rattle.opened.specs.declared.starts.Segment.{Segment}
use Rattle.sheets.specs.Decoded.{net_of, net_arc}
use Rattle.opened.specs.Shape.{Open, ArcIs}
use Rattle.opened.specs.Starts.{ModeArcs}
use Rattle.opened.proofs.Shapes.{sizes}
use Rattle.rule.specs.AtPair.{Unstopped}
use Rattle.fire.specs.firing.AtMode.{Free, Writable, written_at, AtMode}
use Rattle.rule.proofs.FourTests.{clash}
use Rattle.fire.proofs.firing.Meets.{written_is}
use Rattle.leaving.proofs.Leaving.{makes_not, makes_so}
use Rattle.fire.proofs.firing.ByMode.{listing, one_not_free, all-free, writable, fires}
use Rattle.onepass.specs.OnePass.{Passes, written_to, PassedAndWritten, Through, Fires}

-- an arc that was read, where a count is tested
module _ (net : PNet) (m : List ℕ) (k : ℕ) (a : Arc) (is : net_arc a ≡ arc_no net.arcs k) where
  abbrev Lets : Type 0
  Lets = Unstopped (net_arc a).entry (room_at net (net_arc a)) (count m a.pair.0)

  free-is : Free net m k ↔ Lets
  unfolding Free
  free-is =
      subst (λ (x : NetArc). Unstopped x.entry (room_at net x) (count m x.pair.0) ↔ Lets) is (λ f. f, λ f. f)

  pub free-enough : Free net m k → a.pre ≤ count m a.pair.0
  free-enough f = above_false a.pre (fin (count m a.pair.0)) (free-is.0 f Lacking)

  module _ {passed : Bool} (lets : (passed ≡ true) ↔ Lets) where
    pub passes_not : passed ≡ false → Passes false net m k m
    passes_not e = record { decides = (λ z. clash (sym z), λ f. clash (sym (lets.1 (free-is.0 f)) ∙ e)); leaves = refl }

    pub passes-enough : passed ≡ true → a.pre ≤ count m a.pair.0
    passes-enough e = free-enough (free-is.1 (lets.0 e))

    pub passes_so : passed ≡ true → {x : ℕ} → x ≡ after (net_arc a).entry (count m a.pair.0) → Passes true net m k (set m a.pair.0 x)
    passes_so e q = record { decides = (λ _. free-is.1 (lets.0 e), λ _. refl); leaves = written_is a net m k is q }

-- an arc's pair in a marking that it has written, and the marking before
pub record Back (a : Arc) (l before : List ℕ) : Type 0 where
  pub inside : a.pair.0 < length l
  pub enough : a.post ≤ count l a.pair.0
  pub in_range : count l a.pair.0 - a.post + a.pre ≤ limit
  pub is : set l a.pair.0 (count l a.pair.0 - a.post + a.pre) ≡ before

-- the marking at which the first arcs of a mode let it pass was accepted
pub wrote_at : {s : List ℕ} {net : NetShape} {arcs : Segment} {n : ℕ} {m left : List ℕ} → Open s net
    → ModeArcs (net_of s).arcs arcs.mode arcs.start arcs.count → PassedAndWritten (net_of s) arcs n m left → AtMode s net arcs m
wrote_at o own wrote = record { opened = o; marking = wrote.marking; own = own }

module _ {s : List ℕ} {net : NetShape} {arcs : Segment} {m : List ℕ} (h : AtMode s net arcs m) where
  abbrev arc : ℕ → NetArc
  arc i = arc_no (net_of s).arcs (arcs.start + i)

  abbrev pair : ℕ → ℕ
  pair i = (arc i).pair.0

  abbrev to : ℕ → List ℕ
  to i = written_to (net_of s) arcs i m

  to_is : (i : ℕ) → to i ≡ write_arcs arc i m
  unfolding written_to write_arcs written_at
  to_is zero = refl
  to_is (suc i) = ap (λ l. written_at (net_of s) l (arcs.start + i)) (to_is i)

  to-next : (i : ℕ) → to (i + 1) ≡ written_at (net_of s) (to i) (arcs.start + i)
  unfolding written_to
  to-next i = rw add-one refl

  pub to-length : (i : ℕ) → length (to i) ≡ length m
  to-length i = ap length (to_is i) ∙ write_length arc m i

  pub to-writable : (i : ℕ) → i < arcs.count → Writable (net_of s) (to i) (arcs.start + i)
  to-writable i l = rw (to_is i) (writable h _ h.own i l)

  -- arcs rise by pair: none before the i-th has its pair
  to_keeps : (i : ℕ) → i < arcs.count → count (to i) (pair i) ≡ count m (pair i)
  to_keeps i l = ap (λ l. count l (pair i)) (to_is i) ∙ write_keeps arc m i (pair i) (λ k b e. omega (arith, (listing h _ h.own).rising k i b l))

  free-to : (i : ℕ) → i < arcs.count → Free (net_of s) (to i) (arcs.start + i) ↔ Free (net_of s) m (arcs.start + i)
  unfolding Free
  free-to i l = rw (to_keeps i l) (λ f. f, λ f. f)

  pub wrote_none : PassedAndWritten (net_of s) arcs 0 m m
  unfolding written_to
  wrote_none = record { marking = h.marking; few = omega arith; free = λ j l. absurd (omega arith); leaves = refl }

  module _ {i : ℕ} {l left : List ℕ} {passed : Bool} (wrote : PassedAndWritten (net_of s) arcs i m l) (there : i < arcs.count)
      (pass : Passes passed (net_of s) l (arcs.start + i) left) where
    free-here : (passed ≡ true) ↔ Free (net_of s) m (arcs.start + i)
    free-here =
        let is = rw wrote.leaves at pass.decides in
        (λ e. (free-to i there).0 (is.0 e), λ f. is.1 ((free-to i there).1 f))

    left_is : {b : Bool} → passed ≡ b → left ≡ cond b (written_at (net_of s) l (arcs.start + i)) l
    left_is e = pass.leaves ∙ ap (λ b. cond b (written_at (net_of s) l (arcs.start + i)) l) e

    pub wrote-more : passed ≡ true → PassedAndWritten (net_of s) arcs (i + 1) m left
    wrote-more e =
        record {
          marking = h.marking;
          few = omega arith;
          free = below_more _ i wrote.free (free-here.0 e);
          leaves = left_is e ∙ rw wrote.leaves (sym (to-next i));
        }

    pub through-stops : passed ≡ false → Through (net_of s) arcs i m left
    through-stops e =
        record {
          wrote = record { marking = h.marking; few = wrote.few; free = wrote.free; leaves = left_is e ∙ wrote.leaves };
          stops = λ _ f. clash (sym (free-here.1 f) ∙ e);
        }

  pub through-ends : {i : ℕ} {l : List ℕ} → PassedAndWritten (net_of s) arcs i m l → arcs.count ≤ i → Through (net_of s) arcs i m l
  through-ends wrote e = record { wrote = wrote; stops = λ b. absurd (omega arith) }

  -- the mode has fired, or what has been written is taken back
  module _ {n : ℕ} {left : List ℕ} (through : Through (net_of s) arcs n m left) (t : Mode) (own : ModeArcs (net_of s).arcs t arcs.start arcs.count) where
    pub fires-through : arcs.count ≤ n → Fires true (net_of s) m t left
    fires-through e =
        let all = all-free h t own (λ j l. through.wrote.free j (omega arith)) in
        record { each = λ thing. makes_so _ ((all.each thing).0 refl) (through.wrote.leaves ∙ to_is n ∙ fires h t own n through.wrote.few e) }

    pub fires-back : {back : List ℕ} → n < arcs.count → back ≡ m → Fires false (net_of s) m t back
    fires-back l e =
        let stops = one_not_free h t own n l (λ z. clash (sym z), λ f. absurd (through.stops l f)) refl in
        rw e (record { each = λ thing. makes_not _ (λ none. clash (sym ((stops.each thing).1 none))) })

  module _ (i : ℕ) (there : i < arcs.count) where
    last-count : count (to (i + 1)) (pair i) ≡ after (arc i).entry (count m (pair i))
    unfolding written_at
    last-count =
        ap (λ l. count l (pair i)) (to-next i)
        ∙ get_or-set_same (to i) (pair i) _ 0 (omega (arith, to-length i, h.marking.one_each, (listing h _ h.own).inside i there))
        ∙ ap (after (arc i).entry) (to_keeps i there)

    but_last : set (to (i + 1)) (pair i) (count m (pair i)) ≡ to i
    unfolding written_at
    but_last =
        ap (λ l. set l (pair i) (count m (pair i))) (to-next i)
        ∙ set-set (to i) (pair i) _ _
        ∙ ap (set (to i) (pair i)) (sym (to_keeps i there))
        ∙ set-get_or (to i) (pair i) 0

  -- so the last arc that has written is taken back
  pub last-back : {n : ℕ} {left : List ℕ} → PassedAndWritten (net_of s) arcs n m left → (i : ℕ) {l : List ℕ} → 0 < i → i ≤ n → l ≡ to i → (a : Arc) → ArcIs s net (arcs.start + (i - 1)) a
      → Back a l (to (i - 1))
  last-back wrote i above few e a read =
      let before : i - 1 + 1 ≡ i = omega arith in
      let there : i - 1 < arcs.count = omega (arith, wrote.few) in
      let now : count (to i) a.pair.0 ≡ after (net_arc a).entry (count m a.pair.0) =
      subst⁻¹ (λ (x : NetArc). count (to i) x.pair.0 ≡ after x.entry (count m x.pair.0)) read.is (rw before at (last-count (i - 1) there)) in
      let enough = free-enough (net_of s) m (arcs.start + (i - 1)) a read.is (wrote.free (i - 1) (omega arith)) in
      let inside : a.pair.0 < length m = omega (arith, read.pair, (sizes h.opened).pairs, h.marking.one_each) in
      let found : count (to i) a.pair.0 - a.post + a.pre ≡ count m a.pair.0 = omega arith in
      rw e
      record {
        inside = omega (arith, to-length i);
        enough = omega arith;
        in_range = omega (arith, h.marking.in_range a.pair.0 (omega (arith, h.marking.one_each)));
        is =
            rw found
            (subst⁻¹ (λ (x : NetArc). set (to i) x.pair.0 (count m x.pair.0) ≡ to (i - 1)) read.is (rw before at (but_last (i - 1) there)));
      }
