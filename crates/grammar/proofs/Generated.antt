-- Every export is made line by line.
use Prim.Native.Nat.{ℕ, zero, suc, ◌+◌, ◌-◌, ◌≤◌, ◌<◌}
use mathlib.Core.Path.{◌≡◌, refl, sym, ◌∙◌, ap, subst}
use mathlib.Core.Bool.{Bool, true, false, cond}
use mathlib.Core.List.{List, [], ◌∷◌, ◌++◌, append_assoc, append-nil, flat_map}
use mathlib.Core.Logic.{inl, inr, ⊎_elim}
use lib.Dec.{eqb, ltb}
use lib.ListN.{length}
use lib.Seq.{ext_get_or}
use native.Mathlib.Omega.{arith}
use native.Mathlib.Numerals.{add-one}
use native.Mathlib.Nat.{eq-or-lt_of_le, add-zero}
use borrow.Author.Tests.{eqb-true, ltb-true, ltb-false, eqb-false, lt-ltb, le-ltb}
use Rattle.model.specs.Lists.{joined, list_if}
use Rattle.model.specs.Numbers.{limit, ∞}
use Rattle.model.specs.Nets.{NetArc, PNet, total, pairs, modes, count, arc_no}
use Rattle.model.specs.WellFormed.{Rises, Counted}
use Rattle.model.specs.Lists.{table}
use Rattle.movement.proofs.Each.{Each, Sorted, at_each}
use Rattle.movement.proofs.Nets.{rises-all}
use Rattle.sheets.proofs.GroupArcs.{all-sorted}
use Rattle.model.proofs.Tables.{table-length, table_at}
use Rattle.sheets.proofs.written.ByMode.{by_mode}
use Rattle.sheets.specs.written.Written.{of_mode}
use Rattle.pnml.specs.Pnml.{closing, place_text, transition_text, pre_text, post_text, positive, arc_text, mode_text, body, Exportable}
use Rattle.grammar.specs.declared.State.{State}
use Rattle.grammar.specs.Gathered.{Gathered, nothing, with_arcs, arc, last_post, gather, finish, Tells}
use Rattle.grammar.specs.Lines.{Line, place, transition, pre, post, Allowed, after, from_post, up_to, line_text, start, Valid, text_from}

pub total-some : (cs : List ℕ) → 1 ≤ length cs → Counted cs → 1 ≤ total cs
total-some [] h c = h
total-some (c ∷ cs) h w = omega (arith, w.each 0 (omega arith))

-- the Post of the last arc
pub last-post : (xs : List NetArc) (t p u v : ℕ) → last_post v (xs ++ arc t p u 0 ∷ []) ≡ xs ++ arc t p u v ∷ []
unfolding last_post
last-post [] t p u v = refl
last-post (x ∷ []) t p u v = refl
last-post (x ∷ (y ∷ xs)) t p u v = ap (λ z. x ∷ z) (last-post (y ∷ xs) t p u v)

-- an arc without an inhibitor
arc-is : (a : NetArc) → a.entry.inhibitor ≡ ∞ → arc a.mode.0 a.pair.0 a.entry.pre a.entry.post ≡ a
arc-is a h = ap (λ i. record { mode = a.mode; pair = a.pair; entry = record { pre = a.entry.pre; post = a.entry.post; inhibitor = i } }) (sym h)

-- lines from the start on that make x and say d lead to the state q
pub record Reach (q : State) (x : List ℕ) (d : Gathered) : Type 0 where
  pub go : (ls : List Line) → Valid q ls → (ks : List Line) × (Valid start ks) × (text_from start ks ≡ x ++ text_from q ls) × (finish start nothing ks ≡ finish q d ls)

reach-line : {q : State} {x : List ℕ} {d : Gathered} (l : Line) → Reach q x d → Allowed q l → Reach (after q l) (x ++ line_text q l) (gather q l d)
unfolding Valid text_from finish
reach-line {q} {x} {d} l r h =
    record { go = λ ls v. let k = r.go (l ∷ ls) (h, v) in (k.0, k.1, k.2 ∙ sym (append_assoc x (line_text q l) (text_from (after q l) ls)), k.3) }

-- the same, with the line's text and what it says written otherwise
reach-by : {q : State} {x : List ℕ} {d : Gathered} (l : Line) {y : List ℕ} {e : Gathered} → line_text q l ≡ y → gather q l d ≡ e → Reach q x d → Allowed q l → Reach (after q l) (x ++ y) e
reach-by {q} {x} {d} l {y} i j r h = subst (λ z. Reach (after q l) (x ++ y) z) j (subst (λ z. Reach (after q l) (x ++ z) (gather q l d)) i (reach-line l r h))

-- the states that have a mode in hand, with p pairs, t modes and k arcs
pub record Reached (n t k top : ℕ) (x : List ℕ) (d : Gathered) : Type 0 where
  pub state : State
  pub reach : Reach state x d
  pub places : state.places ≡ n
  pub modes : state.modes ≡ t
  pub arcs : state.arcs ≡ k
  pub low : state.low ≤ top

reached_as : {n t k k' top : ℕ} {x x' : List ℕ} {d : Gathered} {arcs : List NetArc} → k ≡ k' → x ≡ x' → d.arcs ≡ arcs → Reached n t k top x d
    → Reached n t k' top x' (record { marks = d.marks; arcs = arcs })
reached_as {n} {t} {k} {k'} {top} {x} {x'} {d} e f g r =
    subst (λ z. Reached n t k' top x' (record { marks = d.marks; arcs = z })) g (subst (λ z. Reached n t k' top z d) f (subst (λ z. Reached n t z top x d) e r))

pub record Fits (pairs t : ℕ) (a : NetArc) : Type 0 where
  pub mode : a.mode.0 ≡ t
  pub pair : a.pair.0 < pairs
  pub pre : a.entry.pre ≤ limit
  pub post : a.entry.post ≤ limit
  pub some : a.entry.pre ≡ 0 → a.entry.post ≡ 0 → ⊥
  pub inhibitor : a.entry.inhibitor ≡ ∞

abbrev pub Rest : ℕ → ℕ → ℕ → List NetArc → Type 0
Rest pairs t low [] = Unit {0}
Rest pairs t low (a ∷ bs) = (low ≤ a.pair.0) × Fits pairs t a × Rest pairs t (a.pair.0 + 1) bs

from_low : (q : State) → from_post q ≤ q.low
from_low q = go q.half
  where
    go : (b : Bool) → cond b (q.low - 1) q.low ≤ q.low
    go true = omega arith
    go false = omega arith

up-to : (a places low p : ℕ) → a ≤ 2048 → p < places → p < low → p < cond (ltb a 2048) places low
up-to a places low p h l m = go (ltb a 2048)
  where
    go : (b : Bool) → p < cond b places low
    go true = l
    go false = m

module _ (t : ℕ) {n k low : ℕ} {x : List ℕ} {d : Gathered} where
  pub pre-next : (r : Reached n (t + 1) k low x d) (p w : ℕ) → low ≤ p → p < n → k < 2048 → 1 ≤ w → w ≤ limit → Reached n (t + 1) (k + 1) (p + 1) (x ++ pre_text t p w) (with_arcs d (arc t p w 0 ∷ []))
  unfolding line_text
  pre-next r p w h l m c b =
      let q = r.state in
      let u : up_to q ≡ n = rw (lt-ltb q.arcs 2048 (omega (arith, r.arcs))) r.places in
      let e : q.modes - 1 ≡ t = omega (arith, r.modes) in
      record {
        state = after q (pre p w);
        reach = reach-by (pre p w) (rw e) (rw e) r.reach (record { some_mode = omega (arith, r.modes); least = omega (arith, r.low); most = omega arith; inside = omega (arith, r.places); positive = c; weight = b });
        places = r.places;
        modes = r.modes;
        arcs = omega (arith, r.arcs);
        low = omega arith;
      }

  pub post-next : (r : Reached n (t + 1) k low x d) (p w : ℕ) → low ≤ p → p < n → k < 2048 → 1 ≤ w → w ≤ limit → Reached n (t + 1) (k + 1) (p + 1) (x ++ post_text t p w) (with_arcs d (arc t p 0 w ∷ []))
  unfolding line_text
  post-next r p w h l m c b =
      let q = r.state in
      let u : up_to q ≡ n = rw (lt-ltb q.arcs 2048 (omega (arith, r.arcs))) r.places in
      let e : q.modes - 1 ≡ t = omega (arith, r.modes) in
      record {
        state = after q (post p w);
        reach = reach-by (post p w) (rw e) (rw (e, le-ltb p q.low (omega (arith, r.low)))) r.reach (record { some_mode = omega (arith, r.modes); least = omega (arith, from_low q, r.low); most = omega arith; inside = omega (arith, r.places); positive = c; weight = b });
        places = r.places;
        modes = r.modes;
        arcs = rw (le-ltb p q.low (omega (arith, r.low))) (omega (arith, r.arcs));
        low = omega arith;
      }

  -- both lines of a pair
  pub both-next : (r : Reached n (t + 1) k low x d) (p v w : ℕ) → low ≤ p → p < n → k < 2048 → 1 ≤ v → v ≤ limit → 1 ≤ w → w ≤ limit
      → Reached n (t + 1) (k + 1) (p + 1) (x ++ (pre_text t p v ++ post_text t p w)) (with_arcs d (arc t p v w ∷ []))
  unfolding line_text
  both-next r p v w h l m c b c' b' =
      let q = r.state in
      let u : up_to q ≡ n = rw (lt-ltb q.arcs 2048 (omega (arith, r.arcs))) r.places in
      let e : q.modes - 1 ≡ t = omega (arith, r.modes) in
      let one = reach-by (pre p v) {y = pre_text t p v} {e = with_arcs d (arc t p v 0 ∷ [])} (rw e) (rw e) r.reach (record { some_mode = omega (arith, r.modes); least = omega (arith, r.low); most = omega arith; inside = omega (arith, r.places); positive = c; weight = b }) in
      let two = reach-by (post p w) {y = post_text t p w} {e = with_arcs d (arc t p v w ∷ [])} (rw e) (rw (lt-ltb p (p + 1) (omega arith), last-post d.arcs t p v w)) one (record { some_mode = omega (arith, r.modes); least = omega arith; most = up-to (q.arcs + 1) q.places (p + 1) p (omega (arith, r.arcs)) (omega (arith, r.places)) (omega arith); inside = omega (arith, r.places); positive = c'; weight = b' }) in
      record {
        state = after (after q (pre p v)) (post p w);
        reach = rw append_assoc at two;
        places = r.places;
        modes = r.modes;
        arcs = rw (lt-ltb p (p + 1) (omega arith)) (omega (arith, r.arcs));
        low = omega arith;
      }

  pub arc-next : (r : Reached n (t + 1) k low x d) (a : NetArc) → low ≤ a.pair.0 → Fits n t a → k < 2048 → Reached n (t + 1) (k + 1) (a.pair.0 + 1) (x ++ arc_text a) (with_arcs d (a ∷ []))
  unfolding arc_text
  arc-next r a h f m =
      let is : arc t a.pair.0 a.entry.pre a.entry.post ≡ a = ap (λ i. arc i a.pair.0 a.entry.pre a.entry.post) (sym f.mode) ∙ arc-is a f.inhibitor in
      subst (λ b. Reached n (t + 1) (k + 1) (a.pair.0 + 1) (x ++ (positive a.entry.pre (pre_text a.mode.0 a.pair.0) ++ positive a.entry.post (post_text a.mode.0 a.pair.0))) (with_arcs d (b ∷ []))) is
      (rw f.mode (go a.entry.pre a.entry.post f.pre f.post f.some))
    where
      go : (u v : ℕ) → u ≤ limit → v ≤ limit → (u ≡ 0 → v ≡ 0 → ⊥) → Reached n (t + 1) (k + 1) (a.pair.0 + 1) (x ++ (positive u (pre_text t a.pair.0) ++ positive v (post_text t a.pair.0))) (with_arcs d (arc t a.pair.0 u v ∷ []))
      go zero zero b c s = absurd (s refl refl)
      go (suc u) zero b c s = rw append-nil (pre-next r a.pair.0 (suc u) h f.pair m (omega arith) b)
      go zero (suc v) b c s = post-next r a.pair.0 (suc v) h f.pair m (omega arith) c
      go (suc u) (suc v) b c s = both-next r a.pair.0 (suc u) (suc v) h f.pair m (omega arith) b (omega arith) c

arcs-next : (t : ℕ) {n k low : ℕ} {x : List ℕ} {d : Gathered} (bs : List NetArc) → Reached n (t + 1) k low x d → Rest n t low bs → k + length bs ≤ 2048
    → (top : ℕ) × Reached n (t + 1) (k + length bs) top (x ++ flat_map arc_text bs) (with_arcs d bs)
unfolding flat_map
arcs-next t {k = k} {low = low} {x = x} {d = d} [] r f m = (low, reached_as (sym (add-zero k)) (sym (append-nil x)) (sym (append-nil d.arcs)) r)
arcs-next t {n} {k} {low} {x} {d} (a ∷ bs) r f m =
    let s = arcs-next t {k = k + 1} {low = a.pair.0 + 1} {x = x ++ arc_text a} {d = with_arcs d (a ∷ [])} bs (arc-next t r a f.0 f.1 (omega arith)) f.2 (omega arith) in
    (s.0, reached_as (omega arith) (append_assoc x (arc_text a) (flat_map arc_text bs)) (append_assoc d.arcs (a ∷ []) bs) s.1)

-- how many arcs have a mode below t
unfoldable before : List NetArc → ℕ → ℕ
before [] t = 0
before (a ∷ arcs) t = cond (ltb a.mode.0 t) 1 0 + before arcs t

before-all : (arcs : List NetArc) (t : ℕ) → before arcs t ≤ length arcs
unfolding before
before-all [] t = omega arith
before-all (a ∷ arcs) t = go (ltb a.mode.0 t) (before-all arcs t)
  where
    go : (b : Bool) → before arcs t ≤ length arcs → cond b 1 0 + before arcs t ≤ suc (length arcs)
    go true h = omega arith
    go false h = omega arith

before-none : (arcs : List NetArc) → before arcs 0 ≡ 0
unfolding before
before-none [] = refl
before-none (a ∷ arcs) = rw (le-ltb a.mode.0 0 (omega arith)) (omega (arith, before-none arcs))

before-next : (arcs : List NetArc) (t : ℕ) → before arcs (t + 1) ≡ before arcs t + length (of_mode arcs t)
unfolding before of_mode
before-next [] t = refl
before-next (a ∷ arcs) t = go (eqb a.mode.0 t) refl (ltb a.mode.0 t) refl (before-next arcs t)
  where
    m : ℕ
    m = a.mode.0

    go : (b : Bool) → eqb a.mode.0 t ≡ b → (c : Bool) → ltb a.mode.0 t ≡ c → before arcs (t + 1) ≡ before arcs t + length (of_mode arcs t)
        → cond (ltb a.mode.0 (t + 1)) 1 0 + before arcs (t + 1) ≡ cond (ltb a.mode.0 t) 1 0 + before arcs t + length (list_if (eqb a.mode.0 t) a ++ of_mode arcs t)
    go true e true d h = absurd (omega (arith, eqb-true a.mode.0 t e, ltb-true a.mode.0 t d))
    go true e false d h = rw (e, d, lt-ltb a.mode.0 (t + 1) (omega (arith, eqb-true a.mode.0 t e))) (omega arith)
    go false e true d h = rw (e, d, lt-ltb a.mode.0 (t + 1) (omega (arith, ltb-true a.mode.0 t d))) (omega arith)
    go false e false d h =
        let l : t + 1 ≤ a.mode.0 = ⊎_elim (λ (q : t ≡ a.mode.0). absurd (eqb-false a.mode.0 t e (sym q))) (λ (q : t < a.mode.0). omega arith) (eq-or-lt_of_le (ltb-false a.mode.0 t d)) in
        rw (e, d, le-ltb a.mode.0 (t + 1) l) (omega arith)

-- all of them, where every mode is below t
before-every : (arcs : List NetArc) (t : ℕ) → Each (λ a. a.mode.0 < t) arcs → before arcs t ≡ length arcs
unfolding before
before-every [] t h = refl
before-every (a ∷ arcs) t h = rw (lt-ltb a.mode.0 t h.0) (omega (arith, before-every arcs t h.1))

record Arc (pairs : ℕ) (a : NetArc) : Type 0 where
  pair : a.pair.0 < pairs
  pre : a.entry.pre ≤ limit
  post : a.entry.post ≤ limit
  some : a.entry.pre ≡ 0 → a.entry.post ≡ 0 → ⊥
  inhibitor : a.entry.inhibitor ≡ ∞

pub each_map : {P Q : NetArc → Type 0} (arcs : List NetArc) → ((a : NetArc) → P a → Q a) → Each P arcs → Each Q arcs
each_map [] f h = tt
each_map (a ∷ arcs) f h = (f a h.0, each_map arcs f h.1)

of-mode-rest : (n t low : ℕ) (arcs : List NetArc) → Sorted arcs → Each (Arc n) arcs → Each (λ a. a.mode.0 ≡ t → low ≤ a.pair.0) arcs → Rest n t low (of_mode arcs t)
unfolding of_mode
of-mode-rest n t low [] s o h = tt
of-mode-rest n t low (a ∷ arcs) s o h = go (eqb a.mode.0 t) refl (λ low g. of-mode-rest n t low arcs s.1 o.1 g)
  where
    above : a.mode.0 ≡ t → (b : NetArc) → Rises a b → b.mode.0 ≡ t → a.pair.0 + 1 ≤ b.pair.0
    above e b (inl l) f = absurd (omega arith)
    above e b (inr r) f = omega (arith, r.1)

    go : (b : Bool) → eqb a.mode.0 t ≡ b → ((low : ℕ) → Each (λ a. a.mode.0 ≡ t → low ≤ a.pair.0) arcs → Rest n t low (of_mode arcs t))
        → Rest n t low (list_if (eqb a.mode.0 t) a ++ of_mode arcs t)
    go true e ih =
        let m = eqb-true a.mode.0 t e in
        let x = o.0 in
        rw e (h.0 m, record { mode = m; pair = x.pair; pre = x.pre; post = x.post; some = x.some; inhibitor = x.inhibitor }, ih (a.pair.0 + 1) (each_map arcs (above m) s.0))
    go false e ih = rw e (ih low h.1)

module _ (n : ℕ) (marks : List ℕ) (arcs : List NetArc) where
  abbrev places_to : ℕ → List ℕ
  places_to k = joined k (λ p. place_text p (count marks p))

  places-next : (k : ℕ) → k ≤ 256 → ((p : ℕ) → p < k → count marks p ≤ limit) → Reached k 0 0 0 (places_to k) (record { marks = table k (count marks); arcs = [] })
  unfolding joined line_text table
  places-next zero h b = record { state = start; reach = record { go = λ ls v. (ls, v, refl, refl) }; places = refl; modes = refl; arcs = refl; low = omega arith }
  places-next (suc k) h b =
      let r = places-next k (omega arith) (λ p l. b p (omega arith)) in
      let q = r.state in
      record {
        state = after q (place (count marks k));
        reach = reach-by (place (count marks k)) (rw r.places) refl r.reach (record { no_mode = r.modes; most = omega (arith, r.places); count = b k (omega arith) });
        places = omega (arith, r.places);
        modes = r.modes;
        arcs = r.arcs;
        low = r.low;
      }

  module _ (some : 1 ≤ n) (sorted : Sorted arcs) (each : Each (Arc n) arcs) (most : length arcs ≤ 2048) (x : List ℕ) (d : Gathered) (first : Reached n 0 0 0 x d) where
    mode-next : (t : ℕ) → t < 256 → (y : List ℕ) (c : Gathered) (low : ℕ) → Reached n t (before arcs t) low y c
        → (top : ℕ) × Reached n (t + 1) (before arcs (t + 1)) top (y ++ mode_text arcs t) (with_arcs c (of_mode arcs t))
    unfolding mode_text line_text
    mode-next t h y c low r =
        let q = r.state in
        let one : Reached n (t + 1) (before arcs t) 0 (y ++ transition_text t) c =
        record {
          state = after q transition;
          reach = reach-by transition (rw r.modes) refl r.reach (record { some_place = omega (arith, r.places); most = omega (arith, r.modes) });
          places = r.places;
          modes = omega (arith, r.modes);
          arcs = r.arcs;
          low = omega arith;
        } in
        let rest = of-mode-rest n t 0 arcs sorted each (each_map arcs (λ a _ _. omega arith) each) in
        let s = arcs-next t (of_mode arcs t) one rest (omega (arith, before-next arcs t, before-all arcs (t + 1))) in
        (s.0, rw (← before-next arcs t, append_assoc y) at s.1)

    abbrev Modes : ℕ → Type 0
    Modes t = (low : ℕ) × Reached n t (before arcs t) low (x ++ joined t (mode_text arcs)) (with_arcs d (joined t (of_mode arcs)))

    modes-none : Modes 0
    unfolding joined
    modes-none = (0, rw (before-none arcs, append-nil, append-nil d.arcs) first)

    modes-more : (t : ℕ) → t < 256 → Modes t → Modes (suc t)
    unfolding joined
    modes-more t h ih =
        let s = mode-next t h (x ++ joined t (mode_text arcs)) (with_arcs d (joined t (of_mode arcs))) ih.0 ih.1 in
        (s.0, rw (add-one, append_assoc x, append_assoc d.arcs) at s.1)

    modes-next : (t : ℕ) → t ≤ 256 → Modes t
    modes-next zero h = modes-none
    modes-next (suc t) h = modes-more t h (modes-next t (omega arith))

marks-are : (n : ℕ) (marks : List ℕ) → length marks ≡ n → table n (count marks) ≡ marks
marks-are n marks e = ext_get_or 0 (table n (count marks)) marks (table-length n (count marks) ∙ sym e) (λ i h. table_at n (count marks) 0 i (omega (arith, table-length n (count marks))))

-- the lines of an export
pub generated : (net : PNet) → Exportable net
    → (ls : List Line) × (Valid start ls) × (text_from start ls ≡ body (pairs net) net.start (modes net) net.arcs ++ closing) × (Tells net (finish start nothing ls))
unfolding body Valid text_from finish
generated net e =
    let w = e.well_formed in
    let some = total-some net.colours w.some_place w.places in
    let arc : (k : ℕ) → k < length net.arcs → Arc (pairs net) (arc_no net.arcs k) = λ k h.
    let a = w.each_arc k h in
    record { pair = a.pair; pre = a.pre; post = a.post; some = λ i j. a.not_blank (record { pre = i; post = j; inhibitor = e.inhibitors k h }); inhibitor = e.inhibitors k h } in
    let below = at_each (λ a. a.mode.0 < modes net) _ net.arcs (λ k h. (w.each_arc k h).mode) in
    let r = modes-next (pairs net) net.start net.arcs some (all-sorted net.arcs (rises-all net.arcs w.rising)) (at_each (Arc (pairs net)) _ net.arcs arc) w.arc_count _ _
    (places-next (pairs net) net.start net.arcs (pairs net) w.places.in_total w.start.in_range) (modes net) w.transitions.in_total in
    let g = r.1.reach.go [] (omega (arith, r.1.places)) in (
      g.0,
      g.1,
      g.2,
      subst (λ z. Tells net z) (sym g.3)
          (record {
            pairs = r.1.places;
            modes = r.1.modes;
            many = r.1.arcs ∙ before-every net.arcs (modes net) below;
            marks = marks-are (pairs net) net.start w.start.one_each;
            arcs = (by_mode net w).is;
          }),
    )
