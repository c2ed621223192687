-- Every text made line by line is an export's.
use Prim.Native.Nat.{ℕ, zero, suc, ◌+◌, ◌-◌, ◌*◌, ◌≤◌, ◌<◌}
use mathlib.Core.Path.{◌≡◌, refl, sym, ◌∙◌, ap, subst}
use mathlib.Core.Bool.{Bool, true, false, cond}
use mathlib.Core.List.{List, [], ◌∷◌, ◌++◌, append_assoc, append-nil, flat_map}
use mathlib.Core.Logic.{◌⊎◌, inl, inr, ⊎_elim}
use lib.Dec.{ltb}
use lib.ListN.{length, length-append, get_or-append, replicate, length-replicate, get_or-replicate}
use lib.Seq.{get_or_at}
use native.Mathlib.Omega.{arith}
use native.Mathlib.Numerals.{add-one}
use native.Mathlib.Nat.{eq-or-lt_of_le}
use borrow.Author.Tests.{ltb-true, ltb-false}
use Rattle.model.specs.declared.CapacityRule.TheVariants.{Strong}
use Rattle.model.specs.Lists.{joined}
use Rattle.model.specs.Numbers.{limit, ∞}
use Rattle.model.specs.Nets.{NetArc, PNet, total, pairs, modes, K, count, arc_no}
use Rattle.model.specs.WellFormed.{Rises, Counted}
use Rattle.movement.proofs.Each.{Each, Sorted, each_append, each_at, sorted-rising}
use Rattle.movement.proofs.Joined.{joined_ext}
use Rattle.sheets.specs.written.Written.{of_mode}
use Rattle.pnml.specs.Pnml.{opening, closing, pnml, place_text, transition_text, pre_text, post_text, arc_text, mode_text, body, Exportable}
use Rattle.grammar.specs.declared.State.{State}
use Rattle.grammar.specs.Lines.{Line, place, transition, pre, post, Allowed, after, up_to, line_text, start, Valid, text_from}
use Rattle.grammar.specs.Gathered.{Gathered, nothing, with_arcs, arc, last_post, gather}
use Rattle.sheets.proofs.written.ByMode.{of-append, of-own, of_other}
use Rattle.sheets.proofs.written.Sections.{section_append}
use Rattle.grammar.proofs.Generated.{each_map, last-post}

-- one arc more in the last mode
modes-snoc : (m t : ℕ) (xs : List NetArc) (a : NetArc) → a.mode.0 ≡ t → m ≡ suc t → joined m (mode_text (xs ++ a ∷ [])) ≡ joined m (mode_text xs) ++ arc_text a
unfolding joined mode_text flat_map
modes-snoc m t xs a e f =
    rw (
      f,
      joined_ext t (mode_text (xs ++ a ∷ [])) (mode_text xs) (λ i h. rw (of-append xs (a ∷ []) i, of_other (a ∷ []) i ((λ q. omega arith), tt), append-nil)),
      of-append xs (a ∷ []) t,
      of-own (a ∷ []) t (e, tt),
      section_append arc_text (of_mode xs t) (a ∷ []),
      append-nil,
      ← append_assoc (transition_text t),
      ← append_assoc (joined t (mode_text xs)),
    )

-- one mode more
modes-more : (t : ℕ) (xs : List NetArc) → Each (λ a. a.mode.0 < t) xs → joined (suc t) (mode_text xs) ≡ joined t (mode_text xs) ++ transition_text t
unfolding joined mode_text flat_map
modes-more t xs h = rw (of_other xs t (each_map xs (λ a l q. omega arith) h), append-nil)

pub record Good (n m : ℕ) (a : NetArc) : Type 0 where
  pub mode : a.mode.0 < m
  pub pair : a.pair.0 < n
  pub pre : a.entry.pre ≤ limit
  pub post : a.entry.post ≤ limit
  pub some : a.entry.pre ≡ 0 → a.entry.post ≡ 0 → ⊥
  pub inhibitor : a.entry.inhibitor ≡ ∞

abbrev pub Under : ℕ → ℕ → NetArc → Type 0
Under t p a = (a.mode.0 < t) ⊎ ((a.mode.0 ≡ t) × (a.pair.0 < p))

pub record Arcs (n m t low : ℕ) (xs : List NetArc) : Type 0 where
  pub sorted : Sorted xs
  pub each : Each (Good n m) xs
  pub under : Each (Under t low) xs

sorted-snoc : (xs : List NetArc) (a : NetArc) → Sorted xs → Each (λ b. Rises b a) xs → Sorted (xs ++ a ∷ [])
sorted-snoc [] a h l = (tt, tt)
sorted-snoc (x ∷ xs) a h l = (each_append (Rises x) xs (a ∷ []) h.0 (l.0, tt), sorted-snoc xs a h.1 l.1)

under_up : {t p r : ℕ} → p ≤ r → (a : NetArc) → Under t p a → Under t r a
under_up h a (inl l) = inl l
under_up h a (inr l) = inr (l.0, omega (arith, l.1))

arcs-snoc : {n m t low : ℕ} {xs : List NetArc} → Arcs n m t low xs → (p u v : ℕ) → low ≤ p → t < m → p < n → u ≤ limit → v ≤ limit → (u ≡ 0 → v ≡ 0 → ⊥)
    → Arcs n m t (p + 1) (xs ++ arc t p u v ∷ [])
arcs-snoc {n} {m} {t} {low} {xs} g p u v h i j k l s =
    let a = arc t p u v in
    record {
      sorted = sorted-snoc xs (arc t p u v) g.sorted (each_map xs rises g.under);
      each = each_append (Good n m) xs (arc t p u v ∷ []) g.each (record { mode = i; pair = j; pre = k; post = l; some = s; inhibitor = refl }, tt);
      under = each_append (Under t (p + 1)) xs (arc t p u v ∷ []) (each_map xs (under_up (omega arith)) g.under) (inr (refl, omega arith), tt);
    }
  where
    rises : (b : NetArc) → Under t low b → Rises b (arc t p u v)
    rises b (inl l) = inl l
    rises b (inr l) = inr (l.0, omega (arith, l.1))

-- the Pre line of the last arc was the last line
pub record Half (n m low : ℕ) (all : List NetArc) : Type 0 where
  pub done : List NetArc
  pub weight : ℕ
  pub good : Arcs n m (m - 1) (low - 1) done
  pub is : all ≡ done ++ arc (m - 1) (low - 1) weight 0 ∷ []
  pub some : 1 ≤ low
  pub positive : 1 ≤ weight
  pub most : weight ≤ limit

-- x is the text of the lines so far, and d what they say
pub record Made (q : State) (d : Gathered) (x : List ℕ) : Type 0 where
  pub long : length d.marks ≡ q.places
  pub small : (p : ℕ) → p < q.places → count d.marks p ≤ limit
  pub good : Arcs q.places q.modes (q.modes - 1) q.low d.arcs
  pub many : length d.arcs ≡ q.arcs
  pub half : q.half ≡ true → Half q.places q.modes q.low d.arcs
  pub places : q.places ≤ 256
  pub modes : q.modes ≤ 256
  pub arcs : q.arcs ≤ 2048
  pub is : x ≡ body q.places d.marks q.modes d.arcs

pub made-start : Made start nothing []
unfolding body joined
made-start =
    record {
      long = refl;
      small = λ p h. absurd (omega arith);
      good = record { sorted = tt; each = tt; under = tt };
      many = refl;
      half = λ e. let z : ◌≡◌ {A = ℕ} 0 1 = cc in absurd (omega arith);
      places = omega arith;
      modes = omega arith;
      arcs = omega arith;
      is = refl;
    }

good-up : {n m k l : ℕ} → n ≤ k → m ≤ l → (a : NetArc) → Good n m a → Good k l a
good-up h i a g = record { mode = omega (arith, g.mode); pair = omega (arith, g.pair); pre = g.pre; post = g.post; some = g.some; inhibitor = g.inhibitor }

no_modes : (f : ℕ → List ℕ) → joined 0 f ≡ []
unfolding joined
no_modes f = refl

places-snoc : (n : ℕ) (marks : List ℕ) (v : ℕ) → length marks ≡ n
    → joined (suc n) (λ p. place_text p (count (marks ++ v ∷ []) p)) ≡ joined n (λ p. place_text p (count marks p)) ++ place_text n v
unfolding joined
places-snoc n marks v e =
    rw (
      joined_ext n (λ p. place_text p (count (marks ++ v ∷ []) p)) (λ p. place_text p (count marks p)) (λ i h. ap (place_text i) (get_or-append marks (v ∷ []) 0 i (omega arith))),
      get_or_at marks v [] 0 n e,
    )

each_last : (P : NetArc → Type 0) (all xs : List NetArc) (a : NetArc) → all ≡ xs ++ a ∷ [] → Each P all → P a
each_last P all xs a e h = go xs (subst (λ ys. Each P ys) e h)
  where
    go : (xs : List NetArc) → Each P (xs ++ a ∷ []) → P a
    go [] h = h.0
    go (x ∷ xs) h = go xs h.1

module _ {q : State} {d : Gathered} {x : List ℕ} (m : Made q d x) where
  made-place : (v : ℕ) → Allowed q (place v) → Made (after q (place v)) (gather q (place v) d) (x ++ line_text q (place v))
  unfolding line_text body
  made-place v h =
      record {
        long = omega (arith, length-append d.marks (v ∷ []), m.long);
        small = small;
        good = record { sorted = g.sorted; each = each_map d.arcs (good-up (omega arith) (omega arith)) g.each; under = g.under };
        many = m.many;
        half = λ e. absurd (never (m.half e));
        places = omega (arith, h.most);
        modes = m.modes;
        arcs = m.arcs;
        is = text;
      }
    where
      g : Arcs q.places q.modes (q.modes - 1) q.low d.arcs
      g = m.good

      never : Half q.places q.modes q.low d.arcs → ⊥
      never f =
          omega (arith, h.no_mode, (each_last (Good q.places q.modes) d.arcs f.done _ f.is g.each).mode)

      small : (p : ℕ) → p < q.places + 1 → count (d.marks ++ v ∷ []) p ≤ limit
      small p l =
          ⊎_elim (λ (e : p ≡ q.places). rw (get_or_at d.marks v [] 0 p (m.long ∙ sym e)) h.count)
          (λ (b : p < q.places). rw (get_or-append d.marks (v ∷ []) 0 p (omega (arith, m.long))) (m.small p b))
          (eq-or-lt_of_le {m = q.places} (omega arith))

      text : x ++ place_text q.places v ≡ body (q.places + 1) (d.marks ++ v ∷ []) q.modes d.arcs
      text = rw (m.is, h.no_mode, no_modes, append-nil, append-nil, add-one, places-snoc q.places d.marks v m.long)

  made-transition : Allowed q transition → Made (after q transition) (gather q transition d) (x ++ line_text q transition)
  unfolding line_text body
  made-transition h =
      record {
        long = m.long;
        small = m.small;
        good =
            record {
              sorted = m.good.sorted;
              each = each_map d.arcs (good-up (omega arith) (omega arith)) m.good.each;
              under = each_map d.arcs (λ a g. inl (omega (arith, g.mode))) m.good.each;
            };
        many = m.many;
        half = λ e. let z : ◌≡◌ {A = ℕ} 0 1 = cc in absurd (omega arith);
        places = m.places;
        modes = omega (arith, h.most);
        arcs = m.arcs;
        is = rw (m.is, add-one, modes-more q.modes d.arcs (each_map d.arcs (λ a g. g.mode) m.good.each), append_assoc);
      }

  -- an arc of the mode in hand put after those so far
  new-arc : (l : Line) (p u v : ℕ) → 1 ≤ q.modes → q.low ≤ p → p < q.places → q.arcs < 2048 → u ≤ limit → v ≤ limit → (u ≡ 0 → v ≡ 0 → ⊥) → (half : Bool)
      → (half ≡ true → (1 ≤ u) × (v ≡ 0)) → line_text q l ≡ arc_text (arc (q.modes - 1) p u v)
      → Made (record { places = q.places; modes = q.modes; arcs = q.arcs + 1; low = p + 1; half = half }) (with_arcs d (arc (q.modes - 1) p u v ∷ [])) (x ++ line_text q l)
  unfolding body
  new-arc l p u v o h i k b c s half w e =
      record {
        long = m.long;
        small = m.small;
        good = arcs-snoc m.good p u v h (omega arith) i b c s;
        many = omega (arith, length-append d.arcs (arc (q.modes - 1) p u v ∷ []), m.many);
        half = λ t.
            let y = w t in
            let z : p + 1 - 1 ≡ p = omega arith in
            record {
              done = d.arcs;
              weight = u;
              good = rw z (record { sorted = m.good.sorted; each = m.good.each; under = each_map d.arcs (under_up h) m.good.under });
              is = rw (z, y.1);
              some = omega arith;
              positive = y.0;
              most = b;
            };
        places = m.places;
        modes = m.modes;
        arcs = omega arith;
        is = rw (m.is, e, modes-snoc q.modes (q.modes - 1) d.arcs (arc (q.modes - 1) p u v) refl (omega arith), append_assoc);
      }

  arc-room : (p : ℕ) → q.low ≤ p → p < up_to q → q.arcs < 2048
  arc-room p h = go (ltb q.arcs 2048) refl
    where
      go : (b : Bool) → ltb q.arcs 2048 ≡ b → p < cond b q.places q.low → q.arcs < 2048
      go true e l = ltb-true q.arcs 2048 e
      go false e l = absurd (omega arith)

  pre-text : (t p w : ℕ) → 1 ≤ w → pre_text t p w ≡ arc_text (arc t p w 0)
  unfolding arc_text
  pre-text t p zero h = absurd (omega arith)
  pre-text t p (suc w) h = sym (append-nil (pre_text t p (suc w)))

  post-text : (t p w : ℕ) → 1 ≤ w → post_text t p w ≡ arc_text (arc t p 0 w)
  unfolding arc_text
  post-text t p zero h = absurd (omega arith)
  post-text t p (suc w) h = refl

  both-text : (t p u v : ℕ) → 1 ≤ u → 1 ≤ v → arc_text (arc t p u 0) ++ post_text t p v ≡ arc_text (arc t p u v)
  unfolding arc_text
  both-text t p zero v h l = absurd (omega arith)
  both-text t p (suc u) zero h l = absurd (omega arith)
  both-text t p (suc u) (suc v) h l = rw append-nil

  made-pre : (p w : ℕ) → Allowed q (pre p w) → Made (after q (pre p w)) (gather q (pre p w) d) (x ++ line_text q (pre p w))
  unfolding line_text
  made-pre p w h =
      new-arc (pre p w) p w 0 h.some_mode h.least h.inside (arc-room p h.least h.most) h.weight (omega arith) (λ e f. omega (arith, h.positive)) true
      (λ e. (h.positive, refl)) (pre-text (q.modes - 1) p w h.positive)

  made-half : (p v : ℕ) → Allowed q (post p v) → q.low ≡ p + 1 → Half q.places q.modes q.low d.arcs
      → Made (record { places = q.places; modes = q.modes; arcs = q.arcs; low = p + 1; half = false }) (record { marks = d.marks; arcs = last_post v d.arcs }) (x ++ line_text q (post p v))
  unfolding line_text body
  made-half p v h e f =
      let z : q.low - 1 ≡ p = omega arith in
      let t = q.modes - 1 in
      let top : q.modes ≡ suc (q.modes - 1) = omega (arith, h.some_mode) in
      let was : d.arcs ≡ f.done ++ arc (q.modes - 1) p f.weight 0 ∷ [] = rw z at f.is in
      let now : last_post v d.arcs ≡ f.done ++ arc (q.modes - 1) p f.weight v ∷ [] = ap (last_post v) was ∙ last-post f.done (q.modes - 1) p f.weight v in
      let good : Arcs q.places q.modes (q.modes - 1) p f.done = rw z at f.good in
      record {
        long = m.long;
        small = m.small;
        good = rw now (arcs-snoc good p f.weight v (omega arith) (omega (arith, h.some_mode)) h.inside f.most h.weight (λ i j. omega (arith, f.positive)));
        many = omega (arith, ap length now, length-append f.done (arc (q.modes - 1) p f.weight v ∷ []), length-append f.done (arc (q.modes - 1) p f.weight 0 ∷ []), ap length was, m.many);
        half = λ i. let y : ◌≡◌ {A = ℕ} 0 1 = cc in absurd (omega arith);
        places = m.places;
        modes = m.modes;
        arcs = m.arcs;
        is =
            rw (
              now,
              m.is,
              was,
              modes-snoc q.modes (q.modes - 1) f.done (arc (q.modes - 1) p f.weight 0) refl top,
              modes-snoc q.modes (q.modes - 1) f.done (arc (q.modes - 1) p f.weight v) refl top,
              ← both-text (q.modes - 1) p f.weight v f.positive h.positive,
            ) (simp append_assoc);
      }

  made-fresh : (p v : ℕ) → Allowed q (post p v) → q.low ≤ p → Made (record { places = q.places; modes = q.modes; arcs = q.arcs + 1; low = p + 1; half = false }) (with_arcs d (arc (q.modes - 1) p 0 v ∷ [])) (x ++ line_text q (post p v))
  unfolding line_text
  made-fresh p v h l =
      new-arc (post p v) p 0 v h.some_mode l h.inside (arc-room p l h.most) (omega arith) h.weight (λ e f. omega (arith, h.positive)) false
      (λ e. let y : ◌≡◌ {A = ℕ} 0 1 = cc in absurd (omega arith)) (post-text (q.modes - 1) p v h.positive)

  made-post : (p v : ℕ) → Allowed q (post p v) → Made (after q (post p v)) (gather q (post p v) d) (x ++ line_text q (post p v))
  made-post p v h = go (ltb p q.low) refl q.half refl
    where
      go : (b : Bool) → ltb p q.low ≡ b → (c : Bool) → q.half ≡ c → Made (after q (post p v)) (gather q (post p v) d) (x ++ line_text q (post p v))
      go true e true f =
          let l = h.least in
          let l' : q.low - 1 ≤ p = rw f at l in
          rw e (made-half p v h (omega (arith, ltb-true p q.low e)) (m.half f))
      go true e false f =
          let l = h.least in
          let l' : q.low ≤ p = rw f at l in
          absurd (omega (arith, ltb-true p q.low e))
      go false e c f = rw e (made-fresh p v h (ltb-false p q.low e))

  pub made-line : (l : Line) → Allowed q l → Made (after q l) (gather q l d) (x ++ line_text q l)
  made-line (place v) h = made-place v h
  made-line transition h = made-transition h
  made-line (pre p w) h = made-pre p w h
  made-line (post p w) h = made-post p w h

made : (ls : List Line) (q : State) (d : Gathered) (x : List ℕ) → Made q d x → Valid q ls
    → (r : State) × (e : Gathered) × (y : List ℕ) × (Made r e y) × (1 ≤ r.places) × (x ++ text_from q ls ≡ y ++ closing)
unfolding Valid text_from
made [] q d x m v = (q, d, x, m, v, refl)
made (l ∷ ls) q d x m v =
    let r = made ls (after q l) (gather q l d) (x ++ line_text q l) (made-line m l v.0) v.1 in
    (r.0, r.1, r.2, r.3, r.4, sym (append_assoc x (line_text q l) (text_from (after q l) ls)) ∙ r.5)

-- n as at most k counts of 1..64
single : ℕ → List ℕ
single zero = []
single (suc n) = suc n ∷ []

parts : ℕ → ℕ → List ℕ
parts zero n = []
parts (suc k) n = cond (ltb 64 n) (64 ∷ parts k (n - 64)) (single n)

record Parts (k n : ℕ) (cs : List ℕ) : Type 0 where
  sum : total cs ≡ n
  many : length cs ≤ k
  each : Each (λ c. (1 ≤ c) × (c ≤ 64)) cs
  some : 1 ≤ n → 1 ≤ length cs

parts_are : (k n : ℕ) → n ≤ k * 64 → Parts k n (parts k n)
unfolding parts single
parts_are zero n h = record { sum = omega arith; many = omega arith; each = tt; some = λ l. absurd (omega arith) }
parts_are (suc k) n h = go (ltb 64 n) refl (parts_are k (n - 64))
  where
    one : (n : ℕ) → n ≤ 64 → Parts (suc k) n (single n)
    one zero h = record { sum = refl; many = omega arith; each = tt; some = λ l. absurd (omega arith) }
    one (suc n) h = record { sum = omega arith; many = omega arith; each = ((omega arith, h), tt); some = λ l. omega arith }

    go : (b : Bool) → ltb 64 n ≡ b → (n - 64 ≤ k * 64 → Parts k (n - 64) (parts k (n - 64))) → Parts (suc k) n (cond b (64 ∷ parts k (n - 64)) (single n))
    go true e ih =
        let l = ltb-true 64 n e in
        let r = ih (omega arith) in
        record { sum = omega (arith, r.sum); many = omega (arith, r.many); each = ((omega arith, omega arith), r.each); some = λ l. omega arith }
    go false e ih = one n (ltb-false 64 n e)

counted : (n : ℕ) → n ≤ 256 → Counted (parts 4 n)
counted n h =
    let r = parts_are 4 n (omega arith) in
    record { many = omega (arith, r.many); each = each_at (λ c. (1 ≤ c) × (c ≤ 64)) 0 (parts 4 n) r.each; in_total = omega (arith, r.sum) }

pub export : {q : State} {d : Gathered} {y : List ℕ} → Made q d y → 1 ≤ q.places → (net : PNet) × (Exportable net) × (pnml net ≡ opening ++ (y ++ closing))
unfolding pnml
export {q} {d} {y} m some =
    let ps = parts_are 4 q.places (omega (arith, m.places)) in
    let ts = parts_are 4 q.modes (omega (arith, m.modes)) in
    let net : PNet = record { rule = Strong; colours = parts 4 q.places; modes_of = parts 4 q.modes; capacity = replicate q.places ∞; start = d.marks; arcs = d.arcs } in
    let pairs-are : pairs net ≡ q.places = ps.sum in
    let modes-are : modes net ≡ q.modes = ts.sum in
    let k : (p : ℕ) → p < pairs net → K net p ≡ ∞ = λ p h. get_or-replicate q.places p ∞ ∞ (omega arith) in (
      net,
      record {
        well_formed =
            record {
              some_place = ps.some some;
              places = counted q.places m.places;
              transitions = counted q.modes m.modes;
              capacities = length-replicate q.places ∞ ∙ sym pairs-are;
              capacity_in_range = λ p h. rw (k p h) tt;
              start = record { one_each = m.long ∙ sym pairs-are; in_range = λ p h. m.small p (omega arith); within = λ p h. rw (k p h) tt };
              arc_count = omega (arith, m.many, m.arcs);
              each_arc = λ i h.
                  let a : Good q.places q.modes (arc_no d.arcs i) = each_at (Good q.places q.modes) _ d.arcs m.good.each i h in
                  record { mode = omega (arith, a.mode); pair = omega (arith, a.pair); pre = a.pre; post = a.post; inhibitor = rw a.inhibitor tt; not_blank = λ b. a.some b.pre b.post };
              rising = sorted-rising d.arcs m.good.sorted;
            };
        capacities = k;
        inhibitors = λ i h. (each_at (Good q.places q.modes) _ d.arcs m.good.each i h).inhibitor;
      },
      rw (m.is, pairs-are, modes-are),
    )

-- the texts made line by line are those of the exports
pub exports : (ls : List Line) → Valid start ls → (net : PNet) × (Exportable net) × (pnml net ≡ opening ++ text_from start ls)
exports ls v =
    let r = made ls start nothing [] made-start v in
    let e = export r.3 r.4 in
    (e.0, e.1, e.2 ∙ ap (λ z. opening ++ z) (sym r.5))
