-- Document 01 complements a net arc by arc: each original arc without its inhibitor, and for one at a bounded pair an arc on the complement
-- pair. The definition by rows has these arcs and no others; mode by mode, originals first and blanks left out, it is the same list.
use Prim.Native.Nat.{ℕ, zero, suc, ◌+◌, ◌<◌}
use mathlib.Core.Path.{◌≡◌, refl, sym, ◌∙◌, ap, ap₂, subst⁻¹}
use mathlib.Core.Bool.{Bool, true, false, cond, not, ◌&&◌, true≢false}
use mathlib.Core.List.Memᴰ
use mathlib.Core.List.{List, [], ◌∷◌, ◌++◌, Memᴰ}
use mathlib.Core.Logic.{◌⊎◌, inl, inr, ⊎_elim}
use lib.Dec.{eqb}
use lib.ListN.{length, get_or}
use borrow.Author.Tests.{eqb-true}
use native.Mathlib.Omega.{arith}
use native.Mathlib.Nat.{eq-or-lt_of_le, le_of_suc-le-suc, not-suc-le-zero}
use Rattle.model.specs.declared.CapacityRule.{CapacityRule}
use Rattle.model.specs.declared.CapacityRule.TheVariants.{Strong, Weak}
use Rattle.model.specs.declared.Mode.{Mode}
use Rattle.model.specs.Numbers.{ℕ∞, fin, ∞}
use Rattle.model.specs.Rows.{Entry, no_arc, Row, Capacities}
use Rattle.model.specs.Nets.{NetArc, PNet, pairs, modes, pair_no, mode_no, K, entry_at, row}
use Rattle.model.specs.WellFormed.{Blank, ArcOf, WellFormed}
use Rattle.second_form.specs.Dead.{is_dead}
use Rattle.second_form.specs.Complement.{bounded, bounded_below, complement_pair, original, complement_entry, complement_row, blank, written, arcs_of, all_pairs, complement}
use Rattle.model.specs.Lists.{joined, list_if}
use Rattle.both_forms.specs.Promises.{on_original, on_complement, ArcByArc}
use Rattle.movement.proofs.Joined.{joined_ext, joined-split, joined_sparse}
use Rattle.second_form.proofs.Bounded.{bounded-number, bounded-pair, at-complements, bounded-rises, unbounded, original_or}
use Rattle.second_form.proofs.ComplementRow.{row-original, row-complement}
use Rattle.second_form.proofs.WrittenRows.{blank-is, not_blank_lem}
use Rattle.movement.proofs.Nets.{entry-written}
use Rattle.movement.proofs.ByArcs.{Listing}

-- where there is no arc, none stands at the complement pair, of a dead mode neither, and by either rule
blank-beside : (rule : CapacityRule) (dead : Bool) (k : ℕ∞) → blank (complement_entry rule dead k no_arc) ≡ true
blank-beside Strong true (fin k) = refl
blank-beside Strong false (fin k) = refl
blank-beside Weak true (fin k) = refl
blank-beside Weak false (fin k) = refl
blank-beside rule dead ∞ = refl

module _ (t : Mode) (rule : CapacityRule) (dead : Bool) (n : ℕ) (K : Capacities) where
  abbrev pub original_arc : NetArc → List NetArc
  original_arc a = written t a.pair.0 (original a.entry)

  -- at an unbounded pair it is blank
  abbrev pub complement_arc : NetArc → List NetArc
  complement_arc a = written t (complement_pair n K a.pair.0) (complement_entry rule dead (K a.pair.0) a.entry)

  -- what a mode's c arcs become
  unfoldable pub arcs_of_mode : ℕ → (ℕ → NetArc) → List NetArc
  arcs_of_mode c arc = joined c (λ k. original_arc (arc k)) ++ joined c (λ k. complement_arc (arc k))

  module _ (r : Row) (c : ℕ) (arc : ℕ → NetArc) (listing : Listing n r c arc) where
    abbrev original_at : ℕ → List NetArc
    original_at p = written t p (original (r p))

    abbrev complement_at : ℕ → List NetArc
    complement_at p = written t (complement_pair n K p) (complement_entry rule dead (K p) (r p))

    abbrev row_at : ℕ → List NetArc
    row_at p = written t p (complement_row rule dead n K r p)

    originals : joined n row_at ≡ joined c (λ k. original_arc (arc k))
    originals =
        joined_ext n row_at original_at (λ p h. rw (row-original rule dead n K r p h))
        ∙ joined_sparse n c original_at (λ k. (arc k).pair.0) listing.inside listing.rising (λ p h out. rw (listing.unwritten p h out))
        ∙ joined_ext c (λ k. original_at (arc k).pair.0) (λ k. original_arc (arc k)) (λ k h. rw (listing.written k h))

    complements : joined (bounded_below K n) (λ j. row_at (n + j)) ≡ joined c (λ k. complement_arc (arc k))
    complements =
        joined_ext (bounded_below K n) (λ j. row_at (n + j)) (λ j. complement_at (get_or (bounded K n) j 0))
        (at-complements K n row_at complement_at (λ p k h e. rw (row-complement rule dead n K r p k h e, e)))
        ∙ sym
        (joined_sparse n (bounded_below K n) complement_at (λ j. get_or (bounded K n) j 0) (λ j h. (bounded-pair K n j h).below) (bounded-rises K n)
        (λ p h out. rw (unbounded K n p h out)))
        ∙ joined_sparse n c complement_at (λ k. (arc k).pair.0) listing.inside listing.rising
        (λ p h out. rw (listing.unwritten p h out, blank-beside rule dead (K p)))
        ∙ joined_ext c (λ k. complement_at (arc k).pair.0) (λ k. complement_arc (arc k)) (λ k h. rw (listing.written k h))

    pub mode-by-arcs : joined (n + bounded_below K n) (λ p. written t p (complement_row rule dead n K r p)) ≡ arcs_of_mode c arc
    unfolding arcs_of_mode
    mode-by-arcs = joined-split n (bounded_below K n) row_at ∙ ap₂ (λ xs ys. xs ++ ys) originals complements

-- what stands in a list that is joined from parts
module _ {A : Type 0} where
  in_joined : {a : A} (n : ℕ) (f : ℕ → List A) → Memᴰ a (joined n f) → (i : ℕ) × (i < n) × Memᴰ a (f i)
  unfolding joined
  in_joined zero f m = absurd (Memᴰ.not-nil m)
  in_joined {a} (suc n) f m =
      ⊎_elim (λ (l : Memᴰ a (joined n f)). let r : (i : ℕ) × (i < n) × Memᴰ a (f i) = in_joined n f l in (r.0, omega (arith, r.1), r.2)) (λ l. (n, omega arith, l)) (Memᴰ.append_cases (joined n f) m)

  joined_in : {a : A} (n i : ℕ) (f : ℕ → List A) → i < n → Memᴰ a (f i) → Memᴰ a (joined n f)
  unfolding joined
  joined_in zero i f h m = absurd (not-suc-le-zero h)
  joined_in (suc n) i f h m =
      ⊎_elim (λ (q : i ≡ n). Memᴰ.append_right (joined n f) (rw q at m)) (λ (l : i < n). Memᴰ.append_left (f n) (joined_in n i f l m))
      (eq-or-lt_of_le (le_of_suc-le-suc h))

  pub in_at : {a : A} (d : A) (xs : List A) → Memᴰ a xs → (k : ℕ) × (k < length xs) × (a ≡ get_or xs k d)
  in_at d [] m = absurd (Memᴰ.not-nil m)
  in_at {a} d (x ∷ xs) m =
      ⊎_elim (λ e. (0, omega arith, e)) (λ (l : Memᴰ a xs). let r : (k : ℕ) × (k < length xs) × (a ≡ get_or xs k d) = in_at d xs l in (suc r.0, omega (arith, r.1), r.2)) (Memᴰ.cases_cons m)

abbrev pub arc_for : Mode → ℕ → Entry → NetArc
arc_for t p e = record { mode = t; pair = pair_no p; entry = e }

in_written : {b : NetArc} (t : Mode) (p : ℕ) (e : Entry) → Memᴰ b (written t p e) → (b ≡ arc_for t p e) × (blank e ≡ false)
in_written {b} t p e = go (blank e) refl
  where
    go : (d : Bool) → blank e ≡ d → Memᴰ b (list_if (not d) (arc_for t p e)) → (b ≡ arc_for t p e) × (blank e ≡ false)
    go true q m = absurd (Memᴰ.not-nil m)
    go false q m = (Memᴰ.eq_of_singleton m, q)

-- the arcs that are written from rows: one for each mode and pair whose entry is not blank
module _ (m n : ℕ) (rows : Mode → Row) where
  record InRows (b : NetArc) : Type 0 where
    mode : b.mode.0 < m
    pair : b.pair.0 < n
    entry : b.entry ≡ rows b.mode b.pair.0
    not_blank : blank b.entry ≡ false

  in_rows : (b : NetArc) → Memᴰ b (arcs_of m n rows) → InRows b
  unfolding arcs_of
  in_rows b l =
      let t = in_joined m _ l in
      let p = in_joined n _ t.2 in
      let is = in_written (mode_no t.0) p.0 (rows (mode_no t.0) p.0) p.2 in
      subst⁻¹ InRows is.0 (record { mode = t.1; pair = p.1; entry = refl; not_blank = is.1 })

  rows_in : (b : NetArc) → InRows b → Memᴰ b (arcs_of m n rows)
  unfolding arcs_of
  rows_in b r =
      joined_in m b.mode.0 _ r.mode
      (joined_in n b.pair.0 _ r.pair
      (rw (← r.entry, r.not_blank) (Memᴰ.head refl)))

-- what stands at a mode and pair is no arc, or an arc of the list
pub entry_in : (arcs : List NetArc) (t : Mode) (p : ℕ) → (entry_at arcs t p ≡ no_arc) ⊎ Memᴰ (arc_for t p (entry_at arcs t p)) arcs
unfolding entry_at
entry_in [] t p = inl refl
entry_in (a ∷ arcs) t p = go (eqb a.mode.0 t.0) (eqb a.pair.0 p) refl refl (entry_in arcs t p)
  where
    Found : Entry → Type 0
    Found e = (e ≡ no_arc) ⊎ Memᴰ (arc_for t p e) (a ∷ arcs)

    go : (x y : Bool) → eqb a.mode.0 t.0 ≡ x → eqb a.pair.0 p ≡ y
        → (entry_at arcs t p ≡ no_arc) ⊎ Memᴰ (arc_for t p (entry_at arcs t p)) arcs → Found (cond (x && y) a.entry (entry_at arcs t p))
    go true true d e later =
        let same : a ≡ arc_for t p a.entry =
        λ j. record { mode = record { 0 = eqb-true a.mode.0 t.0 d j }; pair = record { 0 = eqb-true a.pair.0 p e j }; entry = a.entry }
        in
        inr (Memᴰ.head (sym same))
    go true false d e later = ⊎_elim inl (λ l. inr (Memᴰ.tail l)) later
    go false y d e later = ⊎_elim inl (λ l. inr (Memᴰ.tail l)) later

blank_not : (e : Entry) → ¬ Blank e → blank e ≡ false
blank_not e h = go (blank e) refl
  where
    go : (d : Bool) → blank e ≡ d → blank e ≡ false
    go true q = absurd (h (rw (blank-is e q) (record { pre = refl; post = refl; inhibitor = refl })))
    go false q = q

module _ (net : PNet) where
  abbrev n : ℕ
  n = pairs net

  Rows : NetArc → Type 0
  Rows = InRows (modes net) (all_pairs net) (λ t. complement_row net.rule (is_dead net t) n (K net) (row net t))

  becomes_in : (b : NetArc) → Rows b → (a : NetArc) × Memᴰ a net.arcs × ((b ≡ on_original a) ⊎ (b ≡ on_complement net a))
  unfolding Rows
  becomes_in b r =
      let t = b.mode in
      ⊎_elim
      (λ (l : b.pair.0 < n).
      let p = b.pair.0 in
      let is : b.entry ≡ original (row net t p) = r.entry ∙ row-original net.rule (is_dead net t) n (K net) (row net t) p l in
      ⊎_elim (λ bare. absurd (true≢false (sym (ap blank (is ∙ ap original bare)) ∙ r.not_blank)))
      (λ found. (arc_for t p (row net t p), found, inl (ap (arc_for t p) is)))
      (entry_in net.arcs t p))
      (λ o.
      let q = o.0 in
      let is : b.entry ≡ complement_entry net.rule (is_dead net t) (K net q) (row net t q) =
      r.entry ∙ ap (complement_row net.rule (is_dead net t) n (K net) (row net t)) (sym o.4) ∙ row-complement net.rule (is_dead net t) n (K net) (row net t) q o.1 o.2 o.3 ∙ rw o.3 in
      ⊎_elim (λ bare. absurd (true≢false (sym (ap blank (is ∙ ap (complement_entry net.rule (is_dead net t) (K net q)) bare) ∙ blank-beside net.rule (is_dead net t) (K net q)) ∙ r.not_blank)))
      (λ found. (arc_for t q (row net t q), found, inr (λ j. arc_for t (sym o.4 j) (is j))))
      (entry_in net.arcs t q))
      (original_or (K net) n b.pair.0 r.pair)

  in_becomes : WellFormed net → (a b : NetArc) → Memᴰ a net.arcs → ¬ Blank b.entry → (b ≡ on_original a) ⊎ (b ≡ on_complement net a) → Rows b
  unfolding Rows
  in_becomes wf a b m h which =
      let k = in_at _ net.arcs m in
      let is : ArcOf net a = subst⁻¹ (ArcOf net) k.2 (wf.each_arc k.0 k.1) in
      let here : row net a.mode a.pair.0 ≡ a.entry =
      entry-written a.mode a.pair.0 net.arcs wf.rising k.0 k.1 (ap (λ x. x.mode.0) (sym k.2), ap (λ x. x.pair.0) (sym k.2))
      ∙ ap (λ x. x.entry) (sym k.2) in
      ⊎_elim
      (λ e.
      subst⁻¹ Rows e
      (record {
        mode = is.mode;
        pair = omega (arith, is.pair);
        entry = sym (row-original net.rule (is_dead net a.mode) n (K net) (row net a.mode) a.pair.0 is.pair ∙ ap original here);
        not_blank = blank_not _ (rw e at h);
      }))
      (λ e. subst⁻¹ Rows e (go (K net a.pair.0) refl is here (rw e at h)))
      which
    where
      go : (c : ℕ∞) → K net a.pair.0 ≡ c → ArcOf net a → row net a.mode a.pair.0 ≡ a.entry → ¬ Blank (on_complement net a).entry
          → Rows (on_complement net a)
      go (fin c) q is here h =
          record {
            mode = is.mode;
            pair = omega (arith, bounded-number (K net) n a.pair.0 c is.pair q);
            entry = sym (row-complement net.rule (is_dead net a.mode) n (K net) (row net a.mode) a.pair.0 c is.pair q ∙ rw (here, q));
            not_blank = blank_not _ h;
          }
      go ∞ q is here h = absurd (h (rw q (record { pre = refl; post = refl; inhibitor = refl })))

pub arc-by-arc : ArcByArc
unfolding complement Rows
arc-by-arc net wf b = (
  λ m.
      let r = in_rows _ _ _ b m in
      (not_blank_lem b.entry r.not_blank, becomes_in net b r),
  λ h. rows_in _ _ _ b (in_becomes net wf h.1.0 b h.1.1 h.0 h.1.2),
)
