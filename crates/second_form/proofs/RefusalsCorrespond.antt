-- "Refusals correspond: 11, 12 and 13 in the net become 11 in its complement; 6 and 14 stay."
use Prim.Native.Nat.{ℕ, ◌<◌}
use mathlib.Core.Path.{◌≡◌, refl, sym, ◌∙◌}
use mathlib.Core.Bool.{true, false, cond, true≢false, or-true}
use mathlib.Core.Logic.{◌⊎◌, ⊎_elim}
use mathlib.Core.Option.{Option, none, some}
use Rattle.model.specs.declared.Thing.{Thing}
use Rattle.model.specs.declared.Why.{Why}
use Rattle.model.specs.declared.Why.TheVariants.{Lacking, OverCapacity, Inhibited, OverLimit}
use Rattle.model.specs.declared.Refusal.{Refusal}
use Rattle.model.specs.First.{◌▸◌}
use Rattle.model.specs.Rows.{Row, Capacities, Counts}
use Rattle.model.specs.Firing.{compared, stops, lowest_stop, rule_refusal, row_refusal}
use Rattle.second_form.specs.DemandThree.{crowded, lowest_crowded, is12or13}
use Rattle.model.proofs.Both.{or_neither}
use Rattle.model.proofs.First.{left-none, right-none, none_then, some_then, first-each, first-all, only_if_none}
use Rattle.model.proofs.Numbers.{false_above, le_not_above, true_above}
use Rattle.model.proofs.Firing.{No, Low, row0, row11, row12, row13, row14, none-stop, lowest-stop, find-stop}
use Rattle.second_form.proofs.ComplementStep.{answer_in_complement}

-- `c` are the capacities, which number the complement pairs, and `k` what 12 compares with
module _ (thing : Thing) (n : ℕ) (c k : Capacities) (r : Row) (M : Counts) where
  abbrev crowd : Option Refusal
  crowd = lowest_crowded thing n c k r M

  abbrev At : Why → Type 0
  At why = (p : ℕ) × Low thing n k r M why p

  abbrev None : Why → Type 0
  None = No thing n k r M

  find : (why : Why) → At why ⊎ None why
  find = find-stop thing n k r M

  off : (why : Why) → None why → lowest_stop thing n k r M why ≡ none
  off = none-stop thing n k r M

  passes : (why : Why) → None why → (p : ℕ) → p < n → stops why (r p) (k p) (M p) ≡ false
  passes why h p l = let c = compared why (r p) (k p) (M p) in false_above c.number c.bound (le_not_above c.number c.bound (h p l))

  stopping : (why : Why) (f : At why) → stops why (r f.0) (k f.0) (M f.0) ≡ true
  stopping why f = let c = compared why (r f.0) (k f.0) (M f.0) in true_above c.number c.bound f.1.holds

  -- a crowded pair is named before any count above the limit
  crowd-first : (p : ℕ) → p < n → crowded (r p) (k p) (M p) ≡ true → (o : Option Refusal) → crowd ▸ o ≡ crowd
  crowd-first p h e o = go crowd refl
    where
      go : (c : Option Refusal) → crowd ≡ c → crowd ▸ o ≡ crowd
      go none f = absurd (true≢false (sym e ∙ only_if_none (crowded (r p) (k p) (M p)) _ (first-each n _ f p h)))
      go (some x) f = some_then o f ∙ sym f

  crowd-none : None OverCapacity → None Inhibited → crowd ≡ none
  crowd-none b c = first-all n _ (λ p h. rw (passes OverCapacity b p h, passes Inhibited c p h))

  -- 12 and 13 give way to the lowest crowded pair; the others stay
  abbrev Becomes : Option Refusal → Type 0
  Becomes o = cond (is12or13 o) crowd o ≡ answer_in_complement thing n c k r M

  pub row-becomes : Becomes (row_refusal thing n k r M)
  row-becomes =
      ⊎_elim
      (λ (f : At Lacking). rw (row11 thing n k r M f.0 f.1) (sym (some_then _ (lowest-stop thing n k r M Lacking f.0 f.1))))
      (λ (a : None Lacking).
      ⊎_elim
      (λ (f : At OverCapacity).
      rw (row12 thing n k r M f.0 a f.1)
      (sym (none_then (off Lacking a) (crowd-first f.0 f.1.below (rw (stopping OverCapacity f)) _))))
      (λ (b : None OverCapacity).
      ⊎_elim
      (λ (f : At Inhibited).
      rw (row13 thing n k r M f.0 a b f.1)
      (sym
      (none_then (off Lacking a)
      (crowd-first f.0 f.1.below (rw (stopping Inhibited f) (or-true (stops OverCapacity (r f.0) (k f.0) (M f.0)))) _))))
      (λ (c : None Inhibited).
      ⊎_elim
      (λ (f : At OverLimit).
      rw (row14 thing n k r M f.0 a b c f.1)
      (sym (none_then (off Lacking a) (none_then (crowd-none b c) (lowest-stop thing n k r M OverLimit f.0 f.1)))))
      (λ (d : None OverLimit). rw (row0 thing n k r M a b c d) (sym (none_then (off Lacking a) (none_then (crowd-none b c) (off OverLimit d)))))
      (find OverLimit))
      (find Inhibited))
      (find OverCapacity))
      (find Lacking)

  -- where nothing is lacking and nothing crowded, none of 11, 12 and 13 is given
  pub uncrowded : lowest_stop thing n k r M Lacking ≡ none → crowd ≡ none → rule_refusal thing n k r M ≡ none
  unfolding rule_refusal
  uncrowded l c = none_then l (none_then (first-all n _ (λ p h. rw (passed p h).0)) (first-all n _ (λ p h. rw (passed p h).1)))
    where
      passed : (p : ℕ) → p < n → (stops OverCapacity (r p) (k p) (M p) ≡ false) × (stops Inhibited (r p) (k p) (M p) ≡ false)
      passed p h = or_neither (stops OverCapacity (r p) (k p) (M p)) _ (only_if_none _ _ (first-each n _ c p h))

  -- what the complement accepts, the net accepts
  pub none-becomes : answer_in_complement thing n c k r M ≡ none → row_refusal thing n k r M ≡ none
  unfolding row_refusal
  none-becomes e =
      let rest = right-none (lowest_stop thing n k r M Lacking) _ e in
      none_then (uncrowded (left-none _ _ e) (left-none crowd _ rest)) (right-none crowd _ rest)
