-- Audit: what is found is out of step, and nothing is found exactly at corresponding markings.
use Prim.Native.Nat.{ℕ, zero, suc, ◌+◌, ◌-◌, ◌≤◌, ◌<◌}
use mathlib.Core.Path.{◌≡◌, refl, sym, ◌∙◌, ap}
use mathlib.Core.Bool.{Bool, true, false, false≢true, not}
use mathlib.Core.List.{List}
use mathlib.Core.Logic.{◌⊎◌, inl, inr, ⊎_elim, ◌≢◌}
use mathlib.Core.Option.{none}
use lib.Dec.{eqb, ltb}
use lib.IntN.{ℤ, pos, nat_abs, ◌-ℤ◌, +ℤ_invr}
use borrow.Author.Tests.{eqb-true, eq-eqb, lt-ltb}
use native.Mathlib.Omega.{arith}
use Rattle.model.specs.First.{◌▸◌, first, only_if, lowest}
use Rattle.model.specs.Numbers.{ℕ∞, fin, ∞}
use Rattle.model.specs.Nets.{PNet, pairs, pair_no, K, count}
use Rattle.second_form.specs.Complement.{bounded, Corresponds}
use Rattle.model.specs.Lists.{joined}
use Rattle.both_forms.specs.Audit.{adds_up, strays, excess_of, Finding, count_beside, out_of_step, excess, audited, OutOfStep, AuditFinds, AuditExamples}
use Rattle.model.proofs.First.{below_or, first_ext, Decides, lowest-none, lowest-some, none-lowest, some-lowest}
use Rattle.model.proofs.Numbers.{minus_is, minus-below}
use Rattle.model.proofs.Decisions.{Decided, by_equal, by_not, by_or, by-other}

pub audit_examples_lem : AuditExamples
unfolding audited ◌▸◌ first bounded joined
audit_examples_lem =
    record { in_step = refl; left_behind = refl; lost = refl; lacks_beside = refl; both_lack = refl; without = refl; without_one_more = refl }

-- a difference that is 0, and one that is what was added
difference_zero : (a b : ℕ) → pos a -ℤ pos b ≡ pos 0 → a ≡ b
difference_zero a b e =
    ⊎_elim (λ (l : a < b). let z : pos 0 ≡ _ = sym e ∙ minus-below a b l in let y : ◌≡◌ {A = ℕ} 0 1 = cc in absurd (omega arith))
    (λ (l : b ≤ a). let z : a - b ≡ 0 = ap nat_abs (sym (minus_is a b l) ∙ e) in omega arith)
    (below_or a b)

pub difference-more : (a b d : ℕ) → a ≡ b + d → pos a -ℤ pos b ≡ pos d
difference-more a b d e = minus_is a b (omega arith) ∙ ap pos (omega arith)

equal-decided : (a b : ℕ) → ¬ (a ≢ b) → a ≡ b
equal-decided a b h = go (eqb a b) refl
  where
    go : (t : Bool) → eqb a b ≡ t → a ≡ b
    go true e = eqb-true a b e
    go false e = absurd (h (λ q. false≢true (sym e ∙ eq-eqb a b q)))

-- At one pair.
module _ (m m' c : ℕ) where
  decided-sum : (k : ℕ∞) → Decided (not (adds_up k m c)) ((j : ℕ) × (k ≡ fin j) × (m + c ≢ j))
  decided-sum (fin k) = by-other (by_not (by_equal (m + c) k)) (λ no. (k, refl, no)) (λ s e. s.2 (let f : fin k ≡ fin s.0 = s.1 in let g : k ≡ s.0 = cc in e ∙ g))
  decided-sum ∞ =
      record {
        sound = λ e. absurd (false≢true e);
        complete = λ s. let f : ∞ ≡ fin s.0 = s.1 in let y : ◌≡◌ {A = ℕ} 0 1 = cc in absurd (omega arith);
      }

  pub decided-strays : (k : ℕ∞) → Decided (strays k m m' c) ((m ≢ m') ⊎ ((j : ℕ) × (k ≡ fin j) × (m + c ≢ j)))
  decided-strays k = by_or (by_not (by_equal m m')) (decided-sum k)

  -- the excess is 0 exactly where nothing is out of step
  pub zero_excess : (k : ℕ∞) → strays k m m' c ≡ false → excess_of k m m' c ≡ pos 0
  zero_excess k e = go k (equal-decided m m' (λ no. false≢true (sym e ∙ (decided-strays k).complete (inl no)))) (λ j f. equal-decided (m + c) j (λ no. false≢true (sym e ∙ (decided-strays k).complete (inr (j, f, no)))))
    where
      go : (k : ℕ∞) → m ≡ m' → ((j : ℕ) → k ≡ fin j → m + c ≡ j) → excess_of k m m' c ≡ pos 0
      go (fin j) q sum = rw (eq-eqb (m + c) j (sum j refl), q) (+ℤ_invr (pos m'))
      go ∞ q sum = rw q (+ℤ_invr (pos m'))

  pub excess_zero : (k : ℕ∞) → excess_of k m m' c ≡ pos 0 → strays k m m' c ≡ false
  excess_zero (fin k) e = go (eqb (m + c) k) refl
    where
      go : (t : Bool) → eqb (m + c) k ≡ t → strays (fin k) m m' c ≡ false
      go true f = let q : m ≡ m' = difference_zero m m' (rw f at e) in rw (f, eq-eqb m m' q)
      go false f = absurd (false≢true (sym f ∙ eq-eqb (m + c) k (difference_zero (m + c) k (rw f at e))))
  excess_zero ∞ e = let q : m ≡ m' = difference_zero m m' e in rw (eq-eqb m m' q)

  -- so that an excess that is known says whether the pair is out of step
  pub strays-by : (k : ℕ∞) (d : ℕ) → excess_of k m m' c ≡ pos d → strays k m m' c ≡ ltb 0 d
  strays-by k zero e = excess_zero k e
  strays-by k (suc d) e = go (strays k m m' c) refl
    where
      go : (t : Bool) → strays k m m' c ≡ t → strays k m m' c ≡ ltb 0 (suc d)
      go true f = f ∙ sym (lt-ltb 0 (suc d) (omega arith))
      go false f = let z : pos 0 ≡ pos (suc d) = sym (zero_excess k f) ∙ e in let y : 0 ≡ suc d = ap nat_abs z in absurd (omega arith)

  -- m is d more than f, which the complement's marking has in step
  pub excess-over : (k : ℕ∞) (f d : ℕ) → m ≡ f + d → m' ≡ f → ((j : ℕ) → k ≡ fin j → f + c ≡ j) → excess_of k m m' c ≡ pos d
  excess-over (fin k) f d e q sum = go (eqb (m + c) k) refl
    where
      go : (t : Bool) → eqb (m + c) k ≡ t → excess_of (fin k) m m' c ≡ pos d
      go true g = rw g (difference-more m m' d (omega arith))
      go false g = rw g (difference-more (m + c) k d (omega (arith, sum k refl)))
  excess-over ∞ f d e q sum = difference-more m m' d (omega arith)

  -- m and m' are one, and with c they are d more than K
  pub excess-both : (k d : ℕ) → m' ≡ m → m + c ≡ k + d → excess_of (fin k) m m' c ≡ pos d
  excess-both k d q e = go (eqb (m + c) k) refl
    where
      go : (t : Bool) → eqb (m + c) k ≡ t → excess_of (fin k) m m' c ≡ pos d
      go true g = rw g (difference-more m m' d (omega (arith, eqb-true (m + c) k g)))
      go false g = rw g (difference-more (m + c) k d e)

module _ (net : PNet) (m m' : List ℕ) where
  decided-step : (p : ℕ) → Decided (out_of_step net m m' p) (OutOfStep net m m' p)
  decided-step p = decided-strays (count m p) (count m' p) (count_beside net m m' p) (K net p)

  decides-step : Decides (out_of_step net m m') (OutOfStep net m m')
  decides-step = record { sound = λ p. (decided-step p).sound; complete = λ p. (decided-step p).complete }

  abbrev found : ℕ → Finding
  found p = record { pair = pair_no p; excess = excess net m m' p }

  pub in_step_lem : Corresponds net m m' → audited net m m' ≡ none
  unfolding audited
  in_step_lem c =
      lowest-none decides-step found (pairs net)
      (λ p h. elim [ inl d ↦ d (sym (c.equal p h)) | inr s ↦ s.2 (c.add_up p s.0 h s.1) ])

  -- a search that finds the same at each pair
  pub audited_as : (test : ℕ → Bool) (z : ℕ → ℤ) → ((p : ℕ) → p < pairs net → out_of_step net m m' p ≡ test p)
      → ((p : ℕ) → p < pairs net → test p ≡ true → excess net m m' p ≡ z p)
      → audited net m m' ≡ lowest (pairs net) test (λ p. record { pair = pair_no p; excess = z p })
  unfolding audited
  audited_as test z same is = first_ext (pairs net) _ _ (λ p h. rw (same p h) (go p (test p) (is p h)))
    where
      go : (p : ℕ) (t : Bool) → (t ≡ true → excess net m m' p ≡ z p) → only_if t (found p) ≡ only_if t (record { pair = pair_no p; excess = z p })
      go p true e = rw (e refl)
      go p false e = refl

pub audit-finds : AuditFinds
unfolding audited
audit-finds net m m' =
    record {
      nothing = λ one one'. (
        λ e.
            let no = none-lowest (decides-step net m m') (found net m m') (pairs net) e in
            record {
              one_each = one;
              one_each' = one';
              equal = λ p h. sym (equal-decided (count m p) (count m' p) (λ d. no p h (inl d)));
              add_up = λ p k h f. equal-decided (count m p + count_beside net m m' p) k (λ d. no p h (inr (k, f, d)));
            },
        in_step_lem net m m',
      );
      at = λ p. (
        λ e.
            let r = some-lowest (decides-step net m m') (found net m m') (pairs net) (found net m m' p) e in
            let q : r.0 ≡ p = ap (λ x. x.pair.0) r.2 in
            rw q at r.1,
        lowest-some (decides-step net m m') (found net m m') (pairs net) p,
      );
      not_nothing = λ p out e.
          false≢true
          (sym (excess_zero (count m p) (count m' p) (count_beside net m m' p) (K net p) e) ∙ (decides-step net m m').complete p out);
    }
