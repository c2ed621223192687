-- Modes that are apart in a net are apart in its complement; and the examples of what order does.
use Prim.Native.Nat.{ℕ, ◌<◌}
use mathlib.Core.Path.{◌≡◌, refl, sym, ◌∙◌, ap}
use mathlib.Core.List.Memᴰ
use mathlib.Core.List.{[], ◌∷◌, Memᴰ}
use mathlib.Core.Logic.{◌⊎◌, inl, inr, ⊎_elim}
use native.Mathlib.Omega.{arith}
use Rattle.model.specs.declared.Mode.{Mode}
use Rattle.model.specs.First.{◌▸◌, first}
use Rattle.model.specs.Lists.{table, joined}
use Rattle.model.specs.Numbers.{ℕ∞, fin, ∞}
use Rattle.model.specs.Nets.{NetArc, PNet, pairs, mode_no, K, entry_at}
use Rattle.model.specs.WellFormed.{Blank, WellFormed}
use Rattle.model.specs.Markings.{marking_refusal}
use Rattle.model.specs.Firing.{rule_refusal, row_refusal, mode_refusal, fired}
use Rattle.movement.specs.Runs.{run_from}
use Rattle.second_form.specs.Complement.{bounded, bounded_below, complement_pair, complement_row, arcs_of, complement}
use Rattle.second_form.specs.Dead.{dead_pair, is_dead}
use Rattle.both_forms.specs.Promises.{on_complement}
use Rattle.both_forms.specs.WorkedExamples.{arc}
use Rattle.both_forms.specs.Orders.{ArcOfMode, Apart, OrdersInBoth, lowers, watches, idles, OrderExamples}
use Rattle.second_form.proofs.Bounded.{bounded_at}
use Rattle.both_forms.proofs.ArcByArc.{in_at, arc-by-arc}
use Rattle.both_forms.proofs.Orders.{orders}

module _ (net : PNet) (wf : WellFormed net) where
  -- q is the pair p of the net, or the complement of p
  abbrev BelongsTo : ℕ → ℕ → Type 0
  BelongsTo q p = (p < pairs net) × ((q ≡ p) ⊎ ((k : ℕ) × (K net p ≡ fin k) × (q ≡ complement_pair (pairs net) (K net) p)))

  one_owner : (q q' p p' : ℕ) → q ≡ q' → BelongsTo q p → BelongsTo q' p' → p ≡ p'
  one_owner q q' p p' s (h, inl e) (h', inl e') = sym e ∙ s ∙ e'
  one_owner q q' p p' s (h, inl e) (h', inr r) = absurd (omega (arith, r.2))
  one_owner q q' p p' s (h, inr r) (h', inl e) = absurd (omega (arith, r.2))
  one_owner q q' p p' s (h, inr r) (h', inr r') =
      let number : bounded_below (K net) p ≡ bounded_below (K net) p' = omega (arith, r.2, r'.2) in
      sym (bounded_at (K net) (pairs net) p r.0 h r.1) ∙ rw number (bounded_at (K net) (pairs net) p' r'.0 h' r'.1)

  arc-inside : (a : NetArc) → Memᴰ a net.arcs → a.pair.0 < pairs net
  arc-inside a l = let k = in_at _ net.arcs l in rw k.2 (wf.each_arc k.0 k.1).pair

  -- an arc of the complement comes from an arc of its mode in the net, at the pair that its own belongs to
  comes_from : (t : Mode) (b : NetArc) → ArcOfMode (complement net) t b → (a : NetArc) × ArcOfMode net t a × BelongsTo b.pair.0 a.pair.0
  comes_from t b (l, e) =
      let r = (arc-by-arc net wf b).0 l in
      let a = r.1.0 in
      let inside = arc-inside a r.1.1 in
      ⊎_elim (λ is. (a, (r.1.1, rw is at e), (inside, inl (ap (λ x. x.pair.0) is))))
      (λ is. (a, (r.1.1, rw is at e), (inside, inr (go a (K net a.pair.0) refl is r.0))))
      r.1.2
    where
      go : (a : NetArc) (c : ℕ∞) → K net a.pair.0 ≡ c → b ≡ on_complement net a → ¬ Blank b.entry
          → (k : ℕ) × (K net a.pair.0 ≡ fin k) × (b.pair.0 ≡ complement_pair (pairs net) (K net) a.pair.0)
      go a (fin k) q is h = (k, q, ap (λ x. x.pair.0) is)
      go a ∞ q is h = absurd (h (rw (is, q) (record { pre = refl; post = refl; inhibitor = refl })))

  carries_over_lem : (t u : Mode) → Apart net t u → Apart (complement net) t u
  carries_over_lem t u apart b c l h e =
      let x = comes_from t b l in
      let y = comes_from u c h in
      apart x.0 y.0 x.1 y.1 (one_owner b.pair.0 c.pair.0 x.0.pair.0 y.0.pair.0 e x.2 y.2)

pub orders_in_both_lem : OrdersInBoth
orders_in_both_lem net wf t u = record { in_net = orders net t u; in_complement = orders (complement net) t u; carries_over = carries_over_lem net wf t u }

-- an arc of two
one_of : {a x y : NetArc} → Memᴰ a (x ∷ y ∷ []) → (a ≡ x) ⊎ (a ≡ y)
one_of l = ⊎_elim inl (λ h. ⊎_elim inr (λ k. absurd (Memᴰ.not-nil k)) (Memᴰ.cases_cons h)) (Memᴰ.cases_cons l)

lowers-apart : Apart lowers (mode_no 0) (mode_no 1)
lowers-apart a b (l, e) (h, f) q =
    ⊎_elim (λ x. ⊎_elim (λ y. omega (arith, rw y at f)) (λ y. omega (arith, rw (x, y) at q)) (one_of h)) (λ x. omega (arith, rw x at e)) (one_of l)

both-at_0 : (net : PNet) (x y : NetArc) → net.arcs ≡ x ∷ y ∷ [] → x.mode.0 ≡ 0 → y.mode.0 ≡ 1 → x.pair.0 ≡ y.pair.0 → ¬ Apart net (mode_no 0) (mode_no 1)
both-at_0 net x y is e f q apart = apart x y (rw is (Memᴰ.head refl), omega arith) (rw is (Memᴰ.tail (Memᴰ.head refl)), omega arith) q

idles-arcs : (complement idles).arcs ≡ arc 1 0 1 0 ∞ ∷ arc 1 2 0 1 ∞ ∷ []
unfolding complement arcs_of complement_row bounded joined entry_at is_dead dead_pair first ◌▸◌
idles-arcs = refl

idles-apart : Apart (complement idles) (mode_no 0) (mode_no 1)
idles-apart a b (l, e) h q = ⊎_elim (λ x. omega (arith, rw x at e)) (λ x. omega (arith, rw x at e)) (one_of (rw idles-arcs at l))

pub order_examples_lem : OrderExamples
unfolding run_from mode_refusal row_refusal rule_refusal fired marking_refusal ◌▸◌ first entry_at table
order_examples_lem =
    record {
      apart = lowers-apart;
      out_of_range = record { accepted = refl; refused = refl; at_pair = refl };
      untaken = refl;
      shared = both-at_0 watches _ _ refl refl refl refl;
      inhibitor_alone = record { accepted = refl; refused = refl; at_pair = refl };
      taken = refl;
      shared_in_net = both-at_0 idles _ _ refl refl refl refl;
      apart_in_complement = idles-apart;
    }
