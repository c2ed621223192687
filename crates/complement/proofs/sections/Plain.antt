-- An arc within its bounds makes its mode dead by no rule, and one that 15 does not stop is clear.
use Prim.Native.Nat.{ℕ, ◌+◌, ◌≤◌}
use mathlib.Core.Path.{◌≡◌, refl, sym, ◌∙◌, ap}
use mathlib.Core.Bool.{Bool, true, false, not, ◌&&◌}
use mathlib.Core.List.{List}
use native.Mathlib.Omega.{arith}
use Rattle.model.specs.declared.CapacityRule.TheVariants.{Strong}
use Rattle.model.specs.declared.Arc.{Arc}
use Rattle.model.specs.Numbers.{◌≤∞◌, least_of, less_than}
use Rattle.model.specs.Nets.{K}
use Rattle.second_form.specs.Dead.{kills}
use Rattle.second_form.specs.Complement.{finite}
use Rattle.model.proofs.Numbers.{false_above, below-least-of}
use Rattle.second_form.proofs.Dead.{arc_kills}
use Rattle.fields.specs.Numbers.{bound}
use Rattle.fields.proofs.Bounds.{by-bound}
use Rattle.sheets.specs.Decoded.{net_of, net_arc}
use Rattle.opened.specs.declared.shape.NetShape.{NetShape}
use Rattle.opened.specs.Shape.{ArcIs}
use Rattle.opened.proofs.dead.Bounds.{spared}
use Rattle.opened.proofs.dead.Searches.{arc-kills}
use Rattle.complement.specs.sections.Arcs.{clear_at}
use Rattle.complement.proofs.sections.Read.{inhibits_is}

within : (n k : ℕ) → n ≤ k → n ≤∞ bound k
within n k h = by-bound (λ b. n ≤∞ b) k (λ _. tt) h

within-less : (pre post k : ℕ) → pre + post ≤ k → pre ≤∞ less_than (bound k) post
within-less pre post k h = by-bound (λ b. pre ≤∞ less_than b post) k (λ _. tt) (omega arith)

pub bounds_spare : (pre post i k : ℕ) → pre ≤ i → pre + post ≤ k → kills Strong (record { pre = pre; post = post; inhibitor = bound i }) (bound k) ≡ false
bounds_spare pre post i k h l =
    let low = (below-least-of pre (less_than (bound k) post) (bound i)).1 (within-less pre post k l, within pre i h) in
    rw (false_above pre (least_of (less_than (bound k) post) (bound i)) low, false_above post (bound k) (within post k (omega arith)))

pub none_where_finite : (i k : Bool) → k ≡ true → i && not k ≡ false
none_where_finite true k e = ap not e
none_where_finite false k e = refl

module _ {s : List ℕ} {net : NetShape} {k : ℕ} {a : Arc} (read : ArcIs s net k a) (c : ℕ) (e : bound c ≡ K (net_of s) a.pair.0) where
  pub plain_passes : kills Strong (net_arc a).entry (bound c) ≡ false → arc_kills (net_of s) k ≡ false
  plain_passes p = sym (arc-kills read (sym (spared (net_of s).rule (net_arc a).entry (K (net_of s) a.pair.0) (rw e at p))))

  pub plain_clear : finite (bound a.inhibitor) && not (finite (bound c)) ≡ false → true ≡ clear_at (net_of s) k
  unfolding clear_at
  plain_clear p = sym (ap not (inhibits_is read refl refl ∙ rw e at p))
