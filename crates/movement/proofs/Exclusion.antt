-- Weights whose figure every mode keeps: it is constant over any list, so no list leads to a claim of another figure.
use Prim.Native.Nat.{ℕ}
use mathlib.Core.Path.{◌≡◌, refl, sym, ◌∙◌, ap}
use mathlib.Core.Bool.{Bool, true, false, false≢true, not}
use mathlib.Core.List.{List}
use mathlib.Core.Logic.{◌↔◌, ◌≢◌}
use mathlib.Core.Option.{none, some-ne-none}
use lib.IntN.{ℤ, pos, negsuc, pos-ne-negsuc, nat_abs, +ℤ_idr}
use native.Mathlib.Omega.{arith}
use Rattle.model.specs.declared.Mode.{Mode}
use Rattle.model.specs.declared.Thing.TheVariants.{Movements}
use Rattle.model.specs.First.{only_if}
use Rattle.model.specs.Nets.{PNet, modes, mode_no}
use Rattle.movement.specs.Figures.{figure, change, changes}
use Rattle.movement.specs.Promises.{Leads, stays, moves}
use Rattle.movement.specs.Exclusion.{equal, unbalanced_at, same_figure, claim_refusal, Balanced, ClaimAccepted, FigureConstant, OutOfReach}
use Rattle.model.proofs.Decisions.{Decided, by_equal, by-other}
use Rattle.model.proofs.First.{left-none, right-none, none_then, first-each, first-all}
use Rattle.model.proofs.Firing.{accepted-there}
use Rattle.movement.proofs.Figures.{figure-leads}

pub by-same : (a b : ℤ) → Decided (equal a b) (a ≡ b)
by-same (pos a) (pos b) = by-other (by_equal a b) (ap pos) (ap nat_abs)
by-same (pos a) (negsuc b) = record { sound = λ e. absurd (false≢true e); complete = λ q. absurd (pos-ne-negsuc a b q) }
by-same (negsuc a) (pos b) = record { sound = λ e. absurd (false≢true e); complete = λ q. absurd (pos-ne-negsuc b a (sym q)) }
by-same (negsuc a) (negsuc b) = by-other (by_equal a b) (ap negsuc) (λ q. let e : nat_abs (negsuc a) ≡ nat_abs (negsuc b) = ap nat_abs q in omega arith)

-- what is refused where P holds, and what is refused where it does not, is accepted elsewhere
module _ {A : Type 0} {test : Bool} {P : Type 0} (d : Decided test P) (a : A) where
  accepts-other : (only_if test a ≡ none) ↔ (¬ P)
  accepts-other = go test d
    where
      go : (t : Bool) → Decided t P → (only_if t a ≡ none) ↔ (¬ P)
      go true e = (λ q. absurd (some-ne-none a q), λ h. absurd (h (e.sound refl)))
      go false e = (λ q p. false≢true (e.complete p), λ h. refl)

  accepts_such : (only_if (not test) a ≡ none) ↔ P
  accepts_such = go test d
    where
      go : (t : Bool) → Decided t P → (only_if (not t) a ≡ none) ↔ P
      go true e = (λ q. e.sound refl, λ p. refl)
      go false e = (λ q. absurd (some-ne-none a q), λ p. absurd (false≢true (e.complete p)))

module _ (net : PNet) (weights : List ℤ) where
  balance : (t : ℕ) → (unbalanced_at net weights t ≡ none) ↔ (change net weights (mode_no t) ≡ pos 0)
  balance t = accepts_such (by-same (change net weights (mode_no t)) (pos 0)) _

  differs : (claim : List ℕ) → (same_figure net weights claim ≡ none) ↔ (figure net weights claim ≢ figure net weights net.start)
  unfolding same_figure
  differs claim = accepts-other (by-same (figure net weights claim) (figure net weights net.start)) _

pub claim-accepted : ClaimAccepted
unfolding claim_refusal
claim-accepted net weights claim = (
  λ e. (
    λ t h. (balance net weights t.0).0 (first-each (modes net) _ (left-none _ _ e) t.0 h),
    (differs net weights claim).0 (right-none _ _ e),
  ),
  λ b. none_then (first-all (modes net) _ (λ t h. (balance net weights t).1 (b.0 (mode_no t) h))) ((differs net weights claim).1 b.1),
)

-- balanced changes add up to 0 along any list that leads somewhere
changes-none : (net : PNet) (weights : List ℤ) → Balanced net weights → {ts : List Mode} {m m' : List ℕ} → Leads net ts m m'
    → changes net weights ts ≡ pos 0
unfolding changes
changes-none net weights b stays = refl
changes-none net weights b (moves {t = t} {m = m} e l) = rw (b t (accepted-there Movements net t m e), changes-none net weights b l)

pub figure-constant : FigureConstant
figure-constant net weights ts m m' b l = figure-leads net weights l ∙ rw (changes-none net weights b l) (+ℤ_idr (figure net weights m))

pub out-of-reach : OutOfReach
out-of-reach net weights claim e ts l =
    let accepted = (claim-accepted net weights claim).0 e in
    accepted.1 (figure-constant net weights ts net.start claim accepted.0 l)
