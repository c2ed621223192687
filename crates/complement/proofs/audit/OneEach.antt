-- Whether each marking has one count for each pair.
use Prim.Native.Nat.{ℕ}
use mathlib.Core.Path.{◌≡◌, sym, ◌∙◌, ap}
use mathlib.Core.Bool.{true, false, not}
use mathlib.Core.List.{List}
use mathlib.Core.Option.{none}
use lib.Dec.{eqb}
use lib.ListN.{length}
use borrow.Author.Tests.{eqb-true, eq-eqb, ne_eqb, not-false}
use Rattle.model.specs.Nets.{PNet, pairs}
use Rattle.second_form.specs.Complement.{complement}
use Rattle.both_forms.specs.Audit.{audit_refusal}
use Rattle.model.proofs.First.{left-none, right-none, only_if_none}
use Rattle.complement.specs.audit.Parts.{OneEach}

-- a length compared with a number of pairs that a look into the net gave
module _ {n given right : ℕ} (e : given ≡ right) where
  pub same_length : n ≡ given → not (eqb n right) ≡ false
  same_length q = ap not (eq-eqb n right (q ∙ e))

  pub other_length : (n ≡ given → ⊥) → not (eqb n right) ≡ true
  other_length q = ap not (ne_eqb n right (λ r. q (r ∙ sym e)))

-- no 17: as many counts as pairs
pub one_each_lem : (net : PNet) (marking beside : List ℕ) (offset : ℕ → ℕ) → audit_refusal net marking beside offset ≡ none → OneEach net marking beside
unfolding audit_refusal
one_each_lem net marking beside offset e =
    let later = right-none _ _ e in
    record {
      here = eqb-true (length marking) (pairs net) (not-false _ (only_if_none _ _ (left-none _ _ later)));
      there = eqb-true (length beside) (pairs (complement net)) (not-false _ (only_if_none _ _ (right-none _ _ later)));
    }
