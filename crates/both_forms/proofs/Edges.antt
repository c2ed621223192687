-- The starred cases of document 01: one table, one theorem.
use Prim.Native.Nat.{ℕ, ◌<◌, max}
use mathlib.Core.Path.{◌≡◌, refl, sym, ◌∙◌, ap}
use mathlib.Core.List.{[]}
use mathlib.Core.Logic.{⊎_elim}
use mathlib.Core.Option.{Option, some}
use native.Mathlib.Omega.{arith}
use Rattle.model.specs.declared.Thing.TheVariants.{Argument}
use Rattle.model.specs.declared.Why.TheVariants.{Lacking}
use Rattle.model.specs.declared.Refusal.{Refusal}
use Rattle.model.specs.First.{◌▸◌, first}
use Rattle.model.specs.Refusals.{answer, number}
use Rattle.model.specs.Numbers.{ℕ∞, fin, ∞}
use Rattle.model.specs.Rows.{Row, Capacities, Counts}
use Rattle.model.specs.Firing.{rule_refusal, row_refusal, mode_refusal}
use Rattle.model.specs.Nets.{mode_no, K, entry_at, row}
use Rattle.second_form.specs.Dead.{dead_pair, is_dead}
use Rattle.second_form.specs.Complement.{bounded, reserve, complement_row, new_places, arcs_of, complement, refusal15, sheet_limits, complement_refusal}
use Rattle.model.specs.Lists.{joined}
use Rattle.movement.specs.Promises.{stays}
use Rattle.both_forms.specs.Edges.{answer_at, number_at, edges, complement_gives, edge_net, Edges}
use Rattle.model.proofs.Firing.{Low, No, row11, row12, find-stop}
use Rattle.second_form.proofs.ComplementRow.{reserve-is, row-complement}
use Rattle.second_form.proofs.ComplementNet.{rows-complement}
use Rattle.movement.proofs.Runs.{certificates}

-- Post above K is found at pair 0, unless the count is lacking there
never : (i : ℕ∞) (pre m : ℕ) → ¬ (number_at (fin 5) i pre 6 m ≡ 0)
unfolding answer_at
never i pre m e =
    ⊎_elim (λ (r : (p : ℕ) × Low Argument 1 k six M Lacking p). clash 11 (row11 Argument 1 k six M r.0 r.1) refl (omega arith))
    (λ (a : No Argument 1 k six M Lacking).
    clash 12 (row12 Argument 1 k six M 0 a (record { below = omega arith; holds = omega arith; none_lower = λ j l. absurd (omega arith) })) refl
    (omega arith))
    (find-stop Argument 1 k six M Lacking)
  where
    k : Capacities
    k p = fin 5

    six : Row
    six p = record { pre = pre; post = 6; inhibitor = i }

    M : Counts
    M p = m

    clash : (n : ℕ) {r : Refusal} → row_refusal Argument 1 k six M ≡ some r → number (answer (some r)) ≡ n → 0 < n → ⊥
    clash n f g h = let z : n ≡ 0 = sym g ∙ sym (ap (λ (o : Option Refusal). number (answer o)) f) ∙ e in omega arith

-- K less I is at most 5
pre-six : (i : ℕ∞) (pre : ℕ) → (row (complement (edge_net 5 i pre 6)) (mode_no 0) 1).pre ≡ 6
unfolding bounded joined entry_at
pre-six i pre =
    let net = edge_net 5 i pre 6 in
    ap (λ e. e.pre)
    (rows-complement net (mode_no 0) 1 (omega arith) (omega arith)
    ∙ row-complement net.rule (is_dead net (mode_no 0)) 1 (K net) (row net (mode_no 0)) 0 5 (omega arith) refl)
    ∙ larger i
  where
    larger : (i : ℕ∞) → max 6 (reserve 5 i) ≡ 6
    larger (fin i) = rw reserve-is (omega arith)
    larger ∞ = refl

pub starred : Edges
unfolding answer_at edges mode_refusal row_refusal rule_refusal ◌▸◌ first complement_gives complement_refusal refusal15 dead_pair is_dead sheet_limits complement arcs_of new_places complement_row bounded joined entry_at
starred =
    record {
      answers = refl;
      amounts = refl;
      larger_amount = (refl, refl);
      never = never;
      pre_six = pre-six;
      pre_six_accepted = refl;
      post_most = refl;
      post_above = refl;
      empty = λ net each. (certificates net [] net.start each).1 stays;
    }
