-- Demand 3: a net and its complement run alike.
use Prim.Native.Nat.{ℕ, ◌+◌, ◌≤◌, ◌<◌}
use mathlib.Core.Path.{◌≡◌, refl, sym, ◌∙◌, ap}
use mathlib.Core.List.{List, [], ◌∷◌}
use mathlib.Core.Logic.{⊎_elim}
use mathlib.Core.Option.{Option, none, some, none-ne-some}
use lib.ListN.{length, take, get_or}
use borrow.Author.Tests.{not-false}
use native.Mathlib.Omega.{arith}
use Rattle.model.specs.declared.Mode.{Mode}
use Rattle.model.specs.declared.Thing.TheVariants.{Movements}
use Rattle.model.specs.declared.Refusal.{Refusal}
use Rattle.model.specs.Nets.{PNet, mode_no}
use Rattle.model.specs.WellFormed.{WellFormed}
use Rattle.model.specs.Firing.{mode_refusal, fired}
use Rattle.movement.specs.Runs.{Outcome, go_on, run_from, run}
use Rattle.second_form.specs.Complement.{complement, refusal15, sheet_limits, complement_refusal, Corresponds}
use Rattle.second_form.specs.DemandThree.{becomes, Agreement, Demand3}
use Rattle.model.proofs.First.{below_or, left-none, right-none, only_if_none}
use Rattle.movement.proofs.Runs.{runs}
use Rattle.second_form.proofs.ComplementNet.{start-corresponds}
use Rattle.second_form.proofs.ComplementWellFormed.{complement-well_formed}
use Rattle.second_form.proofs.CorrespondingMoves.{step, accepts, accepts-back, move_corresponds}

-- two runs from corresponding markings: as many are accepted, and the markings left correspond
pub record Alike (net : PNet) (o o' : Outcome) : Type 0 where
  pub accepted : o'.accepted ≡ o.accepted
  pub marking : Corresponds net o.marking o'.marking

module _ (net : PNet) (wf : WellFormed net) (offset : ℕ → ℕ) (no15 : refusal15 offset net ≡ none) where
  pub alike : (k : ℕ) (ts : List Mode) (m m' : List ℕ) → Corresponds net m m' → Alike net (run_from net k ts m) (run_from (complement net) k ts m')
  unfolding run_from
  alike k [] m m' c = record { accepted = refl; marking = c }
  alike k (t ∷ ts) m m' c =
      go (mode_refusal Movements net t m) (mode_refusal Movements (complement net) t m') refl refl
      (alike (k + 1) ts (fired net t m) (fired (complement net) t m'))
    where
      rest : Outcome
      rest = run_from net (k + 1) ts (fired net t m)

      rest' : Outcome
      rest' = run_from (complement net) (k + 1) ts (fired (complement net) t m')

      go : (o o' : Option Refusal) → mode_refusal Movements net t m ≡ o → mode_refusal Movements (complement net) t m' ≡ o'
          → (Corresponds net (fired net t m) (fired (complement net) t m') → Alike net rest rest')
          → Alike net (go_on o k m rest) (go_on o' k m' rest')
      go none none e e' next = next (move_corresponds net wf offset no15 Movements t m m' c e)
      go none (some r) e e' next = absurd (none-ne-some r (sym (accepts net wf offset no15 Movements t m m' c e) ∙ e'))
      go (some r) none e e' next = absurd (none-ne-some r (sym (accepts-back net wf offset no15 Movements t m m' c e') ∙ e))
      go (some r) (some s) e e' next = record { accepted = refl; marking = c }

  -- two runs of one list from corresponding markings
  module _ (ts : List Mode) (m m' : List ℕ) (c : Corresponds net m m') where
    abbrev o : Outcome
    o = run net ts m

    abbrev o' : Outcome
    o' = run (complement net) ts m'

    pub runs-alike : Alike net o o'
    runs-alike = alike 0 ts m m' c

    pub refusals : o'.refusal ≡ becomes Movements net (get_or ts o.accepted (mode_no 0)) o.marking o.refusal
    unfolding becomes
    refusals =
        let both = runs-alike in
        let r = runs net ts m in
        let r' = runs (complement net) ts m' in
        ⊎_elim
        (λ (h : o.accepted < length ts).
        let t = get_or ts o.accepted (mode_no 0) in
        r'.refused (rw both.accepted h)
        ∙ rw both.accepted (step net wf offset no15 Movements t o.marking o'.marking both.marking)
        ∙ ap (becomes Movements net t o.marking) (sym (r.refused h)))
        (λ (h : length ts ≤ o.accepted).
        let end : o.accepted ≡ length ts = omega (arith, r.part) in
        r'.whole.1 (both.accepted ∙ end) ∙ rw (r.whole.1 end))
        (below_or o.accepted (length ts))

  agreement : (ts : List Mode) → Agreement net ts
  agreement ts =
      let c = start-corresponds net wf in
      record {
        accepted = (runs-alike ts _ _ c).accepted;
        refusal = refusals ts _ _ c;
        agree = λ j h. (runs-alike (take j ts) _ _ c).marking;
      }

pub demand3 : Demand3
unfolding complement_refusal
demand3 net c =
    record {
      is_net =
          complement-well_formed net c.well_formed
          (not-false (sheet_limits net) (only_if_none _ _ (right-none (refusal15 c.offset net) _ c.accepted)));
      runs = agreement net c.well_formed c.offset (left-none (refusal15 c.offset net) _ c.accepted);
    }
