-- Dead modes of a net in its complement: what the model proves, over the sheets.
use Prim.Native.Nat.{ℕ, ◌<◌}
use mathlib.Core.Path.{◌≡◌, refl, ◌∙◌, ap}
use mathlib.Core.Bool.{Bool, true, false}
use mathlib.Core.List.{List}
use mathlib.Core.Option.{Option, none, some}
use lib.ListN.{length}
use native.Mathlib.Omega.{arith}
use borrow.Author.Tests.{leb-false}
use Rattle.model.specs.declared.Mode.{Mode}
use Rattle.model.specs.declared.Thing.TheVariants.{Argument}
use Rattle.model.specs.declared.Refusal.{Refusal}
use Rattle.model.specs.Refusals.{answer, number}
use Rattle.model.specs.Nets.{modes}
use Rattle.model.specs.Firing.{mode_refusal}
use Rattle.second_form.specs.Dead.{is_dead}
use Rattle.model.proofs.First.{right-none, none_then, only_if_none}
use Rattle.second_form.proofs.DeadComplement.{dead_in_complement_lem}
use Rattle.sheets.specs.Whole.{whole_net}
use Rattle.sheets.specs.Decoded.{net_of}
use Rattle.fire.specs.Calls.{test_refusal}
use Rattle.opened.specs.dead.IsDead.{told, deadness, dead_refusal, deadness_of}
use Rattle.complement.specs.Complemented.{complementing_refusal}
use Rattle.promises.specs.DemandThree.{as_written}
use Rattle.promises.specs.DeadAsWritten.{DeadAsWritten}
use Rattle.promises.proofs.DemandThree.{complementable}
use Rattle.promises.proofs.TwoRuns.{length-accepted, written, marking-beside}

-- a call that says yes is accepted, and says it of a dead mode
says_yes : (o : Option Refusal) (dead : Bool) → (told (deadness o dead)).value ≡ some true → (o ≡ none) × (dead ≡ true)
says_yes none true e = (refl, refl)
says_yes none false e = let z : ◌≡◌ {A = ℕ} 0 1 = cc in absurd (omega arith)
says_yes (some r) dead e = let z : ◌≡◌ {A = ℕ} 0 1 = cc in absurd (omega arith)

pub dead-there : (net : List ℕ) (t : Mode) → (told (deadness_of net t)).value ≡ some true → (t.0 < modes (net_of net)) × (is_dead (net_of net) t ≡ true)
unfolding dead_refusal
dead-there net t e =
    let yes = says_yes (dead_refusal net t) (is_dead (net_of net) t) e in
    (leb-false _ _ (only_if_none _ _ (right-none (whole_net net) _ yes.0)), yes.1)

pub dead_as_written_lem : DeadAsWritten
unfolding test_refusal
dead_as_written_lem net out n e =
    let q = length-accepted (complementing_refusal net (length out)) _ e in
    let c = complementable net (length out) q in
    let w = written net out q e in
    let sheet = as_written net out n in
    record {
      nowhere = rw (w.reads_back, w.same, dead_in_complement_lem.nowhere (net_of net));
      refused = λ t says marking marking' a h.
          let dead = dead-there net t says in
          ap (λ o. number (answer o))
          (none_then w.reads_back (none_then (marking-beside net sheet marking marking' c w.same a h) refl)
          ∙ ap (λ other. mode_refusal Argument other t marking') w.same)
          ∙ dead_in_complement_lem.refused (net_of net) c t dead.0 dead.1 Argument marking marking' h;
    }
