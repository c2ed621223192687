-- Dead modes of a net in its complement: what the model proves, over the sheets.
use Rattle.second_form.specs.Complement.{Corresponds}
use Rattle.model.specs.Markings.{marking_refusal}
use Rattle.model.specs.Replies.{yields}
use Prim.Native.Nat.{ℕ, ◌<◌}
use mathlib.Core.Path.{◌≡◌, refl, ◌∙◌, ap, sym}
use mathlib.Core.Bool.{Bool, true, false}
use mathlib.Core.List.{List}
use mathlib.Core.Option.{Option, none, some}
use native.Mathlib.Omega.{arith}
use borrow.Author.Tests.{leb-false}
use Rattle.model.specs.declared.Mode.{Mode}
use Rattle.model.specs.declared.Thing.TheVariants.{Argument}
use Rattle.model.specs.declared.Refusal.{Refusal}
use Rattle.model.specs.Refusals.{answer, number}
use Rattle.model.specs.Nets.{modes}
use Rattle.model.specs.Firing.{mode_refusal}
use Rattle.second_form.specs.Dead.{is_dead}
use Rattle.model.proofs.First.{right-none, none_then, only_if_none}
use Rattle.second_form.proofs.DeadComplement.{dead_in_complement_lem}
use Rattle.sheets.specs.Whole.{whole_net}
use Rattle.sheets.specs.Decoded.{net_of}
use Rattle.fire.specs.Calls.{test_refusal}
use Rattle.opened.specs.dead.IsDead.{told, deadness, dead_refusal, deadness_of}
use Rattle.movement.proofs.Markings.{marking-test}
use Rattle.opened.specs.dead.FirstDead as first
use Rattle.opened.specs.dead.FirstDead.{first_dead_of}
use Rattle.sentences.specs.Wrote.{ComplementWrote}
use Rattle.sentences.specs.P4.{DeadBeside}
use Rattle.sentences.proofs.Written.{can-complement, sheet-whole, sheet-same}
use Rattle.sentences.proofs.TwoRuns.{marking-beside}

-- Dead modes of a net in its complement, by the calls: the complement as the complementing call wrote it.
pub record DeadMatch (net complement : List ℕ) : Type 0 where
  -- `first_dead` names none in the complement
  pub nowhere : first.told (first_dead_of complement) ≡ yields none
  -- a mode of which `is_dead` says yes in the net, `test` refuses by 11 at every corresponding marking of the complement
  pub refused : (t : Mode) → (told (deadness_of net t)).value ≡ some true → (marking marking' : List ℕ)
      → marking_refusal (net_of net) marking ≡ none → Corresponds (net_of net) marking marking' → number (answer (test_refusal complement marking' t)) ≡ 11

-- a call that says yes is accepted, and says it of a dead mode
says_yes : (o : Option Refusal) (dead : Bool) → (told (deadness o dead)).value ≡ some true → (o ≡ none) × (dead ≡ true)
says_yes none true e = (refl, refl)
says_yes none false e = let z : ◌≡◌ {A = ℕ} 0 1 = cc in absurd (omega arith)
says_yes (some r) dead e = let z : ◌≡◌ {A = ℕ} 0 1 = cc in absurd (omega arith)

pub dead-there : (net : List ℕ) (t : Mode) → (told (deadness_of net t)).value ≡ some true → (t.0 < modes (net_of net)) × (is_dead (net_of net) t ≡ true)
unfolding dead_refusal
dead-there net t e =
    let yes = says_yes (dead_refusal net t) (is_dead (net_of net) t) e in
    (leb-false _ _ (only_if_none _ _ (right-none (whole_net net) _ yes.0)), yes.1)

pub dead-match : (net sheet : List ℕ) → ComplementWrote net sheet → DeadMatch net sheet
unfolding test_refusal
dead-match net sheet w =
    let c = can-complement net sheet w in
    let same = sheet-same net sheet w in
    record {
      nowhere = rw (sheet-whole net sheet w, same, dead_in_complement_lem.nowhere (net_of net));
      refused = λ t says m m' a h.
          let dead = dead-there net t says in
          ap (λ o. number (answer o))
          (none_then (sheet-whole net sheet w) (none_then (marking-beside net sheet m m' c same a h) refl) ∙ ap (λ other. mode_refusal Argument other t m') same)
          ∙ dead_in_complement_lem.refused (net_of net) c t dead.0 dead.1 Argument m m' h;
    }

pub dead-beside : (net sheet : List ℕ) → ComplementWrote net sheet → DeadBeside net sheet
dead-beside net sheet w =
    let match = dead-match net sheet w in
    record {
      nowhere = λ d h. ap first.told h ∙ match.nowhere;
      by11 = λ t d h yes m m' k c a t'.
          ap number t' ∙ match.refused t (ap (λ d. (told d).value) (sym h) ∙ ap (λ r. r.value) yes) m m' ((marking-test (net_of net) m).1 k) c;
    }
