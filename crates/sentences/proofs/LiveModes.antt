-- Dead modes by the test of a mode: what the model proves of dead and live modes, over an accepted sheet.
use Rattle.std.specs.Prelude.{Result}
use Rattle.model.specs.Markings.{Marking}
use Rattle.opened.specs.dead.Allowed.{IsDeadAllows}
use Rattle.model.specs.Replies.{yields}
use mathlib.Core.Logic.{◌↔◌}
use Prim.Native.Nat.{ℕ, ◌<◌}
use mathlib.Core.Path.{◌≡◌, refl, ◌∙◌, ap, sym}
use mathlib.Core.Bool.{Bool, true, false}
use mathlib.Core.List.{List}
use mathlib.Core.Option.{Option, none, some}
use native.Mathlib.Omega.{arith}
use borrow.Author.Tests.{leb-false}
use Rattle.model.specs.declared.Mode.{Mode}
use Rattle.model.specs.declared.Thing.TheVariants.{Argument}
use Rattle.model.specs.declared.Refusal.{Refusal}
use Rattle.model.specs.Nets.{pairs, modes, K, count, row}
use Rattle.second_form.specs.Dead.{is_dead, lowest_marking}
use Rattle.model.specs.WellFormed.{WellFormed}
use Rattle.model.proofs.First.{left-none, right-none, none_then, only_if_none}
use Rattle.model.proofs.Firing.{mode-there}
use Rattle.movement.proofs.Markings.{marking-test}
use Rattle.movement.proofs.Rooms.{allows_is}
use Rattle.second_form.proofs.Possible.{enabled-live, dead_or_live_lem, dead-exactly}
use Rattle.sheets.specs.nets.Nets.{net_refusal}
use Rattle.sheets.specs.Whole.{whole_net}
use Rattle.sheets.specs.Decoded.{net_of}
use Rattle.sheets.proofs.Accepted.{well_formed_lem}
use Rattle.fire.specs.Calls.{test_refusal}
use Rattle.fire.proofs.Promises.{accepted-fire}
use Rattle.opened.specs.dead.IsDead.{told, deadness, dead_refusal, deadness_of}
use Rattle.opened.proofs.dead.Promises.{value-is}
use Rattle.sentences.specs.P2.{Satisfies}
use Rattle.sentences.specs.more.LiveModes.{LiveModes}
use Rattle.sentences.proofs.Outcomes.{test-accepts, accepts-test}
use Rattle.sentences.proofs.Demand2.{dead-accepted, told-dead}

-- a call that says no is accepted, and says it of a mode that is not dead
says_no : (o : Option Refusal) (dead : Bool) → (told (deadness o dead)).value ≡ some false → (o ≡ none) × (dead ≡ false)
says_no none true e = let z : ◌≡◌ {A = ℕ} 0 1 = cc in absurd (omega arith)
says_no none false e = (refl, refl)
says_no (some r) dead e = let z : ◌≡◌ {A = ℕ} 0 1 = cc in absurd (omega arith)

no-told : (o : Option Refusal) (dead : Bool) → (told (deadness o dead)).value ≡ some false → told (deadness o dead) ≡ yields false
no-told o dead e = let no = says_no o dead e in rw (no.0, no.1)

sheet-well_formed : (net : List ℕ) → whole_net net ≡ none → WellFormed (net_of net)
unfolding whole_net
sheet-well_formed net e = well_formed_lem net (left-none (net_refusal net) _ e)

module _ (net : List ℕ) (t : Mode) where
  no_tests : (told (deadness_of net t)).value ≡ some false → test_refusal net (lowest_marking (net_of net) t) t ≡ none
  unfolding dead_refusal test_refusal
  no_tests e =
      let no = says_no (dead_refusal net t) (is_dead (net_of net) t) e in
      let sheet = left-none (whole_net net) _ no.0 in
      let there : t.0 < modes (net_of net) = leb-false _ _ (only_if_none _ _ (right-none (whole_net net) _ no.0)) in
      let live = (dead_or_live_lem (net_of net) (sheet-well_formed net sheet) t).live no.1 there in
      none_then sheet (none_then ((marking-test (net_of net) _).1 live.0) (live.1 Argument))

  dead-none : whole_net net ≡ none → t.0 < modes (net_of net) → dead_refusal net t ≡ none
  unfolding dead_refusal
  dead-none sheet there = none_then sheet (mode-there Argument (modes (net_of net)) t there)

  tests_no : (marking : List ℕ) → test_refusal net marking t ≡ none → (told (deadness_of net t)).value ≡ some false
  tests_no marking e =
      let n = net_of net in
      let fires = (accepted-fire.exactly net marking t).0 e in
      value-is (is_dead (net_of net) t) (dead-none fires.sheet fires.there)
      ∙ ap some (enabled-live n t (count marking) (λ _. fires.marked.within) ((allows_is n.rule (pairs n) (K n) (row n t) (count marking)).1 fires.enabled))

pub live-exactly : LiveModes
live-exactly net t d h = (
  λ e. (lowest_marking (net_of net) t, test-accepts net _ t (no_tests net t (ap (λ d. (told d).value) (sym h) ∙ ap (λ r. r.value) e))),
  λ r. ap told h ∙ no-told (dead_refusal net t) (is_dead (net_of net) t) (tests_no net t r.0 (accepts-test net r.0 t r.1)),
)

pub dead-exactly-told : (net : List ℕ) (t : Mode) (d : Result Bool Refusal) → IsDeadAllows net t d → (told d).carried.number ≡ 0
    → (told d ≡ yields true) ↔ ((m : List ℕ) → Marking (net_of net) m → ¬ Satisfies net t m)
unfolding dead_refusal
dead-exactly-told net t d h z =
    let wf = sheet-well_formed net (left-none (whole_net net) _ (dead-accepted net t d h z)) in
    let exactly = dead-exactly (net_of net) wf t in
    (λ e. exactly.0 ((told-dead net t d h z).0 e), λ no. (told-dead net t d h z).1 (exactly.1 no))
