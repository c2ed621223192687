-- Dead modes by the test of a mode: what the model proves of dead and live modes, over an accepted sheet.
use Prim.Native.Nat.{ℕ, ◌<◌}
use mathlib.Core.Path.{◌≡◌, refl, ◌∙◌, ap}
use mathlib.Core.Bool.{Bool, true, false}
use mathlib.Core.List.{List}
use mathlib.Core.Option.{Option, none, some}
use native.Mathlib.Omega.{arith}
use borrow.Author.Tests.{leb-false}
use Rattle.model.specs.declared.Mode.{Mode}
use Rattle.model.specs.declared.Thing.TheVariants.{Argument}
use Rattle.model.specs.declared.Refusal.{Refusal}
use Rattle.model.specs.Nets.{pairs, modes, K, count, row}
use Rattle.second_form.specs.Dead.{is_dead, lowest_marking}
use Rattle.model.specs.WellFormed.{WellFormed}
use Rattle.model.proofs.First.{left-none, right-none, none_then, only_if_none}
use Rattle.model.proofs.Firing.{mode-there}
use Rattle.movement.proofs.Markings.{marking-test}
use Rattle.movement.proofs.Rooms.{allows_is}
use Rattle.second_form.proofs.Possible.{enabled-live, dead_or_live_lem}
use Rattle.sheets.specs.nets.Nets.{net_refusal}
use Rattle.sheets.specs.Whole.{whole_net}
use Rattle.sheets.specs.Decoded.{net_of}
use Rattle.sheets.proofs.Accepted.{well_formed_lem}
use Rattle.fire.specs.Calls.{test_refusal}
use Rattle.fire.proofs.Promises.{accepted-fire}
use Rattle.opened.specs.dead.IsDead.{told, deadness, dead_refusal, deadness_of}
use Rattle.opened.proofs.dead.Promises.{value-is}
use Rattle.promises.specs.LiveModes.{LiveModes}

-- a call that says no is accepted, and says it of a mode that is not dead
says_no : (o : Option Refusal) (dead : Bool) → (told (deadness o dead)).value ≡ some false → (o ≡ none) × (dead ≡ false)
says_no none true e = let z : ◌≡◌ {A = ℕ} 0 1 = cc in absurd (omega arith)
says_no none false e = (refl, refl)
says_no (some r) dead e = let z : ◌≡◌ {A = ℕ} 0 1 = cc in absurd (omega arith)

sheet-well_formed : (net : List ℕ) → whole_net net ≡ none → WellFormed (net_of net)
unfolding whole_net
sheet-well_formed net e = well_formed_lem net (left-none (net_refusal net) _ e)

module _ (net : List ℕ) (t : Mode) where
  no_tests : (told (deadness_of net t)).value ≡ some false → test_refusal net (lowest_marking (net_of net) t) t ≡ none
  unfolding dead_refusal test_refusal
  no_tests e =
      let no = says_no (dead_refusal net t) (is_dead (net_of net) t) e in
      let sheet = left-none (whole_net net) _ no.0 in
      let there : t.0 < modes (net_of net) = leb-false _ _ (only_if_none _ _ (right-none (whole_net net) _ no.0)) in
      let live = (dead_or_live_lem (net_of net) (sheet-well_formed net sheet) t).live no.1 there in
      none_then sheet (none_then ((marking-test (net_of net) _).1 live.0) (live.1 Argument))

  dead-accepted : whole_net net ≡ none → t.0 < modes (net_of net) → dead_refusal net t ≡ none
  unfolding dead_refusal
  dead-accepted sheet there = none_then sheet (mode-there Argument (modes (net_of net)) t there)

  tests_no : (marking : List ℕ) → test_refusal net marking t ≡ none → (told (deadness_of net t)).value ≡ some false
  tests_no marking e =
      let n = net_of net in
      let fires = (accepted-fire.exactly net marking t).0 e in
      value-is (is_dead (net_of net) t) (dead-accepted fires.sheet fires.there)
      ∙ ap some (enabled-live n t (count marking) (λ _. fires.marked.within) ((allows_is n.rule (pairs n) (K n) (row n t) (count marking)).1 fires.enabled))

pub live-modes : LiveModes
live-modes net t = record { exactly = (λ e. (lowest_marking (net_of net) t, no_tests net t e), λ r. tests_no net t r.0 r.1); lowest = no_tests net t }
