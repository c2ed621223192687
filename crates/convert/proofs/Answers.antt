-- The order of the refusals, and what an accepted conversion leaves.
use Rattle.std.specs.Prelude.{Err}
use Prim.Native.Nat.{ℕ, ◌≤◌, ◌<◌}
use mathlib.Core.Path.{◌≡◌, refl, sym, ◌∙◌}
use mathlib.Core.List.{List}
use mathlib.Core.Logic.{◌≢◌}
use mathlib.Core.Option.{Option, none, some}
use lib.ListN.{length}
use borrow.Author.Tests.{eq-eqb, ne_eqb, eqb-true, lt-ltb, le-ltb, not-false}
use native.Mathlib.Omega.{arith}
use Rattle.model.specs.declared.Thing.TheVariants.{Net}
use Rattle.model.specs.declared.Fault.TheVariants.{WrongVersion, NoRoom}
use Rattle.model.specs.declared.Refusal.{Refusal}
use Rattle.model.specs.declared.Version.{Version}
use Rattle.model.specs.declared.Version.TheVariants.{One, Two}
use Rattle.model.specs.declared.CapacityRule.{CapacityRule}
use Rattle.model.specs.declared.CapacityRule.TheVariants.{Strong, Weak}
use Rattle.model.specs.Refusals.{wrong}
use Rattle.model.proofs.First.{then_assoc, then-under, none_then, some_then, left-none, right-none, only_if_none}
use Rattle.heads.specs.Layout.{version}
use Rattle.heads.specs.Version.{version_of}
use Rattle.heads.specs.Checks.{head_refusal}
use Rattle.sheets.specs.nets.Nets.{net_refusal}
use Rattle.sheets.specs.Whole.{whole_net}
use Rattle.sheets.specs.Decoded.{net_of}
use Rattle.sheets.specs.written.Written.{version_number}
use Rattle.sheets.proofs.written.Versions.{version-is}
use Rattle.sheets.proofs.written.RoundTrip.{own-sheet}
use Rattle.convert.specs.Converted.{of_version, converted_sheet, lost_rule, open_refusal}

module _ (v : Version) (s : List ℕ) where
  -- a sheet of the version that is read, and one of another
  pub read-on : (head_refusal Net s ≡ none → version s ≡ version_number v) → of_version v s ≡ whole_net s
  unfolding of_version whole_net net_refusal
  read-on e =
      then-under (head_refusal Net s) (λ h. none_then (rw (eq-eqb (version s) (version_number v) (e h)) refl) refl) ∙ sym (then_assoc (head_refusal Net s) _ _)

  pub stops : head_refusal Net s ≡ none → version s ≢ version_number v → of_version v s ≡ some (wrong Net (WrongVersion 4))
  unfolding of_version
  stops h d = none_then h (some_then _ (rw (ne_eqb (version s) (version_number v) d) refl))

  -- what is read is a whole sheet of that version
  number_read : of_version v s ≡ none → version s ≡ version_number v
  unfolding of_version
  number_read e = eqb-true _ _ (not-false _ (only_if_none _ _ (left-none _ _ (right-none (head_refusal Net s) _ e))))

  pub read_whole : of_version v s ≡ none → whole_net s ≡ none
  read_whole e = sym (read-on (λ h. number_read e)) ∙ e

  pub read-version : of_version v s ≡ none → version_of s ≡ v
  read-version e = version-is v s (number_read e)

-- 23 is for version 1 and the weak rule alone, and what has been read of a version can be written in it
pub kept : (v : Version) (rule : CapacityRule) → lost_rule v rule ≡ none → v ≡ One → rule ≡ Strong
unfolding lost_rule
kept v Strong e q = refl
kept One Weak e q = let z : ◌≡◌ {A = ℕ} 0 1 = cc in absurd (omega arith)
kept Two Weak e q = let z : ◌≡◌ {A = ℕ} 0 1 = cc in absurd (omega arith)

pub own-rule : (v : Version) (s : List ℕ) → version_of s ≡ v → lost_rule v (net_of s).rule ≡ none
unfolding lost_rule
own-rule One s e = rw (own-sheet s e) refl
own-rule Two s e = refl

-- 10 where the rule is kept, and where there is room
module _ (target : Version) (s : List ℕ) {room : ℕ} where
  pub short : lost_rule target (net_of s).rule ≡ none → room < length (converted_sheet target s) → open_refusal target s room ≡ some (wrong Net NoRoom)
  unfolding open_refusal
  short k h = none_then k (rw (lt-ltb room (length (converted_sheet target s)) h) refl)

  pub roomy : lost_rule target (net_of s).rule ≡ none → length (converted_sheet target s) ≤ room → open_refusal target s room ≡ none
  unfolding open_refusal
  roomy k h = none_then k (rw (le-ltb room (length (converted_sheet target s)) h) refl)
