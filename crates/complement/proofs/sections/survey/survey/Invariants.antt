-- Whether the arcs of the modes below t are clear; the entries of those modes are right.
use Prim.Native.Nat.{ℕ}
use mathlib.Core.Bool.{Bool}
use mathlib.Core.List.{List}
use Rattle.model.specs.Nets.{mode_no}
use Rattle.second_form.specs.Dead.{is_dead}
use mathlib.Core.Path.{◌≡◌}
use mathlib.Core.Bool.{false}
use lib.ListN.{length}
use Rattle.model.proofs.Tables.{Filled}
use Rattle.sheets.specs.Decoded.{net_of}
use Rattle.complement.proofs.sections.Surveys.{ClearBelow}
use Rattle.complement.proofs.sections.survey.survey.Given as goal

-- what entry t of the table says
abbrev pub IsDead : List ℕ → ℕ → Bool → Type 0
IsDead s t dead = dead ≡ is_dead (net_of s) (mode_no t)

abbrev pub invariant-loop-t : goal.invariant-loop-t
invariant-loop-t l = (length l.dead ≡ 256) × ClearBelow (net_of l.net.sheet.now) l.t l.clear × Filled (IsDead l.net.sheet.now) false l.dead l.t
