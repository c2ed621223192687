-- Dead modes by the test of a mode, 14 included: `is_dead` says no exactly where `test` accepts the mode at some marking.
use Rattle.model.specs.declared.Refusal.{Refusal}
use Rattle.std.specs.Prelude.{ℕ, ◌≡◌, false, List, ◌↔◌, Result, Bool}
use Rattle.model.specs.declared.Mode.{Mode}
use Rattle.model.specs.Replies.{yields}
use Rattle.opened.specs.dead.IsDead.{told}
use Rattle.opened.specs.dead.Allowed.{IsDeadAllows}
use Rattle.sentences.specs.Calls.{Public}
use Rattle.sentences.specs.Outcomes.{Accepts}

abbrev pub LiveModes : Type 0
LiveModes = (net : List ℕ) (t : Mode) (d : Result Bool Refusal) → IsDeadAllows net t d → (told d ≡ yields false) ↔ ((m : List ℕ) × Accepts Public.test (net, m, t))
