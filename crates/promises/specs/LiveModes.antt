-- Dead modes by the test of a mode: `is_dead` says no exactly where `test` accepts the mode at some marking.
use Rattle.std.specs.Prelude.{ℕ, ◌≡◌, false, List, ◌↔◌}
use Rattle.std.proofs.Math.Option.{none, some}
use Rattle.model.specs.declared.Mode.{Mode}
use Rattle.second_form.specs.Dead.{lowest_marking}
use Rattle.sheets.specs.Decoded.{net_of}
use Rattle.fire.specs.Calls.{test_refusal}
use Rattle.opened.specs.dead.IsDead.{told, deadness_of}

module _ (net : List ℕ) (t : Mode) where
  abbrev SaysNo : Type 0
  SaysNo = (told (deadness_of net t)).value ≡ some false

  -- the marking of its Pre is one
  pub record LiveByTest : Type 0 where
    pub exactly : SaysNo ↔ ((marking : List ℕ) × (test_refusal net marking t ≡ none))
    pub lowest : SaysNo → test_refusal net (lowest_marking (net_of net) t) t ≡ none

abbrev pub LiveModes : Type 0
LiveModes = (net : List ℕ) (t : Mode) → LiveByTest net t
