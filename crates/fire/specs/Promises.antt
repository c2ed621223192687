-- What is promised of begin, test and fire. Each statement is a type; docs/ARCHITECTURE.md names the one term of proofs/ that has it.
use Rattle.std.specs.Prelude.{ℕ, ◌≤◌, ◌<◌, ◌≡◌, List, ◌↔◌, length}
use Rattle.std.proofs.Math.Option.{none}
use Rattle.model.specs.declared.Mode.{Mode}
use Rattle.model.specs.Numbers.{limit}
use Rattle.model.specs.Nets.{pairs, modes, K, count, row}
use Rattle.model.specs.Billington.{Follows}
use Rattle.model.specs.Allows.{Allows}
use Rattle.model.specs.Markings.{Marking, marking_refusal}
use Rattle.model.specs.Firing.{fired}
use Rattle.sheets.specs.Whole.{whole_net}
use Rattle.sheets.specs.Decoded.{net_of}
use Rattle.fire.specs.Calls.{begin_refusal, begun, test_refusal, fired_by}

-- an accepted begin writes the net's first marking
abbrev pub AcceptedBegin : Type 0
AcceptedBegin = (net marking : List ℕ) → begin_refusal net marking ≡ none → begun net marking ≡ (net_of net).start

-- test and fire accept exactly where the net and the marking are accepted, the mode is there, the net's rule allows it, and no new count is above 1,000,000
pub record Fires (net marking : List ℕ) (t : Mode) : Type 0 where
  pub sheet : whole_net net ≡ none
  pub marked : Marking (net_of net) marking
  pub there : t.0 < modes (net_of net)
  pub enabled : Allows (net_of net).rule (pairs (net_of net)) (K (net_of net)) (row (net_of net) t) (count marking)
  pub within : (p : ℕ) → p < pairs (net_of net) → count (fired (net_of net) t marking) p ≤ limit

-- an accepted fire leaves the marking that follows from the one found
pub record AcceptedFire : Type 0 where
  pub exactly : (net marking : List ℕ) (t : Mode) → (test_refusal net marking t ≡ none) ↔ Fires net marking t
  pub leaves : (net marking : List ℕ) (t : Mode) → test_refusal net marking t ≡ none
      → Follows (pairs (net_of net)) (row (net_of net) t) (count marking) (count (fired_by net marking t)) × (length (fired_by net marking t) ≡ pairs (net_of net))

-- begin gives a marking that the marking's test accepts, and fire keeps it one
pub record MarkingStays : Type 0 where
  pub begins : (net marking : List ℕ) → begin_refusal net marking ≡ none → marking_refusal (net_of net) (begun net marking) ≡ none
  pub fires : (net marking : List ℕ) (t : Mode) → marking_refusal (net_of net) marking ≡ none → marking_refusal (net_of net) (fired_by net marking t) ≡ none
