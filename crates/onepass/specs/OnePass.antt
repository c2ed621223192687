-- Firing a mode in one pass: each of its arcs is tested and, where it lets the mode pass, written at once.
-- A reader of the promises may skip this file.
use Rattle.std.specs.Prelude.{ℕ, zero, suc, ◌+◌, ◌≤◌, ◌<◌, ◌≡◌, Bool, true, cond, ◌↔◌, List}
use Rattle.model.specs.declared.Mode.{Mode}
use Rattle.model.specs.declared.Thing.{Thing}
use Rattle.model.specs.Nets.{PNet}
use Rattle.model.specs.Markings.{Marking}
use Rattle.model.specs.Firing.{fired}
use Rattle.opened.specs.declared.starts.Segment.{Segment}
use Rattle.fire.specs.firing.AtMode.{Free, written_at, refusal_of}
use Rattle.leaving.specs.Leaving.{Makes}

-- where the k-th arc of a net stands: whether it lets its mode pass, and what is left of a marking
pub record Passes (passed : Bool) (net : PNet) (m : List ℕ) (k : ℕ) (left : List ℕ) : Type 0 where
  pub decides : (passed ≡ true) ↔ Free net m k
  pub leaves : left ≡ cond passed (written_at net m k) m

-- what is left of a marking by the first n arcs of a mode, one after the other
unfoldable pub written_to : PNet → Segment → ℕ → List ℕ → List ℕ
written_to net arcs zero m = m
written_to net arcs (suc n) m = written_at net (written_to net arcs n m) (arcs.start + n)

-- the first n arcs of a mode let it pass at a marking, and have written it
pub record PassedAndWritten (net : PNet) (arcs : Segment) (n : ℕ) (m left : List ℕ) : Type 0 where
  pub marking : Marking net m
  pub few : n ≤ arcs.count
  pub free : (j : ℕ) → j < n → Free net m (arcs.start + j)
  pub leaves : left ≡ written_to net arcs n m

-- and the next arc, where there is one, does not
pub record Through (net : PNet) (arcs : Segment) (n : ℕ) (m left : List ℕ) : Type 0 where
  pub wrote : PassedAndWritten net arcs n m left
  pub stops : n < arcs.count → ¬ Free net m (arcs.start + n)

-- a mode that is fired exactly when none of 11 to 14 is found
pub record Fires (made : Bool) (net : PNet) (m : List ℕ) (t : Mode) (left : List ℕ) : Type 0 where
  pub each : (thing : Thing) → Makes (refusal_of thing net m t) (fired net t m) m made left
