-- One mode of an open net at a marking: what the shared parts of this crate speak of.
-- A reader of the promises may skip this file.
use Rattle.std.specs.Prelude.{ℕ, ◌≤◌, ◌<◌, ◌≡◌, Bool, true, ◌↔◌, List, length, set}
use Rattle.std.proofs.Math.Option.{Option, none}
use Rattle.model.specs.declared.Mode.{Mode}
use Rattle.model.specs.declared.Why.{Why}
use Rattle.model.specs.declared.Thing.{Thing}
use Rattle.model.specs.declared.Refusal.{Refusal}
use Rattle.model.specs.First.{only_if}
use Rattle.model.specs.Numbers.{limit}
use Rattle.model.specs.Nets.{PNet, pairs, count, arc_no, row}
use Rattle.model.specs.Markings.{Marking}
use Rattle.model.specs.Firing.{after, stops, stopped_by, stopped, lowest_stop, row_refusal, rooms, room_at}
use Rattle.opened.specs.declared.shape.NetShape.{NetShape}
use Rattle.opened.specs.declared.starts.Segment.{Segment}
use Rattle.fields.specs.Numbers.{bound}
use Rattle.sheets.specs.Decoded.{net_of, net_arc}
use Rattle.opened.specs.Shape.{Open}
use Rattle.opened.specs.Starts.{ModeArcs}
use Rattle.rule.specs.declared.AtPair.{AtPair}
use Rattle.rule.specs.AtPair.{Unstopped}

-- what the k-th arc of a net meets at a marking
pub record Meets (net : PNet) (m : List ℕ) (k : ℕ) (at : AtPair) : Type 0 where
  pub arc : net_arc at.arc ≡ arc_no net.arcs k
  pub inside : at.arc.pair.0 < pairs net
  pub capacity : bound at.capacity ≡ room_at net (net_arc at.arc)
  pub count : at.count ≡ count m at.arc.pair.0
  pub post : at.arc.post ≤ limit
  pub in_range : at.count ≤ limit

-- nothing stops a mode where the k-th arc of a net stands
unfoldable pub Free : PNet → List ℕ → ℕ → Type 0
Free net m k = let a = arc_no net.arcs k in Unstopped a.entry (room_at net a) (count m a.pair.0)

-- the k-th arc can be written: its pair has a count, which is in range
pub record Writable (net : PNet) (m : List ℕ) (k : ℕ) : Type 0 where
  pub one_each : length m ≡ pairs net
  pub in_range : count m (arc_no net.arcs k).pair.0 ≤ limit

-- M - Pre + Post where the k-th arc of a net stands
unfoldable pub written_at : PNet → List ℕ → ℕ → List ℕ
written_at net m k = let a = arc_no net.arcs k in set m a.pair.0 (after a.entry (count m a.pair.0))

-- the arcs of a mode of an open net, at a marking that was accepted
pub record AtMode (s : List ℕ) (net : NetShape) (arcs : Segment) (m : List ℕ) : Type 0 where
  pub opened : Open s net
  pub marking : Marking (net_of s) m
  pub own : ModeArcs (net_of s).arcs arcs.mode arcs.start arcs.count

-- what holds of the mode that has these arcs
abbrev pub OfMode : List ℕ → Segment → (Mode → Type 0) → Type 0
OfMode s arcs P = (t : Mode) → ModeArcs (net_of s).arcs t arcs.start arcs.count → P t

-- one of 11 to 14 where the k-th arc of a net stands
unfoldable pub stop_at : Thing → Why → PNet → List ℕ → ℕ → Option Refusal
stop_at thing why net m k =
    let a = arc_no net.arcs k in
    let m' = count m a.pair.0 in
    only_if (stops why a.entry (room_at net a) m') (stopped thing why a.pair.0 (stopped_by why a.entry (room_at net a) m'))

-- what is found of a mode at a marking, over all pairs
unfoldable pub stop_of : Thing → Why → PNet → List ℕ → Mode → Option Refusal
stop_of thing why net m t = lowest_stop thing (pairs net) (rooms net (row net t)) (row net t) (count m) why

unfoldable pub refusal_of : Thing → PNet → List ℕ → Mode → Option Refusal
refusal_of thing net m t = row_refusal thing (pairs net) (rooms net (row net t)) (row net t) (count m)

-- a test that passes exactly when none of 11 to 14 is found
pub record Decides (test : Bool) (net : PNet) (m : List ℕ) (t : Mode) : Type 0 where
  pub each : (thing : Thing) → (test ≡ true) ↔ (refusal_of thing net m t ≡ none)
