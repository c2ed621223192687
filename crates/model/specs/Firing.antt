-- Firing one mode: refusals 6 and 11 to 14, and the marking after (document 01, "Pairs, modes and the firing rule").
use Rattle.std.specs.Prelude.{ℕ, ◌+◌, ◌-◌, Bool, List, leb}
use Rattle.std.proofs.Math.Option.{Option}
use Rattle.model.specs.declared.CapacityRule.{CapacityRule}
use Rattle.model.specs.declared.CapacityRule.TheVariants.{Strong, Weak}
use Rattle.model.specs.declared.Mode.{Mode}
use Rattle.model.specs.declared.Thing.{Thing}
use Rattle.model.specs.declared.Why.{Why}
use Rattle.model.specs.declared.Why.TheVariants.{Lacking, OverCapacity, Inhibited, OverLimit}
use Rattle.model.specs.declared.Fault.TheVariants.{NotThere, Stopped}
use Rattle.model.specs.declared.Refusal.{Refusal}
use Rattle.model.specs.Refusals.{wrong}
use Rattle.model.specs.First.{◌▸◌, only_if, lowest}
use Rattle.model.specs.Numbers.{ℕ∞, fin, ◌+∞◌, above, above_by, limit}
use Rattle.model.specs.Rows.{Entry, Row, Capacities, Counts}
use Rattle.model.specs.Lists.{table}
use Rattle.model.specs.Nets.{NetArc, PNet, pairs, modes, pair_no, K, count, row}

-- "Firing gives M - Pre + Post."
abbrev pub after : Entry → ℕ → ℕ
after e m = m - e.pre + e.post

-- What each of 11 to 14 compares at one pair, where the mode has e, the capacity is k (or what stands for it, `rooms`) and the count m: a number, and the bound that it may not be above.
pub record Against : Type 0 where
  pub number : ℕ
  pub bound : ℕ∞

infix 3 ◌against◌
abbrev pub ◌against◌ : ℕ → ℕ∞ → Against
number against bound = record { number = number; bound = bound }

abbrev pub compared : Why → Entry → ℕ∞ → ℕ → Against
compared Lacking e k m = e.pre against fin m
compared OverCapacity e k m = m + e.post against k
compared Inhibited e k m = m against e.inhibitor
compared OverLimit e k m = after e m against fin limit

-- the number is above the bound
abbrev pub stops : Why → Entry → ℕ∞ → ℕ → Bool
stops why e k m = above (compared why e k m).number (compared why e k m).bound

-- by how much, the amount of document 02, P3: tokens lacking, over capacity, over the inhibitor or over the counter's limit
abbrev pub stopped_by : Why → Entry → ℕ∞ → ℕ → ℕ
stopped_by why e k m = above_by (compared why e k m).number (compared why e k m).bound

abbrev pub stopped : Thing → Why → ℕ → ℕ → Refusal
stopped thing why p by = wrong thing (Stopped why (pair_no p) by)

module _ (thing : Thing) (n : ℕ) (K : Capacities) (row : Row) (M : Counts) where
  -- each of 11 to 14 names its lowest pair, and the amount there
  abbrev pub lowest_stop : Why → Option Refusal
  lowest_stop why = lowest n (λ p. stops why (row p) (K p) (M p)) (λ p. stopped thing why p (stopped_by why (row p) (K p) (M p)))

  -- the three conditions, source document 000's rule
  unfoldable pub rule_refusal : Option Refusal
  rule_refusal = lowest_stop Lacking ▸ lowest_stop OverCapacity ▸ lowest_stop Inhibited

  -- "only refusal 14 is a limit added here"
  unfoldable pub row_refusal : Option Refusal
  row_refusal = rule_refusal ▸ lowest_stop OverLimit

-- 6: a mode that is not there among so many
abbrev pub absent : Thing → ℕ → Mode → Option Refusal
absent thing modes t = only_if (leb modes t.0) (wrong thing NotThere)

-- "12 reads by the rule in force": what the count plus Post may not be above, where the capacity is k and so much Pre is taken. Document 01's rule has
-- M + Post ≤ K, and "Rule byte 1 .. means M + Post ≤ K + Pre".
abbrev pub room_for : CapacityRule → ℕ∞ → ℕ → ℕ∞
room_for Strong k pre = k
room_for Weak k pre = k +∞ pre

-- in a net: at each pair, for a row; and where an arc stands
abbrev pub rooms : PNet → Row → Capacities
rooms net r p = room_for net.rule (K net p) (r p).pre

abbrev pub room_at : PNet → NetArc → ℕ∞
room_at net a = room_for net.rule (K net a.pair.0) a.entry.pre

-- "then the mode (6, 11 over all pairs, 12, 13, 14)"
unfoldable pub mode_refusal : Thing → PNet → Mode → List ℕ → Option Refusal
mode_refusal thing net t m = absent thing (modes net) t ▸ row_refusal thing (pairs net) (rooms net (row net t)) (row net t) (count m)

-- the marking after, for a row over n pairs and for a mode of a net
abbrev pub fired_row : ℕ → Row → List ℕ → List ℕ
fired_row n r m = table n (λ p. after (r p) (count m p))

unfoldable pub fired : PNet → Mode → List ℕ → List ℕ
fired net t m = fired_row (pairs net) (row net t) m
