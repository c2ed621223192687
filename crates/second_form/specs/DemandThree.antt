-- Demand 3: "For any net that complementing accepts and any list of mode numbers from its first marking: the complement as written
-- reads back as a net; both accept the same movements and stop at the same one; at the start and after each accepted movement they agree
-- on every original pair, and each bounded pair and its complement add up to its capacity."
use Rattle.std.specs.Prelude.{ℕ, ◌≤◌, max, ◌≡◌, Bool, cond, ◌||◌, List, eqb, take, get_or}
use Rattle.std.proofs.Math.Option.{Option, none}
use Rattle.model.specs.declared.Mode.{Mode}
use Rattle.model.specs.declared.Thing.{Thing}
use Rattle.model.specs.declared.Thing.TheVariants.{Movements}
use Rattle.model.specs.declared.Why.TheVariants.{Lacking, OverCapacity, Inhibited}
use Rattle.model.specs.declared.Refusal.{Refusal}
use Rattle.model.specs.First.{lowest}
use Rattle.model.specs.Refusals.{answer, number}
use Rattle.model.specs.Numbers.{ℕ∞}
use Rattle.model.specs.Rows.{Entry, Row, Capacities, Counts}
use Rattle.model.specs.Nets.{PNet, pairs, mode_no, K, count, row}
use Rattle.model.specs.WellFormed.{WellFormed}
use Rattle.model.specs.Firing.{stops, stopped_by, stopped, rooms}
use Rattle.movement.specs.Runs.{Outcome, run}
use Rattle.second_form.specs.Complement.{complement_pair, complement, complement_refusal, Corresponds}

-- "any net that complementing accepts"; the arcs' offsets only name the arc in a refusal
pub record Complementable (net : PNet) : Type 0 where
  pub well_formed : WellFormed net
  pub offset : ℕ → ℕ
  pub accepted : complement_refusal offset net ≡ none

-- 12 or 13 at one pair, where the mode has e, 12 compares with k and the count is m
abbrev pub crowded : Entry → ℕ∞ → ℕ → Bool
crowded e k m = stops OverCapacity e k m || stops Inhibited e k m

-- by the larger of the two amounts: what the complement pair lacks
abbrev pub crowded_by : Entry → ℕ∞ → ℕ → ℕ
crowded_by e k m = max (stopped_by OverCapacity e k m) (stopped_by Inhibited e k m)

-- 11 at the complement of the lowest pair that breaks 12 or 13
abbrev pub lowest_crowded : Thing → ℕ → Capacities → Capacities → Row → Counts → Option Refusal
lowest_crowded thing n K room row M =
    lowest n (λ p. crowded (row p) (room p) (M p)) (λ p. stopped thing Lacking (complement_pair n K p) (crowded_by (row p) (room p) (M p)))

abbrev pub is12or13 : Option Refusal → Bool
is12or13 r = eqb (number (answer r)) 12 || eqb (number (answer r)) 13

-- "Refusals correspond: 11, 12 and 13 in the net become 11 in its complement; 6 and 14 stay." What the net's refusal r of t at m becomes: no refusal,
-- 6, 11 and 14 keep their positions and amounts, and of 12 and 13 the lowest pair counts that breaks either, with the larger amount there.
unfoldable pub becomes : Thing → PNet → Mode → List ℕ → Option Refusal → Option Refusal
becomes thing net t m r = cond (is12or13 r) (lowest_crowded thing (pairs net) (K net) (rooms net (row net t)) (row net t) (count m)) r

module _ (net : PNet) (ts : List Mode) where
  abbrev in_net : List Mode → Outcome
  in_net us = run net us net.start

  abbrev in_complement : List Mode → Outcome
  in_complement us = run (complement net) us (complement net).start

  abbrev next_mode : Mode
  next_mode = get_or ts (in_net ts).accepted (mode_no 0)

  pub record Agreement : Type 0 where
    -- "both accept the same movements and stop at the same one"
    pub accepted : (in_complement ts).accepted ≡ (in_net ts).accepted
    pub refusal : (in_complement ts).refusal ≡ becomes Movements net next_mode (in_net ts).marking (in_net ts).refusal
    -- "at the start and after each accepted movement": after the first j of them, and j may be 0
    pub agree : (j : ℕ) → j ≤ (in_net ts).accepted → Corresponds net (in_net (take j ts)).marking (in_complement (take j ts)).marking

pub record DemandThree (net : PNet) : Type 0 where
  -- a net that a sheet can hold; that "the complement as written reads back as a net" is a promise over bytes
  pub is_net : WellFormed (complement net)
  pub runs : (ts : List Mode) → Agreement net ts

abbrev pub Demand3 : Type 0
Demand3 = (net : PNet) → Complementable net → DemandThree net
