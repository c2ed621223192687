-- What is promised of the complement of a net with locally dead modes (document 02, P4); that demand 3 stands is in DemandThree.
use Rattle.std.specs.Prelude.{ℕ, ◌≤◌, ◌<◌, ◌≡◌, true, List, ◌≢◌, length}
use Rattle.std.proofs.Math.Option.{none}
use Rattle.model.specs.declared.Mode.{Mode}
use Rattle.model.specs.declared.Thing.{Thing}
use Rattle.model.specs.Refusals.{Answer}
use Rattle.model.specs.Refusals.{answer, number}
use Rattle.model.specs.Numbers.{limit}
use Rattle.model.specs.Nets.{PNet, pairs, modes, count, arc_no}
use Rattle.model.specs.WellFormed.{WellFormed}
use Rattle.model.specs.Firing.{mode_refusal}
use Rattle.second_form.specs.Dead.{is_dead, first_dead}
use Rattle.second_form.specs.Complement.{complement, Corresponds}
use Rattle.second_form.specs.DemandThree.{Complementable}

-- 1. "show that 16 no longer occurs, and keep its number reserved": 16 was "a complement number above 1,000,000". No complement has one (its K and I are
-- unbounded, by `Figure64`), and no answer carries the number.
pub record NumbersInRange (net : PNet) : Type 0 where
  pub pre : (k : ℕ) → k < length net.arcs → (arc_no net.arcs k).entry.pre ≤ limit
  pub post : (k : ℕ) → k < length net.arcs → (arc_no net.arcs k).entry.post ≤ limit
  pub start : (p : ℕ) → p < pairs net → count net.start p ≤ limit

pub record Never16 : Type 0 where
  pub numbers : (net : PNet) → WellFormed net → NumbersInRange (complement net)
  pub reserved : (a : Answer) → number a ≢ 16

-- 2. All K and I of a complement are unbounded, so none of its modes is locally dead. What is true instead: a mode that is dead in the net is refused by 11 at
-- every corresponding marking of the complement.
pub record DeadInComplement : Type 0 where
  pub nowhere : (net : PNet) → first_dead (complement net) ≡ none
  pub refused : (net : PNet) → Complementable net → (t : Mode) → t.0 < modes net → is_dead net t ≡ true
      → (about : Thing) (m m' : List ℕ) → Corresponds net m m' → number (answer (mode_refusal about (complement net) t m')) ≡ 11
