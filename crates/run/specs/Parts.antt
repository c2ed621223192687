-- What the private functions and the shared parts of this crate speak of, beyond the calls.
-- A reader of the promises may skip this file.
use Rattle.std.specs.Prelude.{ℕ, ◌≡◌, List, Result, Ok, Err}
use Rattle.std.proofs.Math.Option.{Option, none, some}
use Rattle.model.specs.declared.Refusal.{Refusal}
use Rattle.model.specs.Refusals.{Answer}
use Rattle.model.specs.Refusals.{answer}
use Rattle.movement.specs.Runs.{Outcome, go_on}
use Rattle.run.specs.declared.Ran.{Ran}
use Rattle.run.specs.Calls.{ran_of}

-- how many movements a run of this outcome accepts, and the answer to the first that it does not
pub record RunTells (o : Outcome) (k : ℕ) (told : Answer) : Type 0 where
  pub accepted : k ≡ o.accepted
  pub answers : told ≡ answer o.refusal

-- a run with this outcome and so many arcs visited: what it tells, and what it leaves in the marking
pub record Reports (o : Outcome) (arcs : ℕ) (told : Ran) (left : List ℕ) : Type 0 where
  pub tells : told ≡ ran_of o arcs
  pub leaves : left ≡ o.marking

-- what refuses a run before its first movement, or what is told of it
abbrev pub begun : Option Refusal → Ran → Result Ran Refusal
begun none told = Ok told
begun (some r) told = Err r

-- a run that is refused by o before its first movement, or has the outcome `next` and so many arcs visited: what it gives, and what it leaves in the marking
pub record Begins (o : Option Refusal) (m : List ℕ) (next : Outcome) (arcs : ℕ) (b : Result Ran Refusal) (left : List ℕ) : Type 0 where
  pub gives : b ≡ begun o (ran_of next arcs)
  pub leaves : left ≡ (go_on o 0 m next).marking
