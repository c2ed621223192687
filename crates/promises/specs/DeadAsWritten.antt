-- Dead modes of a net in its complement, by the calls: the complement as the complementing call wrote it.
use Rattle.std.specs.Prelude.{ℕ, ◌≡◌, true, List}
use Rattle.std.proofs.Math.Option.{none, some}
use Rattle.model.specs.declared.Mode.{Mode}
use Rattle.model.specs.Refusals.{answer, number}
use Rattle.model.specs.Replies.{yields}
use Rattle.model.specs.Markings.{marking_refusal}
use Rattle.second_form.specs.Complement.{Corresponds}
use Rattle.sheets.specs.Decoded.{net_of}
use Rattle.sheets.specs.Emitted.{told}
use Rattle.fire.specs.Calls.{test_refusal}
use Rattle.opened.specs.dead.IsDead.{deadness_of}
use Rattle.opened.specs.dead.IsDead as one
use Rattle.opened.specs.dead.FirstDead.{first_dead_of}
use Rattle.opened.specs.dead.FirstDead as first
use Rattle.complement.specs.Complemented.{complement_of}
use Rattle.promises.specs.DemandThree.{as_written}

pub record DeadBeside (net complement : List ℕ) : Type 0 where
  -- `first_dead` names none in the complement
  pub nowhere : first.told (first_dead_of complement) ≡ yields none
  -- a mode of which `is_dead` says yes in the net, `test` refuses by 11 at every corresponding marking of the complement
  pub refused : (t : Mode) → (one.told (deadness_of net t)).value ≡ some true → (marking marking' : List ℕ)
      → marking_refusal (net_of net) marking ≡ none → Corresponds (net_of net) marking marking' → number (answer (test_refusal complement marking' t)) ≡ 11

abbrev pub DeadAsWritten : Type 0
DeadAsWritten = (net out : List ℕ) (n : ℕ) → told (complement_of net out) ≡ yields n → DeadBeside net (as_written net out n)
