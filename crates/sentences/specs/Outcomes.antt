-- What statements say of the outcome of a call.
use Rattle.std.specs.Prelude.{◌≡◌, List, ℕ, get_or}
use Rattle.std.proofs.Math.Option.{none}
use Rattle.model.specs.declared.Mode.{Mode}
use Rattle.model.specs.Nets.{mode_no}
use Rattle.model.specs.Markings.{Marking}
use Rattle.sheets.specs.Whole.{whole_net, whole_movements}
use Rattle.sheets.specs.Decoded.{net_of, movements_of}
use Rattle.sentences.specs.Calls.{Public, call}

-- the call accepts what it is given: its contract allows an outcome with number 0, and by `Uniqueness` no other
pub record Accepts (c : Public) (g : (call c).Given) : Type 0 where
  pub answer : (call c).Answers
  pub left : (call c).Lent
  pub allowed : (call c).Allows g answer left
  pub accepted : ((call c).carried answer).number ≡ 0

-- a run tries its first movement, if it lists one: net, list and marking are accepted
pub record Begins (net movements marking : List ℕ) : Type 0 where
  pub sheet : whole_net net ≡ none
  pub list : whole_movements movements ≡ none
  pub marked : Marking (net_of net) marking

-- the movement after k others
abbrev pub movement_no : List ℕ → ℕ → Mode
movement_no movements k = get_or (movements_of movements) k (mode_no 0)
