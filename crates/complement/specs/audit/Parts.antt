-- What the private functions of this crate speak of. A reader of the promises may skip this file.
use Rattle.std.specs.Prelude.{ℕ, ◌≡◌, List, length}
use Rattle.model.specs.Nets.{PNet, pairs}
use Rattle.second_form.specs.Complement.{complement}

-- one count for each pair of the net and of its complement
pub record OneEach (net : PNet) (marking beside : List ℕ) : Type 0 where
  pub here : length marking ≡ pairs net
  pub there : length beside ≡ pairs (complement net)
