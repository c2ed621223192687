-- What is promised of locally dead modes, over the bytes of a net sheet.
use Rattle.std.specs.Prelude.{ℕ, ◌<◌, ◌≡◌, true, List, ◌↔◌}
use Rattle.std.proofs.Math.Option.{none, some}
use Rattle.model.specs.declared.Mode.{Mode}
use Rattle.model.specs.First.{Lowest, NoneBelow}
use Rattle.model.specs.Nets.{pairs, modes, pair_no, mode_no}
use Rattle.second_form.specs.Dead.{is_dead}
use Rattle.second_form.specs.Promises.{KillsAt}
use Rattle.sheets.specs.Whole.{whole_net}
use Rattle.sheets.specs.Decoded.{net_of}
use Rattle.opened.specs.dead.IsDead.{dead_refusal, deadness_of}
use Rattle.opened.specs.dead.IsDead as one
use Rattle.opened.specs.dead.FirstDead.{first_dead_of}
use Rattle.opened.specs.dead.FirstDead as first

-- 1. The answer is yes exactly when, "at some pair, Pre is above the least of K less Post and I, or Post is above K", or what the weak rule has for it.
abbrev pub SaysDead : Type 0
SaysDead = (net : List ℕ) (t : Mode) → dead_refusal net t ≡ none → ((one.told (deadness_of net t)).value ≡ some true)
    ↔ ((p : ℕ) × (p < pairs (net_of net)) × KillsAt (net_of net) t p)

-- 2. The mode named is the lowest that is locally dead, with the lowest pair that makes it so; none is named exactly when there is none.
pub record FirstNamed (net : List ℕ) : Type 0 where
  pub at : (t p : ℕ) → ((first.told (first_dead_of net)).value ≡ some (some (record { mode = mode_no t; pair = pair_no p })))
      ↔ (Lowest (modes (net_of net)) (λ u. is_dead (net_of net) (mode_no u) ≡ true) t × Lowest (pairs (net_of net)) (KillsAt (net_of net) (mode_no t)) p)
  pub nowhere : ((first.told (first_dead_of net)).value ≡ some none) ↔ NoneBelow (modes (net_of net)) (λ t. is_dead (net_of net) (mode_no t) ≡ true)

abbrev pub NamesFirst : Type 0
NamesFirst = (net : List ℕ) → whole_net net ≡ none → FirstNamed net
