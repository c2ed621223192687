-- Locally dead modes: "A mode is locally dead when, at some pair, Pre is above the least of K less Post and I, or Post is above K." (document 02, P2); by the weak
-- capacity rule "when, at some pair, Pre is above the lesser of K and I, or Post is above K" (P10).
use Rattle.std.specs.Prelude.{ℕ, Bool, true, false, ◌||◌, List, ◌⊎◌}
use Rattle.std.proofs.Math.Option.{Option, none, some, map}
use Rattle.model.specs.declared.CapacityRule.{CapacityRule}
use Rattle.model.specs.declared.CapacityRule.TheVariants.{Strong, Weak}
use Rattle.model.specs.declared.Pair.{Pair}
use Rattle.model.specs.declared.Mode.{Mode}
use Rattle.model.specs.First.{first, lowest}
use Rattle.model.specs.Numbers.{ℕ∞, Above, above, least_of, less_than}
use Rattle.model.specs.Rows.{Entry}
use Rattle.model.specs.Lists.{table}
use Rattle.model.specs.Nets.{PNet, pairs, modes, pair_no, mode_no, K, row}

-- "K less Post", and "K"
abbrev pub pre_room : CapacityRule → Entry → ℕ∞ → ℕ∞
pre_room Strong e k = less_than k e.post
pre_room Weak e k = k

-- "the least of K less Post and I", "the lesser of K and I"
abbrev pub highest_pre : CapacityRule → Entry → ℕ∞ → ℕ∞
highest_pre rule e k = least_of (pre_room rule e k) e.inhibitor

abbrev pub Kills : CapacityRule → Entry → ℕ∞ → Type 0
Kills rule e k = Above e.pre (highest_pre rule e k) ⊎ Above e.post k

abbrev pub kills : CapacityRule → Entry → ℕ∞ → Bool
kills rule e k = above e.pre (highest_pre rule e k) || above e.post k

-- the lowest pair that makes a mode locally dead
unfoldable pub dead_pair : PNet → Mode → Option ℕ
dead_pair net t = lowest (pairs net) (λ p. kills net.rule (row net t p) (K net p)) (λ p. p)

abbrev pub found : Option ℕ → Bool
found none = false
found (some p) = true

unfoldable pub is_dead : PNet → Mode → Bool
is_dead net t = found (dead_pair net t)

-- the lowest counts at which a mode lacks nothing: its Pre at each pair
abbrev pub lowest_marking : PNet → Mode → List ℕ
lowest_marking net t = table (pairs net) (λ p. (row net t p).pre)

pub record DeadMode : Type 0 where
  pub mode : Mode
  pub pair : Pair

-- "its lowest locally dead mode with the lowest pair that makes it so, or none"
unfoldable pub first_dead : PNet → Option DeadMode
first_dead net = first (modes net) (λ t. map (λ p. record { mode = mode_no t; pair = pair_no p }) (dead_pair net (mode_no t)))
