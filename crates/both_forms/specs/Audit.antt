-- Audit (ours): a net's marking beside its complement's, so that "a token left behind shows at once". The definitions, then what is promised of them.
use Rattle.std.specs.Prelude.{ℕ, ◌+◌, ◌≡◌, Bool, true, cond, not, ◌&&◌, ◌||◌, List, [], ◌∷◌, ◌↔◌, ◌⊎◌, ◌≢◌, eqb, ltb, ℤ, pos, negsuc, ◌-ℤ◌, length}
use Rattle.std.proofs.Math.Option.{Option, none, some}
use Rattle.model.specs.declared.CapacityRule.TheVariants.{Strong}
use Rattle.model.specs.declared.Pair.{Pair}
use Rattle.model.specs.declared.Mode.{Mode}
use Rattle.model.specs.declared.Thing.{Thing}
use Rattle.model.specs.declared.Refusal.{Refusal}
use Rattle.model.specs.First.{◌▸◌, lowest, Lowest}
use Rattle.model.specs.Numbers.{ℕ∞, fin, ∞}
use Rattle.model.specs.Lists.{table}
use Rattle.model.specs.Nets.{PNet, pairs, pair_no, K, count, row}
use Rattle.model.specs.Markings.{unequal}
use Rattle.model.specs.Firing.{mode_refusal, fired}
use Rattle.movement.specs.Runs.{run}
use Rattle.second_form.specs.Complement.{finite, complement_pair, complement, complement_refusal, Corresponds}
use Rattle.second_form.specs.DemandThree.{Complementable}

-- At one pair of capacity k: its count m in the net's marking, its count m' in the complement's marking, and there the count c of its complement pair.

-- the count and its complement's add up to K; an unbounded pair has no complement
abbrev pub adds_up : ℕ∞ → ℕ → ℕ → Bool
adds_up (fin k) m c = eqb (m + c) k
adds_up ∞ m c = true

-- out of step: "the two markings differ on it, or it is bounded and its count and its complement's do not add up to K"
abbrev pub strays : ℕ∞ → ℕ → ℕ → ℕ → Bool
strays k m m' c = not (eqb m m') || not (adds_up k m c)

-- the excess, signed: "count plus complement less K where that is not 0, else the net's count less the complement marking's count of that pair"
abbrev pub excess_of : ℕ∞ → ℕ → ℕ → ℕ → ℤ
excess_of (fin k) m m' c = cond (eqb (m + c) k) (pos m -ℤ pos m') (pos (m + c) -ℤ pos k)
excess_of ∞ m m' c = pos m -ℤ pos m'

-- what an audit finds
pub record Finding : Type 0 where
  pub pair : Pair
  pub excess : ℤ

module _ (net : PNet) (m m' : List ℕ) where
  -- the count of the complement pair of p
  abbrev pub count_beside : ℕ → ℕ
  count_beside p = count m' (complement_pair (pairs net) (K net) p)

  abbrev pub out_of_step : ℕ → Bool
  out_of_step p = strays (K net p) (count m p) (count m' p) (count_beside p)

  abbrev pub excess : ℕ → ℤ
  excess p = excess_of (K net p) (count m p) (count m' p) (count_beside p)

  -- "none, or the lowest original pair that is out of step .., with the excess"
  unfoldable pub audited : Option Finding
  audited = lowest (pairs net) out_of_step (λ p. record { pair = pair_no p; excess = excess p })

  -- "those of complementing .., then 17 for the marking and 17 for the complement's marking where they are not one count for each pair of the net and of its
  -- complement"; the counts are compared, and may be any
  unfoldable pub audit_refusal : (ℕ → ℕ) → Option Refusal
  audit_refusal offset = complement_refusal offset net ▸ unequal net m ▸ unequal (complement net) m'

  -- 1. None is found exactly when the markings correspond. What is found is the lowest pair out of step, and its excess is never 0.
  abbrev pub OutOfStep : ℕ → Type 0
  OutOfStep p = (count m p ≢ count m' p) ⊎ ((k : ℕ) × (K net p ≡ fin k) × (count m p + count_beside p ≢ k))

  pub record AuditSays : Type 0 where
    pub nothing : length m ≡ pairs net → length m' ≡ pairs (complement net) → (audited ≡ none) ↔ Corresponds net m m'
    pub at : (p : ℕ) → (audited ≡ some (record { pair = pair_no p; excess = excess p })) ↔ Lowest (pairs net) OutOfStep p
    pub not_nothing : (p : ℕ) → OutOfStep p → excess p ≢ pos 0

abbrev pub AuditFinds : Type 0
AuditFinds = (net : PNet) (m m' : List ℕ) → AuditSays net m m'

-- 2. Demand 3: along any list none is found, from any markings that correspond; the first markings do.
abbrev pub AuditAlong : Type 0
AuditAlong = (net : PNet) → Complementable net → (ts : List Mode) (m m' : List ℕ) → Corresponds net m m'
    → audited net (run net ts m).marking (run (complement net) ts m').marking ≡ none

-- 3. The old fault: an accepted movement recorded "as a mark (Post added, Pre not taken)".
abbrev pub marked : PNet → Mode → List ℕ → List ℕ
marked net t m = table (pairs net) (λ p. count m p + (row net t p).post)

module _ (net : PNet) (t : Mode) where
  abbrev pub takes : ℕ → ℕ
  takes p = (row net t p).pre

  abbrev pub takes_beside : ℕ → ℕ
  takes_beside p = (row (complement net) t (complement_pair (pairs net) (K net) p)).pre

  pub record MarkShown (m m' : List ℕ) : Type 0 where
    -- in the net's marking, with the complement's moved rightly: "the lowest pair that the mode takes from, with that Pre as the excess"
    pub in_net : audited net (marked net t m) (fired (complement net) t m')
        ≡ lowest (pairs net) (λ p. ltb 0 (takes p)) (λ p. record { pair = pair_no p; excess = pos (takes p) })
    -- in both: "the lowest bounded pair at which Pre or complement Pre is above 0", with their sum
    pub in_both : audited net (marked net t m) (marked (complement net) t m')
        ≡ lowest (pairs net) (λ p. finite (K net p) && (ltb 0 (takes p) || ltb 0 (takes_beside p)))
        (λ p. record { pair = pair_no p; excess = pos (takes p + takes_beside p) })

abbrev pub MarkShows : Type 0
MarkShows = (about : Thing) (net : PNet) → Complementable net → (t : Mode) (m m' : List ℕ) → Corresponds net m m' → mode_refusal about net t m ≡ none
    → MarkShown net t m m'

-- 4. Of one pair of capacity k and nothing else. With K 5, 3 there and room for 2: in step; a token left behind; one lost; one that the complement's marking
-- alone lacks; one that both lack. Without K: in step, and one more in the net's marking than in the complement's.
abbrev pub of_one : ℕ∞ → List ℕ → List ℕ → Option Finding
of_one k = audited (record { rule = Strong; colours = 1 ∷ []; modes_of = []; capacity = k ∷ []; start = 0 ∷ []; arcs = [] })

abbrev pub at_pair0 : ℤ → Option Finding
at_pair0 z = some (record { pair = pair_no 0; excess = z })

pub record AuditExamples : Type 0 where
  pub in_step : of_one (fin 5) (3 ∷ []) (3 ∷ 2 ∷ []) ≡ none
  pub left_behind : of_one (fin 5) (3 ∷ []) (2 ∷ 3 ∷ []) ≡ at_pair0 (pos 1)
  pub lost : of_one (fin 5) (2 ∷ []) (3 ∷ 2 ∷ []) ≡ at_pair0 (negsuc 0)
  pub lacks_beside : of_one (fin 5) (3 ∷ []) (2 ∷ 2 ∷ []) ≡ at_pair0 (pos 1)
  pub both_lack : of_one (fin 5) (2 ∷ []) (2 ∷ 2 ∷ []) ≡ at_pair0 (negsuc 0)
  pub without : of_one ∞ (3 ∷ []) (3 ∷ []) ≡ none
  pub without_one_more : of_one ∞ (3 ∷ []) (2 ∷ []) ≡ at_pair0 (pos 1)
