-- Document 01, "Either side of the edges": the cases marked *. The table's theorem is proofs/Edges.antt.
use Rattle.std.specs.Prelude.{ℕ, ◌≡◌, cond, List, [], ◌∷◌, map, ◌≢◌, eqb, length}
use Rattle.std.proofs.Math.Option.{none, some}
use Rattle.model.specs.declared.CapacityRule.TheVariants.{Strong}
use Rattle.model.specs.declared.Thing.TheVariants.{Argument}
use Rattle.model.specs.declared.Why.TheVariants.{Lacking, OverCapacity}
use Rattle.model.specs.Refusals.{Answer}
use Rattle.model.specs.Refusals.{answer, number, amount}
use Rattle.model.specs.Numbers.{ℕ∞, fin, ∞}
use Rattle.model.specs.Nets.{PNet, pairs, mode_no, pair_no, row}
use Rattle.model.specs.Firing.{stopped, row_refusal, mode_refusal}
use Rattle.second_form.specs.Complement.{complement_refusal, complement}
use Rattle.movement.specs.Runs.{certificate_refusal}

-- the answer to one mode at one pair, for K, I, Pre, Post and the count there
unfoldable pub answer_at : ℕ∞ → ℕ∞ → ℕ → ℕ → ℕ → Answer
answer_at k i pre post m = answer (row_refusal Argument 1 (λ p. k) (λ p. record { pre = pre; post = post; inhibitor = i }) (λ p. m))

abbrev pub number_at : ℕ∞ → ℕ∞ → ℕ → ℕ → ℕ → ℕ
number_at k i pre post m = number (answer_at k i pre post m)

pub record Edge : Type 0 where
  pub answered : ℕ
  pub expected : ℕ
  pub amount : ℕ

abbrev pub edge : ℕ∞ → ℕ∞ → ℕ → ℕ → ℕ → ℕ → Edge
edge k i pre post m n = record { answered = number_at k i pre post m; expected = n; amount = amount (answer_at k i pre post m) }

--   K, I, Pre, Post, count, answer
unfoldable pub edges : List Edge
edges =
    edge (fin 5) ∞ 0 1 4 0
    ∷ edge (fin 5) ∞ 0 1 5 12
    ∷ edge (fin 5) ∞ 1 1 5 12
    ∷ edge (fin 5) (fin 4) 0 0 4 0
    ∷ edge (fin 5) (fin 4) 0 0 5 13
    ∷ edge ∞ (fin 0) 0 0 0 0
    ∷ edge ∞ ∞ 0 1 999999 0
    ∷ edge ∞ ∞ 0 1 1000000 14
    ∷ edge ∞ ∞ 1 1 1000000 0
    ∷ edge ∞ (fin 0) 2 0 1 11
    ∷ []

-- The complement of a net of one mode at one pair: the number of complementing's answer, and what the mode has at the complement pair where it is 0.
pub record ComplementEdge : Type 0 where
  pub number : ℕ
  pub pre : ℕ
  pub post : ℕ

abbrev pub gives : ℕ → ℕ → ℕ → ComplementEdge
gives n pre post = record { number = n; pre = pre; post = post }

abbrev pub edge_net : ℕ → ℕ∞ → ℕ → ℕ → PNet
edge_net k i pre post =
    record {
      rule = Strong;
      colours = 1 ∷ [];
      modes_of = 1 ∷ [];
      capacity = fin k ∷ [];
      start = 0 ∷ [];
      arcs = record { mode = mode_no 0; pair = pair_no 0; entry = record { pre = pre; post = post; inhibitor = i } } ∷ [];
    }

unfoldable pub complement_gives : ℕ → ℕ∞ → ℕ → ℕ → ComplementEdge
complement_gives k i pre post =
    let net = edge_net k i pre post in
    let n = number (answer (complement_refusal (λ arc. 0) net)) in
    let e = row (complement net) (mode_no 0) 1 in
    cond (eqb n 0) (gives 0 e.pre e.post) (gives n 0 0)

pub record Edges : Type 0 where
  pub answers : map (λ e. e.answered) edges ≡ map (λ e. e.expected) edges
  -- document 02, P3: 0 where it is enabled, and each of the others is 1 over the edge, whatever Pre takes off
  pub amounts : map (λ e. e.amount) edges ≡ 0 ∷ 1 ∷ 1 ∷ 0 ∷ 1 ∷ 0 ∷ 0 ∷ 1 ∷ 0 ∷ 1 ∷ []
  -- K 5, count 5, Post 1, I 0: over capacity by 1 and over the inhibitor by 5, so that the complement pair lacks 5
  pub larger_amount : (mode_refusal Argument (edge_net 5 (fin 0) 0 1) (mode_no 0) (5 ∷ []) ≡ some (stopped Argument OverCapacity 0 1))
      × (mode_refusal Argument (complement (edge_net 5 (fin 0) 0 1)) (mode_no 0) (5 ∷ 0 ∷ []) ≡ some (stopped Argument Lacking 1 5))
  -- Post 6, K 5: never enabled; complement Pre 6, for any I and Pre
  pub never : (i : ℕ∞) (pre m : ℕ) → number_at (fin 5) i pre 6 m ≢ 0
  pub pre_six : (i : ℕ∞) (pre : ℕ) → (row (complement (edge_net 5 i pre 6)) (mode_no 0) 1).pre ≡ 6
  pub pre_six_accepted : complement_gives 5 ∞ 0 6 ≡ gives 0 6 6
  -- K 1,000,000, I 0, Post 0: Pre 0 gives complement Post 1,000,000; so does Pre 1, of a locally dead mode
  pub post_most : complement_gives 1000000 (fin 0) 0 0 ≡ gives 0 1000000 1000000
  pub post_above : complement_gives 1000000 (fin 0) 1 0 ≡ gives 0 1000000 1000000
  -- the empty list: the certificate is accepted for the first marking
  pub empty : (net : PNet) → length net.start ≡ pairs net → certificate_refusal net [] net.start ≡ none
