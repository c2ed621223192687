-- What is promised of dead modes and of the complement; DemandThree and DeadComplement have more.
use Rattle.std.specs.Prelude.{ℕ, suc, ◌-◌, ◌<◌, ◌≡◌, Bool, true, false, List, ◌++◌, ◌↔◌, ltb, length, replicate, pos, ◌+ℤ◌, ◌-ℤ◌}
use Rattle.std.proofs.Math.Option.{none, some}
use Rattle.model.specs.declared.CapacityRule.TheVariants.{Strong, Weak}
use Rattle.model.specs.declared.Mode.{Mode}
use Rattle.model.specs.declared.Thing.{Thing}
use Rattle.model.specs.First.{Lowest}
use Rattle.model.specs.Numbers.{fin, ∞, ◌≤∞◌}
use Rattle.model.specs.Rows.{Entry, Counts}
use Rattle.model.specs.Billington.{IK}
use Rattle.model.specs.Allows.{Allows}
use Rattle.model.specs.Lists.{joined, list_if}
use Rattle.model.specs.Nets.{PNet, pairs, modes, first_pair_of, pair_no, mode_no, K, count, row}
use Rattle.model.specs.Markings.{Marking}
use Rattle.model.specs.WellFormed.{WellFormed}
use Rattle.model.specs.Firing.{mode_refusal}
use Rattle.second_form.specs.Dead.{Kills, is_dead, lowest_marking, first_dead}
use Rattle.second_form.specs.Complement.{bounded_below, complement_pair, original, complement, Corresponds}

-- 1. Locally dead: "at some pair, Pre is above the least of K less Post and I, or Post is above K", by the weak rule "the lesser of K and I"; the first dead mode is the lowest, named with its lowest pair.
abbrev pub KillsAt : PNet → Mode → ℕ → Type 0
KillsAt net t p = Kills net.rule (row net t p) (K net p)

abbrev pub DeadModes : Type 0
DeadModes = (net : PNet) (t : Mode) → (is_dead net t ≡ true) ↔ ((p : ℕ) × (p < pairs net) × KillsAt net t p)

abbrev pub FirstDead : Type 0
FirstDead = (net : PNet) (t p : ℕ)
    → (first_dead net ≡ some (record { mode = mode_no t; pair = pair_no p }))
    ↔ (Lowest (modes net) (λ u. is_dead net (mode_no u) ≡ true) t × Lowest (pairs net) (KillsAt net (mode_no t)) p)

-- "a mode is locally dead exactly when no marking within capacity satisfies the three firing conditions, refusal 14 aside"
abbrev pub DeadExactly : Type 0
DeadExactly = (net : PNet) → WellFormed net → (t : Mode)
    → (is_dead net t ≡ true) ↔ ((m : List ℕ) → Marking net m → ¬ Allows net.rule (pairs net) (K net) (row net t) (count m))

-- More is true: a dead mode is enabled at no counts of any size, which by the weak rule must be within capacity; and a mode that is there and not dead is accepted
-- at the marking of its Pre, by 14 too.
pub record DeadOrAccepted (net : PNet) (t : Mode) : Type 0 where
  pub dead : is_dead net t ≡ true → (M : Counts) → (net.rule ≡ Weak → (p : ℕ) → p < pairs net → M p ≤∞ K net p)
      → ¬ Allows net.rule (pairs net) (K net) (row net t) M
  pub live : is_dead net t ≡ false → t.0 < modes net
      → Marking net (lowest_marking net t) × ((about : Thing) → mode_refusal about net t (lowest_marking net t) ≡ none)

abbrev pub DeadOrLive : Type 0
DeadOrLive = (net : PNet) → WellFormed net → (t : Mode) → DeadOrAccepted net t

-- 2. By source document 000's own rule, 0: at the complement of a pair of finite K stand K - IK and, of a mode that is not dead, Pre - Post + K - IK, over the
-- integers: figure 6.4. A dead mode, which it does not name, has K - IK twice. By rule 1 document 02 says what stands there, `complement_entry`.
pub record Beside (dead : Bool) (k : ℕ) (e c : Entry) : Type 0 where
  pub pre : pos c.pre ≡ pos k -ℤ IK k e
  pub post : dead ≡ false → pos c.post ≡ (pos e.pre -ℤ pos e.post) +ℤ (pos k -ℤ IK k e)
  pub post_of_dead : dead ≡ true → c.post ≡ c.pre
  pub inhibitor : c.inhibitor ≡ ∞

module _ (net : PNet) where
  -- how many pairs of a place have a finite K
  abbrev pub finite_pairs : ℕ → ℕ
  finite_pairs s = bounded_below (K net) (first_pair_of net (suc s)) - bounded_below (K net) (first_pair_of net s)

  -- The complemented net is figure 6.4's: "The new places follow the old: one for each place with a finite pair, with as many colours as it has finite pairs.
  -- Modes are unchanged. All K and I become unbounded. Original Pre, Post and first marking stay."
  pub record IsFigure64 : Type 0 where
    pub places : (complement net).colours ≡ net.colours ++ joined (length net.colours) (λ s. list_if (ltb 0 (finite_pairs s)) (finite_pairs s))
    pub same_modes : (complement net).modes_of ≡ net.modes_of
    pub unbounded : (complement net).capacity ≡ replicate (pairs (complement net)) ∞
    pub start : Marking net net.start → Corresponds net net.start (complement net).start
    pub originals : (t : Mode) (p : ℕ) → t.0 < modes net → p < pairs net → row (complement net) t p ≡ original (row net t p)
    pub besides : net.rule ≡ Strong → (t : Mode) (p k : ℕ) → t.0 < modes net → p < pairs net → K net p ≡ fin k
        → Beside (is_dead net t) k (row net t p) (row (complement net) t (complement_pair (pairs net) (K net) p))

abbrev pub Figure64 : Type 0
Figure64 = (net : PNet) → IsFigure64 net
