-- A mode is locally dead exactly when no marking within capacity enables it; the counts of its Pre are the witness.
use Prim.Native.Nat.{ℕ, ◌+◌, ◌-◌, ◌≤◌, ◌<◌, max}
use mathlib.Core.Path.{◌≡◌, refl, sym, ◌∙◌}
use mathlib.Core.Bool.{Bool, true, false, true≢false}
use mathlib.Core.List.{List}
use mathlib.Core.Logic.{inl, inr, ⊎_elim}
use native.Mathlib.Omega.{arith}
use Rattle.model.specs.declared.CapacityRule.{CapacityRule}
use Rattle.model.specs.declared.CapacityRule.TheVariants.{Strong, Weak}
use Rattle.model.specs.declared.Mode.{Mode}
use Rattle.model.specs.Numbers.{ℕ∞, fin, ∞, ◌≤∞◌}
use Rattle.model.specs.Rows.{Entry, Row, Counts}
use Rattle.model.specs.Allows.{Allows}
use Rattle.model.specs.Nets.{PNet, pairs, K, count, row}
use Rattle.model.specs.WellFormed.{WellFormed}
use Rattle.model.specs.Markings.{Marking}
use Rattle.model.specs.Firing.{room_for, rooms}
use Rattle.second_form.specs.Dead.{pre_room, highest_pre, Kills, is_dead, lowest_marking}
use Rattle.second_form.specs.Complement.{reserve, claim, complement_pre, complement_post}
use Rattle.second_form.specs.Promises.{DeadExactly, DeadOrLive}
use Rattle.model.proofs.Numbers.{le_not_above, not_above, le_le∞, below-least-of}
use Rattle.movement.proofs.Rooms.{room_within, allows_is}
use Rattle.model.proofs.Tables.{table_at, table-length}
use Rattle.model.proofs.Firing.{Conditions, Passes, passes_conditions, passes-accepted}
use Rattle.second_form.proofs.ComplementNet.{row_small}
use Rattle.second_form.proofs.ComplementRow.{reserve-is}
use Rattle.second_form.proofs.Dead.{dead-modes}

-- at one pair the count of Pre is within K and passes
pub record Lives (rule : CapacityRule) (e : Entry) (k : ℕ∞) : Type 0 where
  pub within : e.pre ≤∞ k
  pub room : e.pre + e.post ≤∞ room_for rule k e.pre
  pub low : e.pre ≤∞ e.inhibitor

-- what an arc has at a pair, by its three numbers
abbrev entry : ℕ → ℕ → ℕ∞ → Entry
entry pre post i = record { pre = pre; post = post; inhibitor = i }

lives : (rule : CapacityRule) (e : Entry) (k : ℕ∞) → ¬ Kills rule e k → Lives rule e k
lives rule e k h =
    fits rule e.pre e.post k e.inhibitor (le_not_above e.pre (highest_pre rule e k) (λ a. h (inl a))) (le_not_above e.post k (λ a. h (inr a)))
  where
    fits : (rule : CapacityRule) (pre post : ℕ) (k i : ℕ∞) → pre ≤∞ highest_pre rule (entry pre post i) k → post ≤∞ k → Lives rule (entry pre post i) k
    fits Strong pre post (fin k) (fin i) a b = record { within = omega arith; room = omega arith; low = omega arith }
    fits Strong pre post (fin k) ∞ a b = record { within = omega arith; room = omega arith; low = tt }
    fits Weak pre post (fin k) (fin i) a b = record { within = omega arith; room = omega arith; low = omega arith }
    fits Weak pre post (fin k) ∞ a b = record { within = omega arith; room = omega arith; low = tt }
    fits Strong pre post ∞ (fin i) a b = record { within = tt; room = tt; low = a }
    fits Strong pre post ∞ ∞ a b = record { within = tt; room = tt; low = tt }
    fits Weak pre post ∞ (fin i) a b = record { within = tt; room = tt; low = a }
    fits Weak pre post ∞ ∞ a b = record { within = tt; room = tt; low = tt }

-- at the complement of such a pair both numbers are within K
pub lives-beside : (rule : CapacityRule) (k : ℕ) (e : Entry) → Lives rule e (fin k) → (complement_pre rule k e ≤ k) × (complement_post rule false k e ≤ k)
lives-beside rule k e h = go rule e.inhibitor h.within h.room h.low
  where
    go : (rule : CapacityRule) (i : ℕ∞) → e.pre ≤ k → e.pre + e.post ≤∞ room_for rule (fin k) e.pre → e.pre ≤∞ i
        → (max (claim rule e) (reserve k i) ≤ k) × (max (claim rule e) (reserve k i) + e.pre - e.post ≤ k)
    go Strong (fin i) within room low = rw reserve-is (omega arith)
    go Strong ∞ within room low = omega arith
    go Weak (fin i) within room low = rw reserve-is (omega arith)
    go Weak ∞ within room low = omega arith

-- at one pair no count within K passes the three conditions, for the mode alone or for a step that it is one of, with these sums
kills-stops : (rule : CapacityRule) (e : Entry) (k : ℕ∞) (m pre post : ℕ) → Kills rule e k → e.pre ≤ pre → e.post ≤ post
    → m ≤∞ k → pre ≤ m → m + post ≤∞ room_for rule k pre → m ≤∞ e.inhibitor → ⊥
kills-stops rule e k m pre post dead a b within enough room low =
    let fits = go rule k within room in
    ⊎_elim
    (not_above e.pre (highest_pre rule e k)
    ((below-least-of e.pre (pre_room rule e k) e.inhibitor).1 (fits.0, le_le∞ e.pre m e.inhibitor (omega arith) low)))
    (not_above e.post k fits.1) dead
  where
    go : (rule : CapacityRule) (k : ℕ∞) → m ≤∞ k → m + post ≤∞ room_for rule k pre → (e.pre ≤∞ pre_room rule e k) × (e.post ≤∞ k)
    go Strong (fin k) within room = omega arith
    go Strong ∞ within room = (tt, tt)
    go Weak (fin k) within room = omega arith
    go Weak ∞ within room = (tt, tt)

-- a row has what it takes and room for what it puts, at counts that are within K; by document 01's rule they are
pub record Fits (net : PNet) (r : Row) (M : Counts) : Type 0 where
  pub within : net.rule ≡ Weak → (p : ℕ) → p < pairs net → M p ≤∞ K net p
  pub enough : (p : ℕ) → p < pairs net → (r p).pre ≤ M p
  pub room : (p : ℕ) → p < pairs net → M p + (r p).post ≤∞ rooms net r p

module _ (net : PNet) (t : Mode) where
  -- a mode that has no more Pre and Post at any pair than what fits, and no lower I than the counts, is not dead
  pub fits-live : (r : Row) (M : Counts) → Fits net r M → ((p : ℕ) → ((row net t p).pre ≤ (r p).pre) × ((row net t p).post ≤ (r p).post))
      → ((p : ℕ) → p < pairs net → M p ≤∞ (row net t p).inhibitor) → is_dead net t ≡ false
  fits-live r M fits part low = go (is_dead net t) refl
    where
      go : (b : Bool) → is_dead net t ≡ b → is_dead net t ≡ false
      go true d =
          let at = (dead-modes net t).0 d in
          let p = at.0 in
          let room = fits.room p at.1 in
          absurd
          (kills-stops net.rule (row net t p) (K net p) (M p) (r p).pre (r p).post at.2 (part p).0 (part p).1
          (room_within net.rule (K net p) (r p).pre (r p).post (M p) room (λ e. fits.within e p at.1)) (fits.enough p at.1) room (low p at.1))
      go false d = d

  -- so what some counts enable is not dead
  pub enabled-live : (M : Counts) → (net.rule ≡ Weak → (p : ℕ) → p < pairs net → M p ≤∞ K net p)
      → Conditions (pairs net) (rooms net (row net t)) (row net t) M → is_dead net t ≡ false
  enabled-live M within h = fits-live (row net t) M (record { within = within; enough = h.enough; room = h.room }) (λ p. omega arith) h.low

  pub lives_at : is_dead net t ≡ false → (p : ℕ) → p < pairs net → Lives net.rule (row net t p) (K net p)
  lives_at alive p h = lives net.rule (row net t p) (K net p) (λ k. true≢false (sym ((dead-modes net t).1 (p, h, k)) ∙ alive))

  module _ (wf : WellFormed net) (alive : is_dead net t ≡ false) where
    low-at : (p : ℕ) → p < pairs net → count (lowest_marking net t) p ≡ (row net t p).pre
    low-at p h = table_at (pairs net) (λ p. (row net t p).pre) 0 p h

    low-marking : Marking net (lowest_marking net t)
    low-marking =
        record {
          one_each = table-length (pairs net) _;
          in_range = λ p h. rw (low-at p h) (row_small net wf t p).0;
          within = λ p h. rw (low-at p h) (lives_at alive p h).within;
        }

    low-passes : Passes (pairs net) (rooms net (row net t)) (row net t) (count (lowest_marking net t))
    low-passes =
        record {
          enough = λ p h. rw (low-at p h) (omega arith);
          room = λ p h. rw (low-at p h) (lives_at alive p h).room;
          low = λ p h. rw (low-at p h) (lives_at alive p h).low;
          small = λ p h. rw (low-at p h) (omega (arith, (row_small net wf t p).1));
        }

pub dead_or_live_lem : DeadOrLive
dead_or_live_lem net wf t =
    record {
      dead = λ d M within a. true≢false (sym d ∙ enabled-live net t M within ((allows_is net.rule (pairs net) (K net) (row net t) M).1 a));
      live = λ alive there. (low-marking net t wf alive, λ about. passes-accepted about net t (lowest_marking net t) there (low-passes net t wf alive));
    }

pub dead-exactly : DeadExactly
dead-exactly net wf t = (λ d m h. (dead_or_live_lem net wf t).dead d (count m) (λ e. h.within), go (is_dead net t) refl)
  where
    go : (b : Bool) → is_dead net t ≡ b → ((m : List ℕ) → Marking net m → ¬ Allows net.rule (pairs net) (K net) (row net t) (count m)) → is_dead net t ≡ true
    go true e nowhere = e
    go false e nowhere = absurd (nowhere (lowest_marking net t) (low-marking net t wf e) ((allows_is net.rule (pairs net) (K net) (row net t) (count (lowest_marking net t))).0 (passes_conditions (low-passes net t wf e))))
