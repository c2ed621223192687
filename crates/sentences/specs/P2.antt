-- Document 02, P2. Dead modes that we missed.
use Rattle.model.specs.declared.Refusal.{Refusal}
use Rattle.std.specs.Prelude.{ℕ, ◌≡◌, true, List, ◌↔◌, Result, Bool}
use Rattle.model.specs.declared.Mode.{Mode}
use Rattle.model.specs.Replies.{yields}
use Rattle.model.specs.Nets.{pairs, K, count, row}
use Rattle.model.specs.Markings.{Marking}
use Rattle.model.specs.Allows.{Allows}
use Rattle.sheets.specs.Decoded.{net_of}
use Rattle.opened.specs.dead.IsDead.{told}
use Rattle.opened.specs.dead.Allowed.{IsDeadAllows}

-- the net's rule lets the mode fire at a marking: "the three firing conditions, refusal 14 aside"
abbrev pub Satisfies : List ℕ → Mode → List ℕ → Type 0
Satisfies net t m = Allows (net_of net).rule (pairs (net_of net)) (K (net_of net)) (row (net_of net) t) (count m)

pub record P2 : Type 0 where
  -- "A mode is locally dead when, at some pair, Pre is above the least of K less Post and I, or Post is above K.": see `NamingDead.is_dead` of demand 2.
  -- "Prove that a mode is locally dead exactly when no marking within capacity satisfies the three firing conditions, refusal 14 aside."
  pub dead_exactly : (net : List ℕ) (t : Mode) (d : Result Bool Refusal) → IsDeadAllows net t d → (told d).carried.number ≡ 0
      → (told d ≡ yields true) ↔ ((m : List ℕ) → Marking (net_of net) m → ¬ Satisfies net t m)
