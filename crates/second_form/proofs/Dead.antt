-- Locally dead modes: the searches name what the definitions mean.
use Prim.Native.Nat.{ℕ, ◌+◌, ◌-◌, ◌≤◌, ◌<◌}
use mathlib.Core.Path.{◌≡◌, refl, sym, ◌∙◌, ap, ap₂}
use mathlib.Core.Bool.{Bool, true, false, ◌||◌}
use mathlib.Core.Logic.{◌↔◌, ⊎_elim}
use mathlib.Core.Option.{Option, none, some, map}
use native.Mathlib.Omega.{arith}
use Rattle.model.specs.declared.CapacityRule.{CapacityRule}
use Rattle.model.specs.declared.Mode.{Mode}
use Rattle.model.specs.First.{only_if, lowest, Lowest, NoneBelow}
use Rattle.model.specs.Numbers.{ℕ∞, fin, ∞, above}
use Rattle.model.specs.Rows.{Entry, no_arc}
use Rattle.model.specs.Nets.{PNet, pairs, modes, pair_no, mode_no, K, arc_no, row}
use Rattle.second_form.specs.Dead.{highest_pre, Kills, kills, dead_pair, is_dead, DeadMode, first_dead}
use Rattle.second_form.specs.Promises.{KillsAt, DeadModes, FirstDead}
use Rattle.model.proofs.First.{Decides, lowest_or_none, lowest-some, some-lowest, first-each, first-all, first_ext, first-at, first_found, first_sparse}
use Rattle.movement.proofs.ByArcs.{Listing}
use Rattle.model.proofs.Numbers.{false_above}
use Rattle.model.proofs.Decisions.{Decided, by_or, by-above}

-- the two tests say what they mean
decided-kills : (rule : CapacityRule) (e : Entry) (k : ℕ∞) → Decided (kills rule e k) (Kills rule e k)
decided-kills rule e k = by_or (by-above e.pre (highest_pre rule e k)) (by-above e.post k)

module _ (net : PNet) (t : Mode) where
  decides-dead : Decides (λ p. kills net.rule (row net t p) (K net p)) (KillsAt net t)
  decides-dead =
      record {
        sound = λ p. (decided-kills net.rule (row net t p) (K net p)).sound;
        complete = λ p. (decided-kills net.rule (row net t p) (K net p)).complete;
      }

  lowest-dead : (p : ℕ) → Lowest (pairs net) (KillsAt net t) p → dead_pair net t ≡ some p
  unfolding dead_pair
  lowest-dead = lowest-some decides-dead (λ p. p) (pairs net)

  dead-lowest : (p : ℕ) → dead_pair net t ≡ some p → Lowest (pairs net) (KillsAt net t) p
  unfolding dead_pair
  dead-lowest p e = let r = some-lowest decides-dead (λ p. p) (pairs net) p e in rw r.2 at r.1

  dead-pair : is_dead net t ≡ true → (p : ℕ) × (dead_pair net t ≡ some p)
  unfolding is_dead
  dead-pair e = go (dead_pair net t) refl
    where
      go : (o : Option ℕ) → dead_pair net t ≡ o → (p : ℕ) × (dead_pair net t ≡ some p)
      go none d = let z : false ≡ true = rw d at e in let y : ◌≡◌ {A = ℕ} 0 1 = cc in absurd (omega arith)
      go (some p) d = (p, d)

  pair-dead : (p : ℕ) → dead_pair net t ≡ some p → is_dead net t ≡ true
  unfolding is_dead
  pair-dead p e = rw e

  not_dead : ¬ (is_dead net t ≡ true) → dead_pair net t ≡ none
  not_dead h = go (dead_pair net t) refl
    where
      go : (o : Option ℕ) → dead_pair net t ≡ o → dead_pair net t ≡ none
      go none e = e
      go (some p) e = absurd (h (pair-dead p e))

  alive-dead : is_dead net t ≡ true → (p : ℕ) × (p < pairs net) × KillsAt net t p
  alive-dead e = let d = dead-pair e in let l = dead-lowest d.0 d.1 in (d.0, l.below, l.holds)

  dead-alive : ((p : ℕ) × (p < pairs net) × KillsAt net t p) → is_dead net t ≡ true
  dead-alive r =
      ⊎_elim (λ (l : (p : ℕ) × Lowest (pairs net) (KillsAt net t) p). pair-dead l.0 (lowest-dead l.0 l.1))
      (λ nowhere. absurd (nowhere r.0 r.1 r.2)) (lowest_or_none decides-dead (λ p. p) (pairs net))

zero_above : (b : ℕ∞) → above 0 b ≡ false
zero_above (fin k) = false_above 0 (fin k) (omega arith)
zero_above ∞ = refl

no_arc-kills : (rule : CapacityRule) (k : ℕ∞) → kills rule no_arc k ≡ false
no_arc-kills rule k = ap₂ ◌||◌ (zero_above (highest_pre rule no_arc k)) (zero_above k)

-- the k-th arc of a net makes its mode locally dead
abbrev pub arc_kills : PNet → ℕ → Bool
arc_kills net k = kills net.rule (arc_no net.arcs k).entry (K net (arc_no net.arcs k).pair.0)

-- a search over the arcs from `start` on that comes to k has passed those before
abbrev pub Passed : PNet → ℕ → ℕ → Type 0
Passed net start k = (i : ℕ) → i < k → start ≤ i → arc_kills net i ≡ false

-- a mode's own arcs are enough: where no arc is written, 0 is above no bound
module _ (net : PNet) (t : Mode) (start c : ℕ) (listing : Listing (pairs net) (row net t) c (λ k. arc_no net.arcs (start + k))) where
  dead-by-arcs : dead_pair net t ≡ lowest c (λ k. arc_kills net (start + k)) (λ k. (arc_no net.arcs (start + k)).pair.0)
  unfolding dead_pair
  dead-by-arcs =
      first_sparse (pairs net) c (λ p. only_if (kills net.rule (row net t p) (K net p)) p) (λ k. (arc_no net.arcs (start + k)).pair.0) listing.inside
      listing.rising (λ p h elsewhere. rw (listing.unwritten p h elsewhere, no_arc-kills net.rule (K net p)))
      ∙ first_ext c _ _ (λ k h. rw (listing.written k h))

  pub arcs-alive : Passed net start (start + c) → dead_pair net t ≡ none
  arcs-alive passed = dead-by-arcs ∙ first-all c _ (λ k h. rw (passed (start + k) (omega arith) (omega arith)))

  pub arcs-dead : (k : ℕ) → start ≤ k → k < start + c → Passed net start k → arc_kills net k ≡ true → dead_pair net t ≡ some (arc_no net.arcs k).pair.0
  arcs-dead k l h passed e =
      let q : start + (k - start) ≡ k = omega arith in
      dead-by-arcs
      ∙ first-at c (k - start) _ _ (omega arith) (first-all (k - start) _ (λ i b. rw (passed (start + i) (omega arith) (omega arith)))) (rw (q, e))

pub dead-modes : DeadModes
dead-modes net t = (alive-dead net t, dead-alive net t)

module _ (net : PNet) where
  abbrev named : ℕ → ℕ → DeadMode
  named t p = record { mode = mode_no t; pair = pair_no p }

  abbrev dead_at : ℕ → Option DeadMode
  dead_at t = map (named t) (dead_pair net (mode_no t))

  named-dead : (t : ℕ) (d : DeadMode) → dead_at t ≡ some d → (p : ℕ) × (dead_pair net (mode_no t) ≡ some p) × (named t p ≡ d)
  named-dead t d e = go (dead_pair net (mode_no t)) refl
    where
      go : (o : Option ℕ) → dead_pair net (mode_no t) ≡ o → (p : ℕ) × (dead_pair net (mode_no t) ≡ some p) × (named t p ≡ d)
      go none g = let z : none ≡ some d = rw g at e in let y : ◌≡◌ {A = ℕ} 0 1 = cc in absurd (omega arith)
      go (some p) g = let z : some (named t p) ≡ some d = rw g at e in (p, g, cc)

  alive : (t : ℕ) → dead_at t ≡ none → ¬ (is_dead net (mode_no t) ≡ true)
  alive t e d =
      let p = dead-pair net (mode_no t) d in
      let z : some (named t p.0) ≡ none = rw p.1 at e in
      let y : ◌≡◌ {A = ℕ} 0 1 = cc in
      omega arith

  -- a search over the modes that comes to t has passed those before
  abbrev pub Alive : ℕ → Type 0
  Alive t = (u : ℕ) → u < t → dead_pair net (mode_no u) ≡ none

  pub all-alive : Alive (modes net) → first_dead net ≡ none
  unfolding first_dead
  all-alive passed = first-all (modes net) dead_at (λ u h. rw (passed u h))

  pub dead-first : (t p : ℕ) → t < modes net → Alive t → dead_pair net (mode_no t) ≡ some p → first_dead net ≡ some (named t p)
  unfolding first_dead
  dead-first t p h passed e = first-at (modes net) t dead_at (named t p) h (first-all t dead_at (λ u l. rw (passed u l))) (rw e)

  first-lowest : (t p : ℕ) → first_dead net ≡ some (named t p)
      → Lowest (modes net) (λ u. is_dead net (mode_no u) ≡ true) t × Lowest (pairs net) (KillsAt net (mode_no t)) p
  unfolding first_dead
  first-lowest t p e =
      let r = first_found (modes net) dead_at (named t p) e in
      let d = named-dead r.0 (named t p) r.3 in
      let i : r.0 ≡ t = ap (λ (d : DeadMode). d.mode.0) d.2 in
      let q : d.0 ≡ p = ap (λ (d : DeadMode). d.pair.0) d.2 in (
        rw (← i)
            (record {
              below = r.1;
              holds = pair-dead net (mode_no r.0) d.0 d.1;
              none_lower = λ j l. alive j (first-each r.0 dead_at r.2 j l);
            }),
        dead-lowest net (mode_no t) p (ap (λ (u : ℕ). dead_pair net (mode_no u)) (sym i) ∙ d.1 ∙ ap {B = Option ℕ} some q),
      )

  lowest-first : (t p : ℕ) → Lowest (modes net) (λ u. is_dead net (mode_no u) ≡ true) t → Lowest (pairs net) (KillsAt net (mode_no t)) p
      → first_dead net ≡ some (named t p)
  lowest-first t p l k = dead-first t p l.below (λ u h. not_dead net (mode_no u) (l.none_lower u h)) (lowest-dead net (mode_no t) p k)

pub first-dead : FirstDead
first-dead net t p = (first-lowest net t p, λ r. lowest-first net t p r.0 r.1)

pub none-dead : (net : PNet) → (first_dead net ≡ none) ↔ NoneBelow (modes net) (λ t. is_dead net (mode_no t) ≡ true)
unfolding first_dead
none-dead net = (
  λ e t h. alive net t (first-each (modes net) (dead_at net) e t h),
  λ no. all-alive net (λ t h. not_dead net (mode_no t) (no t h)),
)
