-- Order that makes no difference (document 02, P12): "Two foremen enter their own work in either order."
use Rattle.std.specs.Prelude.{ℕ, ◌≡◌, ◌↔◌, ◌≢◌}
use mathlib.Core.List.{List, [], ◌∷◌, Memᴰ}
use Rattle.std.proofs.Math.Option.{none, some}
use Rattle.model.specs.declared.CapacityRule.TheVariants.{Strong}
use Rattle.model.specs.declared.Mode.{Mode}
use Rattle.model.specs.declared.Thing.TheVariants.{Argument}
use Rattle.model.specs.declared.Fault.TheVariants.{MarkingOutside}
use Rattle.model.specs.Refusals.{wrong, answer, number, position}
use Rattle.model.specs.Numbers.{ℕ∞, fin, ∞}
use Rattle.model.specs.Nets.{NetArc, PNet, pair_no, mode_no}
use Rattle.model.specs.WellFormed.{WellFormed}
use Rattle.model.specs.Markings.{marking_refusal, Marking}
use Rattle.movement.specs.Runs.{run}
use Rattle.second_form.specs.Complement.{complement}
use Rattle.both_forms.specs.WorkedExamples.{arc}

-- an arc of a mode, whatever stands on it: one with an inhibitor alone counts
abbrev pub ArcOfMode : PNet → Mode → NetArc → Type 0
ArcOfMode net t a = Memᴰ a net.arcs × (a.mode.0 ≡ t.0)

-- "two modes whose arcs share no pair"
abbrev pub Apart : PNet → Mode → Mode → Type 0
Apart net t u = (a b : NetArc) → ArcOfMode net t a → ArcOfMode net u b → a.pair.0 ≢ b.pair.0

-- Two lists from one marking: one "is accepted whole exactly when the other is, and both end at one marking".
pub record EndAlike (net : PNet) (vs ws : List Mode) (m : List ℕ) : Type 0 where
  pub accepted : ((run net vs m).refusal ≡ none) ↔ ((run net ws m).refusal ≡ none)
  pub marking : (run net vs m).refusal ≡ none → (run net vs m).marking ≡ (run net ws m).marking

abbrev pub EitherOrder : PNet → Mode → Mode → List ℕ → Type 0
EitherOrder net t u m = EndAlike net (t ∷ u ∷ []) (u ∷ t ∷ []) m

-- 1. The theorem, of any net and any marking that a call takes; 14 and modes that are not there included.
abbrev pub Orders : Type 0
Orders = (net : PNet) (t u : Mode) → Apart net t u → (m : List ℕ) → Marking net m → EitherOrder net t u m

-- 2. "for the net and for its complement, where sharing is judged on all pairs": on those of each; apart in a net is apart in its complement
pub record OrdersOfBoth (net : PNet) (t u : Mode) : Type 0 where
  pub in_net : Apart net t u → (m : List ℕ) → Marking net m → EitherOrder net t u m
  pub in_complement : Apart (complement net) t u → (m : List ℕ) → Marking (complement net) m → EitherOrder (complement net) t u m
  pub carries_over : Apart net t u → Apart (complement net) t u

abbrev pub OrdersInBoth : Type 0
OrdersInBoth = (net : PNet) → WellFormed net → (t u : Mode) → OrdersOfBoth net t u

-- 3. More is true: two foremen's lists, each mode of the one apart from each of the other, in any two interleavings. Each list keeps its own order.
pub data Interleaved : List Mode → List Mode → List Mode → Type 0 where
  ends : Interleaved [] [] []
  left : {t : Mode} {ts us vs : List Mode} → Interleaved ts us vs → Interleaved (t ∷ ts) us (t ∷ vs)
  right : {u : Mode} {ts us vs : List Mode} → Interleaved ts us vs → Interleaved ts (u ∷ us) (u ∷ vs)

abbrev pub AllApart : PNet → List Mode → List Mode → Type 0
AllApart net ts us = (t u : Mode) → Memᴰ t ts → Memᴰ u us → Apart net t u

abbrev pub Interleavings : Type 0
Interleavings = (net : PNet) (ts us vs ws : List Mode) → AllApart net ts us → Interleaved ts us vs → Interleaved ts us ws
    → (m : List ℕ) → Marking net m → EndAlike net vs ws m

-- 4. What the theorem does not say. Nets of two modes with one arc each.
abbrev pub two_arcs : ℕ∞ → NetArc → NetArc → PNet
two_arcs k a b = record { rule = Strong; colours = 2 ∷ []; modes_of = 2 ∷ []; capacity = k ∷ k ∷ []; start = 0 ∷ 0 ∷ []; arcs = a ∷ b ∷ [] }

-- 0 then 1 is accepted from m, and 1 then 0 is refused by this number at pair 0
pub record OneOrderAlone (net : PNet) (m : List ℕ) (refusal : ℕ) : Type 0 where
  pub accepted : (run net (mode_no 0 ∷ mode_no 1 ∷ []) m).refusal ≡ none
  pub refused : number (answer (run net (mode_no 1 ∷ mode_no 0 ∷ []) m).refusal) ≡ refusal
  pub at_pair : position (answer (run net (mode_no 1 ∷ mode_no 0 ∷ []) m).refusal) ≡ 0

-- mode 0 takes 10 at pair 0, mode 1 puts 1 at pair 1
abbrev pub lowers : PNet
lowers = two_arcs ∞ (arc 0 0 10 0 ∞) (arc 1 1 0 1 ∞)

-- mode 0 has an inhibitor alone at pair 0, where mode 1 puts 1
abbrev pub watches : PNet
watches = two_arcs ∞ (arc 0 0 0 0 (fin 0)) (arc 1 0 0 1 ∞)

-- mode 0 has an inhibitor alone at pair 0, which K makes idle, and mode 1 takes 1 there
abbrev pub idles : PNet
idles = two_arcs (fin 1) (arc 0 0 0 0 (fin 1)) (arc 1 0 1 0 ∞)

pub record OrderExamples : Type 0 where
  -- Out of range it is false: 1,000,005 is within the limit only once mode 0 has lowered it. No call takes such a marking: it is refused by 5 at that pair.
  pub apart : Apart lowers (mode_no 0) (mode_no 1)
  pub out_of_range : OneOrderAlone lowers (1000005 ∷ 0 ∷ []) 14
  pub untaken : marking_refusal lowers (1000005 ∷ 0 ∷ []) ≡ some (wrong Argument (MarkingOutside (pair_no 0)))
  -- An arc with an inhibitor alone counts: without it these two would be apart, and one order alone is accepted from a marking that calls take.
  pub shared : ¬ Apart watches (mode_no 0) (mode_no 1)
  pub inhibitor_alone : OneOrderAlone watches (0 ∷ 0 ∷ []) 13
  pub taken : marking_refusal watches (0 ∷ 0 ∷ []) ≡ none
  -- Apart in the complement is not apart in the net: an arc that is blank in the complement is left out there.
  pub shared_in_net : ¬ Apart idles (mode_no 0) (mode_no 1)
  pub apart_in_complement : Apart (complement idles) (mode_no 0) (mode_no 1)
