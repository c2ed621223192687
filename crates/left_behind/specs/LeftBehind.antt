-- What was left behind (ours): the kilograms that stand in the figure of a net's marking and, by its complement's marking, should not. The definitions, then
-- what is promised of them.
use Rattle.std.specs.Prelude.{ℕ, ◌≤◌, ◌<◌, ◌≡◌, List, [], ◌∷◌, map, ℤ, pos, negsuc, ◌+ℤ◌, ◌-ℤ◌, ◌*ℤ◌}
use Rattle.std.proofs.Math.Option.{none}
use Rattle.model.specs.declared.CapacityRule.TheVariants.{Strong}
use Rattle.model.specs.declared.Mode.{Mode}
use Rattle.model.specs.Numbers.{fin, ∞}
use Rattle.model.specs.Nets.{PNet, pairs, mode_no, count}
use Rattle.model.specs.Firing.{fired}
use Rattle.movement.specs.Runs.{run}
use Rattle.movement.specs.Figures.{sum, weight, figure}
use Rattle.second_form.specs.Complement.{complement, Corresponds}
use Rattle.second_form.specs.DemandThree.{Complementable}
use Rattle.both_forms.specs.Audit.{excess, audited, marked, takes, at_pair0}
use Rattle.both_forms.specs.WorkedExamples.{arc}

-- the sum over all pairs, unbounded ones too, of weight times excess
unfoldable pub left_behind : PNet → List ℤ → List ℕ → List ℕ → ℤ
left_behind net weights m m' = sum (pairs net) (λ p. weight weights p *ℤ excess net m m' p)

-- 1. Where the complement's marking is in step with some marking t, the figure of m is wrong by exactly so much. Of m nothing is asked.
abbrev pub WrongBy : Type 0
WrongBy = (net : PNet) (weights : List ℤ) (m m' t : List ℕ) → Corresponds net t m'
    → left_behind net weights m m' ≡ figure net weights m -ℤ figure net weights t

-- 2. The old fault, along a list. A movement that was made, and how the tracker entered it: rightly, or "as a mark (Post added, Pre not taken)".
pub data Entered : Type 0 where
  rightly : Mode → Entered
  as_mark : Mode → Entered

abbrev pub made : Entered → Mode
made (rightly t) = t
made (as_mark t) = t

-- the tracker's marking after an entry, and after a list of them; nothing is tested, and where fewer than Pre are there, 0 are left
abbrev pub entered : PNet → Entered → List ℕ → List ℕ
entered net (rightly t) m = fired net t m
entered net (as_mark t) m = marked net t m

unfoldable pub tracked : PNet → List Entered → List ℕ → List ℕ
tracked net [] m = m
tracked net (e ∷ es) m = tracked net es (entered net e m)

-- the weight of what an entry should have taken and did not, and of what those of a list did not
unfoldable pub not_taken : PNet → List ℤ → Entered → ℤ
not_taken net weights (rightly t) = pos 0
not_taken net weights (as_mark t) = sum (pairs net) (λ p. weight weights p *ℤ pos (takes net t p))

unfoldable pub all_not_taken : PNet → List ℤ → List Entered → ℤ
all_not_taken net weights [] = pos 0
all_not_taken net weights (e ∷ es) = not_taken net weights e +ℤ all_not_taken net weights es

-- From markings in step, the complement's run accepting every movement: what the entries as marks did not take is what was left behind.
abbrev pub StaysInTheSum : Type 0
StaysInTheSum = (net : PNet) → Complementable net → (weights : List ℤ) (es : List Entered) (m m' : List ℕ) → Corresponds net m m'
    → (run (complement net) (map made es) m').refusal ≡ none
    → left_behind net weights (tracked net es m) (run (complement net) (map made es) m').marking ≡ all_not_taken net weights es

-- From a marking m that has left things behind already, and nowhere fewer than the true one, t: the marks of the list add what they did not take.
abbrev pub AddsToTheSum : Type 0
AddsToTheSum = (net : PNet) → Complementable net → (weights : List ℤ) (es : List Entered) (m m' t : List ℕ) → Corresponds net t m'
    → ((p : ℕ) → p < pairs net → count t p ≤ count m p) → (run (complement net) (map made es) m').refusal ≡ none
    → left_behind net weights (tracked net es m) (run (complement net) (map made es) m').marking ≡ left_behind net weights m m' +ℤ all_not_taken net weights es

-- Marks only ever leave too many: no count of the tracker's is below the true one, so that what is entered rightly is taken whole.
abbrev pub NeverTooFew : Type 0
NeverTooFew = (net : PNet) (es : List Entered) (m : List ℕ) → (run net (map made es) m).refusal ≡ none
    → (p : ℕ) → p < pairs net → count (run net (map made es) m).marking p ≤ count (tracked net es m) p

-- 3. Nothing is left behind where the markings are in step, and where every movement was entered rightly.
pub record NothingLeft (net : PNet) (weights : List ℤ) (m m' : List ℕ) : Type 0 where
  pub in_step : left_behind net weights m m' ≡ pos 0
  pub no_marks : Complementable net → (ts : List Mode) → (run (complement net) ts m').refusal ≡ none
      → left_behind net weights (tracked net (map rightly ts) m) (run (complement net) ts m').marking ≡ pos 0

abbrev pub LeavesNothing : Type 0
LeavesNothing = (net : PNet) (weights : List ℤ) (m m' : List ℕ) → Corresponds net m m' → NothingLeft net weights m m'

-- 4. Of two pairs, aboard (K 5) and ashore (unbounded), and one mode, which takes one from aboard and gives one ashore. 3 were aboard, and one was landed.
abbrev pub landing : PNet
landing =
    record {
      rule = Strong;
      colours = 2 ∷ [];
      modes_of = 1 ∷ [];
      capacity = fin 5 ∷ ∞ ∷ [];
      start = 3 ∷ 0 ∷ [];
      arcs = arc 0 0 1 0 ∞ ∷ arc 0 1 0 1 ∞ ∷ [];
    }

abbrev pub landed : List ℕ
landed = (run (complement landing) (mode_no 0 ∷ []) (complement landing).start).marking

abbrev pub left : List ℤ → List ℕ → ℤ
left weights m = left_behind landing weights m landed

pub record LeftBehindExamples : Type 0 where
  pub beside : landed ≡ 2 ∷ 1 ∷ 3 ∷ []
  -- at 250 kg an item aboard: entered rightly, and as a mark
  pub right : left (pos 250 ∷ pos 0 ∷ []) (tracked landing (rightly (mode_no 0) ∷ []) (3 ∷ 0 ∷ [])) ≡ pos 0
  pub mark : left (pos 250 ∷ pos 0 ∷ []) (tracked landing (as_mark (mode_no 0) ∷ []) (3 ∷ 0 ∷ [])) ≡ pos 250
  -- 0 does not say that the markings are in step: not entered at all, at 250 kg an item anywhere; and one too many at each pair, where one weight is below 0
  pub cancelled : (left (pos 250 ∷ pos 250 ∷ []) (3 ∷ 0 ∷ []) ≡ pos 0) × (audited landing (3 ∷ 0 ∷ []) landed ≡ at_pair0 (pos 1))
  pub opposed : (left (pos 250 ∷ negsuc 249 ∷ []) (3 ∷ 2 ∷ []) ≡ pos 0) × (audited landing (3 ∷ 2 ∷ []) landed ≡ at_pair0 (pos 1))
