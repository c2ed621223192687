-- What is promised of a net whose pair can be stripped bare. Each statement is a type; docs/ARCHITECTURE.md names the one term of proofs/ that has it.
use Rattle.std.specs.Prelude.{ℕ, ◌≤◌, ◌<◌, ◌≡◌, List, ◌↔◌, ◌≢◌, ℤ, length, get_or}
use Rattle.std.proofs.Math.Option.{none}
use Rattle.model.specs.declared.Pair.{Pair}
use Rattle.model.specs.declared.Mode.{Mode}
use Rattle.model.specs.declared.Thing.{Thing}
use Rattle.model.specs.Numbers.{fin}
use Rattle.model.specs.Nets.{PNet, pairs, modes, mode_no, K, count, row}
use Rattle.model.specs.Markings.{Marking, marking_refusal}
use Rattle.model.specs.WellFormed.{WellFormed}
use Rattle.model.specs.Firing.{mode_refusal, fired}
use Rattle.movement.specs.Runs.{run, certificate_refusal}
use Rattle.both_forms.specs.Steps.{step_refusal, fired_together}
use Rattle.both_forms.specs.Visits.{visited}
use Rattle.movement.specs.Figures.{figure, change}
use Rattle.second_form.specs.Dead.{dead_pair, first_dead}
use Rattle.bare.specs.Strip.{new_mode, strip}

-- 1. "at every marking within capacity exactly one of the new modes is enabled": the one numbered by the count, which is one of them; "it leaves 0 at that pair,
-- and .. every other pair stays the same".
pub record StripsBare (net : PNet) (p : Pair) (k : ℕ) (m : List ℕ) : Type 0 where
  pub counted : count m p.0 ≤ k
  pub enabled : (about : Thing) (n : ℕ) → n ≤ k → (mode_refusal about (strip net p k) (new_mode net n) m ≡ none) ↔ (n ≡ count m p.0)
  pub bare : count (fired (strip net p k) (new_mode net (count m p.0)) m) p.0 ≡ 0
  pub others : (q : ℕ) → q ≢ p.0 → count (fired (strip net p k) (new_mode net (count m p.0)) m) q ≡ count m q

abbrev pub BareAfter : Type 0
BareAfter = (net : PNet) (p : Pair) (k : ℕ) → WellFormed net → p.0 < pairs net → K net p.0 ≡ fin k → (m : List ℕ) → Marking net m → StripsBare net p k m

-- 2. "Old modes keep their numbers and behaviour": what they have at each pair, their refusals and markings after, in runs, certificates and steps of old
-- modes too, with the arcs that such a run visits, their weight changes and their deadness. What names no mode stays: pairs, markings, figures, the first marking.
abbrev pub Old : PNet → List Mode → Type 0
Old net ts = (i : ℕ) → i < length ts → (get_or ts i (mode_no 0)).0 < modes net

pub record OldModesStay (net : PNet) (p : Pair) (k : ℕ) : Type 0 where
  pub rows : (t : Mode) → t.0 < modes net → row (strip net p k) t ≡ row net t
  pub refusals : (about : Thing) (t : Mode) (m : List ℕ) → t.0 < modes net → mode_refusal about (strip net p k) t m ≡ mode_refusal about net t m
  pub afterwards : (t : Mode) (m : List ℕ) → t.0 < modes net → fired (strip net p k) t m ≡ fired net t m
  pub runs : (ts : List Mode) (m : List ℕ) → Old net ts → run (strip net p k) ts m ≡ run net ts m
  pub steps : (ts : List Mode) (m : List ℕ) → Old net ts → step_refusal (strip net p k) ts m ≡ step_refusal net ts m
  pub after_steps : (ts : List Mode) (m : List ℕ) → Old net ts → fired_together (strip net p k) ts m ≡ fired_together net ts m
  pub certificates : (ts : List Mode) (claim : List ℕ) → Old net ts → certificate_refusal (strip net p k) ts claim ≡ certificate_refusal net ts claim
  pub visits : (ts : List Mode) (m : List ℕ) → Old net ts → visited (strip net p k) ts m ≡ visited net ts m
  pub changes : (weights : List ℤ) (t : Mode) → t.0 < modes net → change (strip net p k) weights t ≡ change net weights t
  pub dead : (t : Mode) → t.0 < modes net → dead_pair (strip net p k) t ≡ dead_pair net t
  pub pairs : pairs (strip net p k) ≡ pairs net
  pub markings : (m : List ℕ) → marking_refusal (strip net p k) m ≡ marking_refusal net m
  pub figures : (weights : List ℤ) (m : List ℕ) → figure (strip net p k) weights m ≡ figure net weights m
  pub start : (strip net p k).start ≡ net.start

abbrev pub OldModes : Type 0
OldModes = (net : PNet) (p : Pair) (k : ℕ) → OldModesStay net p k

-- no new mode is locally dead, so that the first dead mode, if there is one, is the one of before
abbrev pub NoNewDead : Type 0
NoNewDead = (net : PNet) (p : Pair) (k : ℕ) → WellFormed net → K net p.0 ≡ fin k → first_dead (strip net p k) ≡ first_dead net
