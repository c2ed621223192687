-- What is promised of the text, in the words of running a list (`movement/specs/Runs.antt`). The one term is `text-of-run` of proofs/TextOfRun.antt.
use Rattle.std.specs.Prelude.{ℕ, ◌+◌, ◌≡◌, List, [], ◌∷◌, ◌++◌, ℤ, take, get_or}
use Rattle.std.proofs.Math.Option.{none, some}
use Rattle.model.specs.declared.Mode.{Mode}
use Rattle.model.specs.Nets.{PNet, mode_no}
use Rattle.model.specs.Firing.{fired}
use Rattle.movement.specs.Runs.{Outcome, run}
use Rattle.movement.specs.Figures.{figure}
use Rattle.statement.specs.lines.Lines.{start_line, accepted_line, refused_line, end_line}
use Rattle.statement.specs.Replay.{run_text}

module _ (net : PNet) (weights : List ℤ) where
  -- a line for each movement of a list, after k others and from the marking m
  unfoldable pub accepted_lines : ℕ → List Mode → List ℕ → List ℕ
  accepted_lines k [] m = []
  accepted_lines k (t ∷ ts) m = accepted_line (k + 1) t (figure net weights (fired net t m)) ++ accepted_lines (k + 1) ts (fired net t m)

  -- `refused` where the run names a refusal, and `end`, where t is the movement after those accepted
  unfoldable pub last_lines : Outcome → Mode → List ℕ
  last_lines o t =
      elim o.refusal [ none ↦ [] | some r ↦ refused_line (o.accepted + 1) t r ] ++ end_line o.accepted (figure net weights o.marking)

  -- a line for each movement that the run accepts, and its last lines
  abbrev pub lines_of : Outcome → List Mode → List ℕ → List ℕ
  lines_of o ts m = accepted_lines 0 (take o.accepted ts) m ++ last_lines o (get_or ts o.accepted (mode_no 0))

abbrev pub TextOfRun : Type 0
TextOfRun = (net : PNet) (weights : List ℤ) (ts : List Mode)
    → run_text net weights ts ≡ start_line (figure net weights net.start) ++ lines_of net weights (run net ts net.start) ts net.start
