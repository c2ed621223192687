-- The text of a list is that of its run, by induction over the list.
use Prim.Native.Nat.{ℕ, suc, ◌+◌}
use mathlib.Core.Path.{◌≡◌, refl, ◌∙◌, ap}
use mathlib.Core.List.{List, [], ◌∷◌, ◌++◌, append_assoc}
use mathlib.Core.Option.{Option, none, some}
use lib.IntN.{ℤ}
use lib.ListN.{take, get_or}
use native.Mathlib.Omega.{arith}
use Rattle.model.specs.declared.Mode.{Mode}
use Rattle.model.specs.declared.Thing.TheVariants.{Movements}
use Rattle.model.specs.declared.Refusal.{Refusal}
use Rattle.model.specs.Nets.{PNet, mode_no}
use Rattle.model.specs.Firing.{mode_refusal, fired}
use Rattle.movement.specs.Runs.{Outcome, go_on, run_from, run}
use Rattle.movement.specs.Figures.{figure}
use Rattle.statement.specs.lines.Lines.{start_line, accepted_line, refused_line, end_line}
use Rattle.statement.specs.Promises.{accepted_lines, last_lines, lines_of, TextOfRun}
use Rattle.statement.specs.Replay.{unless_refused, lines_from, run_text}

module _ (net : PNet) (weights : List ℤ) where
  -- k movements were accepted, and `steps` more of ts are
  record Told (k : ℕ) (ts : List Mode) (m : List ℕ) (lines : List ℕ) (o : Outcome) : Type 0 where
    steps : ℕ
    counted : o.accepted ≡ k + steps
    told : lines ≡ accepted_lines net weights k (take steps ts) m ++ last_lines net weights o (get_or ts steps (mode_no 0))

  tells : (k : ℕ) (ts : List Mode) (m : List ℕ) → Told k ts m (lines_from net weights k ts m) (run_from net k ts m)
  unfolding lines_from run_from accepted_lines last_lines unless_refused
  tells k [] m = record { steps = 0; counted = omega arith; told = refl }
  tells k (t ∷ ts) m = go (mode_refusal Movements net t m) refl (tells (k + 1) ts (fired net t m))
    where
      line : List ℕ
      line = accepted_line (k + 1) t (figure net weights (fired net t m))

      rest : List ℕ
      rest = lines_from net weights (k + 1) ts (fired net t m)

      next : Outcome
      next = run_from net (k + 1) ts (fired net t m)

      go : (o : Option Refusal) → mode_refusal Movements net t m ≡ o → Told (k + 1) ts (fired net t m) rest next
          → Told k (t ∷ ts) m
          (unless_refused (mode_refusal Movements net t m) (line ++ rest) (λ r. refused_line (k + 1) t r ++ end_line k (figure net weights m)))
          (go_on (mode_refusal Movements net t m) k m next)
      go none e f = rw e (record { steps = suc f.steps; counted = omega (arith, f.counted); told = rw append_assoc (ap (λ l. line ++ l) f.told) })
      go (some r) e f = rw e (record { steps = 0; counted = omega arith; told = refl })

  pub lines-of-run : (ts : List Mode) (m : List ℕ) → lines_from net weights 0 ts m ≡ lines_of net weights (run net ts m) ts m
  lines-of-run ts m =
      let f = tells 0 ts m in
      let is : (run net ts m).accepted ≡ f.steps = f.counted ∙ omega arith in
      rw (← is) at f.told

pub text-of-run : TextOfRun
unfolding run_text
text-of-run net weights ts = ap (λ l. start_line (figure net weights net.start) ++ l) (lines-of-run net weights ts net.start)
