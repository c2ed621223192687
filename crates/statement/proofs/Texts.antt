-- The text of an input, sheet by sheet: a sheet that is refused, or what follows an accepted one.
use Prim.Native.Nat.{ℕ, ◌<◌, ◌^◌}
use mathlib.Core.Path.{◌≡◌, sym, ◌∙◌, ap}
use mathlib.Core.List.{List}
use mathlib.Core.Option.{Option}
use lib.IntN.{ℤ}
use lib.Signed.{mag}
use mir.Syntax.{w64}
use mir.Val.{to_z, of_z, hbits}
use mir.Facts.{to_z-of_z}
use native.Mathlib.Omega.{arith}
use Rattle.model.specs.declared.Mode.{Mode}
use Rattle.model.specs.declared.Refusal.{Refusal}
use Rattle.model.specs.Refusals.{Answer}
use Rattle.std.specs.Prelude.{Ok, Err}
use Rattle.model.specs.Refusals.{answer}
use Rattle.model.specs.Nets.{PNet}
use Rattle.movement.specs.Figures.{figure}
use Rattle.movement.specs.Runs.{run}
use Rattle.run.specs.Parts.{RunTells}
use Rattle.model.proofs.Refusals.{answer-refused, answer-none}
use Rattle.writes.specs.Writes.{Writes}
use Rattle.statement.specs.lines.Lines.{start_line, bad_line}
use Rattle.statement.specs.Replay.{unless_refused, lines_from, run_text, room}
use Rattle.writes.proofs.Writing.{◌and◌, within}
use Rattle.statement.proofs.Telling.{most_lines}

module _ {out : List ℕ} {after : ℕ} {now : List ℕ} where
  module _ {a : Answer} (o : Option Refusal) (text : List ℕ) (e : a ≡ answer o) where
    pub bad_told : {r : Refusal} → a ≡ Err r → Writes 67 out 0 (bad_line r) after now → Writes room out 0 (unless_refused o text bad_line) after now
    unfolding unless_refused
    bad_told h p = rw (answer-refused o (sym e ∙ h)) (within p (omega (arith, p.within)))

    pub text-told : a ≡ Ok tt → Writes room out 0 text after now → Writes room out 0 (unless_refused o text bad_line) after now
    unfolding unless_refused
    text-told h p = rw (answer-none o e h) p

  -- `start`, then the movements
  pub run-told : (net : PNet) (weights : List ℤ) (ts : List Mode) {z : ℤ} {then : ℕ} {middle : List ℕ} → z ≡ figure net weights net.start
      → Writes 27 out 0 (start_line z) then middle → Writes most_lines middle then (lines_from net weights 0 ts net.start) after now
      → Writes room out 0 (run_text net weights ts) after now
  unfolding run_text
  run-told net weights ts e p q =
      let all = rw e at p and q in
      within all (omega (arith, all.within))

-- of the marking that a run starts from, where that is the first: its figure, and what the run tells
module _ (net : PNet) {m : List ℕ} (e : m ≡ net.start) where
  pub started_weighs : (weights : List ℤ) {z : ℤ} → mag z < 2 ^ hbits w64 → z ≡ figure net weights m → to_z w64 (of_z w64 z) ≡ figure net weights net.start
  started_weighs weights fits f = to_z-of_z {w = w64} (record { sfits = fits }) ∙ f ∙ ap (figure net weights) e

  pub started_tells : (ts : List Mode) {accepted : ℕ} {a : Answer} → RunTells (run net ts m) accepted a → RunTells (run net ts net.start) accepted a
  started_tells ts t = rw e at t
