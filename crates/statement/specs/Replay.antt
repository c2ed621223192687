-- Document 01, "`replay`": what is printed for an input. "Standard input: a net sheet, a weight sheet, a movement sheet, then nothing."
use Rattle.std.specs.Prelude.{ℕ, ◌+◌, cond, List, [], ◌∷◌, ◌++◌, ltb, ℤ, length, Result}
use Rattle.std.proofs.Math.Option.{Option, none, some}
use Rattle.model.specs.declared.Mode.{Mode}
use Rattle.model.specs.declared.Thing.TheVariants.{Net, Movements}
use Rattle.model.specs.declared.Fault.TheVariants.{NoRoom}
use Rattle.model.specs.declared.Refusal.{Refusal}
use Rattle.model.specs.First.{only_if}
use Rattle.model.specs.Refusals.{answer, wrong}
use Rattle.model.specs.Nets.{PNet, pairs}
use Rattle.model.specs.Firing.{mode_refusal, fired}
use Rattle.movement.specs.Figures.{figure}
use Rattle.sheets.specs.nets.Nets.{net_refusal}
use Rattle.sheets.specs.lists.Weights.{weights_refusal}
use Rattle.sheets.specs.Whole.{whole_movements, rest}
use Rattle.sheets.specs.Decoded.{net_of, weights_of, movements_of}
use Rattle.sheets.specs.Emitted.{emitted, output}
use Rattle.statement.specs.lines.Lines.{start_line, accepted_line, refused_line, end_line, bad_line, long_line}

-- a text, or what is printed of a refusal in its stead: "A bad sheet prints only `bad`, the thing, the number and the position."
unfoldable pub unless_refused : Option Refusal → List ℕ → (Refusal → List ℕ) → List ℕ
unless_refused none text refused = text
unless_refused (some r) text refused = refused r

module _ (net : PNet) (weights : List ℤ) where
  -- What follows k accepted movements that gave the marking m, where ts are those left: "an accepted line is position in the list counted from 1, mode,
  -- answer, figure", the figure after it; a refused movement is the last, and `end` follows with "movements accepted and last figure".
  unfoldable pub lines_from : ℕ → List Mode → List ℕ → List ℕ
  lines_from k [] m = end_line k (figure net weights m)
  lines_from k (t ∷ ts) m =
      unless_refused (mode_refusal Movements net t m)
      (accepted_line (k + 1) t (figure net weights (fired net t m)) ++ lines_from (k + 1) ts (fired net t m))
      (λ r. refused_line (k + 1) t r ++ end_line k (figure net weights m))

  -- "`replay` and certificates start from the net's first marking."
  unfoldable pub run_text : List Mode → List ℕ
  run_text ts = start_line (figure net weights net.start) ++ lines_from 0 ts net.start

  -- "Bytes after the third sheet count as movements, refusal 3, at the offset counted from that sheet's first byte."
  unfoldable pub movements_text : List ℕ → List ℕ
  movements_text part = unless_refused (whole_movements part) (run_text (movements_of part)) bad_line

-- the weight sheet stands in the part after the net sheet, the movement sheet in the part after the weight sheet
unfoldable pub weights_text : PNet → List ℕ → List ℕ
weights_text net part =
    let refusal = weights_refusal (pairs net) part in
    unless_refused refusal (movements_text net (weights_of part) (rest (answer refusal) part)) bad_line

unfoldable pub sheets_text : List ℕ → List ℕ
sheets_text input = unless_refused (net_refusal input) (weights_text (net_of input) (rest (answer (net_refusal input)) input)) bad_line

-- "Input above 65,536 bytes prints only `long`."
unfoldable pub replay_text : List ℕ → List ℕ
replay_text input = cond (ltb 65536 (length input)) long_line (sheets_text input)

-- The call writes into a slice that is lent, and is refused where it is shorter than this: no input has a longer text.
abbrev pub room : ℕ
room = 262144

-- 10, "or the output slice is shorter than it", whatever the text
abbrev pub statement_refusal : ℕ → Option Refusal
statement_refusal length = only_if (ltb length room) (wrong Net NoRoom)

-- what it answers, and what it leaves in the slice
unfoldable pub stated : List ℕ → List ℕ → Result ℕ Refusal
stated input out = emitted (statement_refusal (length out)) (length (replay_text input))

unfoldable pub stated_in : List ℕ → List ℕ → List ℕ
stated_in input out = output (statement_refusal (length out)) (replay_text input) out
