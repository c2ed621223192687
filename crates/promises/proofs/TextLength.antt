-- How long the text of `replay` is: `start`, at most 8,192 accepted lines of 28 bytes, `refused` and `end`; or `bad`, or `long`.
use Prim.Native.Nat.{ℕ, ◌+◌, ◌*◌, ◌≤◌, ◌<◌}
use mathlib.Core.Path.{◌≡◌, refl}
use mathlib.Core.Bool.{Bool, true, false, cond}
use mathlib.Core.List.{List, [], ◌∷◌, ◌++◌}
use mathlib.Core.Option.{Option, none, some}
use lib.Dec.{ltb}
use lib.IntN.{ℤ, nat_abs}
use lib.ListN.{length, length-append}
use lib.Seq.{get_or-drop}
use native.Mathlib.Omega.{arith}
use Rattle.model.specs.declared.Mode.{Mode}
use Rattle.model.specs.declared.Thing.TheVariants.{Movements}
use Rattle.model.specs.declared.Refusal.{Refusal}
use Rattle.model.specs.Refusals.{Answer}
use Rattle.std.specs.Prelude.{Ok, Err}
use Rattle.model.specs.Refusals.{line, answer, thing}
use Rattle.model.specs.Nets.{PNet, pairs, mode_no}
use Rattle.model.specs.Markings.{Marking}
use Rattle.model.specs.WellFormed.{WellFormed}
use Rattle.model.specs.Firing.{mode_refusal, fired}
use Rattle.movement.specs.Figures.{figure}
use Rattle.movement.proofs.Each.{Each, at_each}
use Rattle.model.proofs.Tables.{table-length, table_at}
use Rattle.model.proofs.First.{left-none}
use Rattle.model.proofs.Firing.{accepted-there}
use Rattle.movement.proofs.Markings.{marking-kept}
use Rattle.heads.specs.Bytes.{byte_at, u16_at}
use Rattle.heads.specs.Layout.{sheet_end, movement_at, movement_count}
use Rattle.sheets.specs.nets.Nets.{net_refusal}
use Rattle.sheets.specs.lists.Weights.{weights_refusal}
use Rattle.sheets.specs.Whole.{whole_movements, rest}
use Rattle.sheets.specs.Decoded.{net_of, weights_of, movements_of}
use Rattle.sheets.proofs.Listed.{movements-within}
use Rattle.opened.specs.Shape.{Open, shape_of}
use Rattle.opened.proofs.Shapes.{sizes}
use Rattle.sheets.proofs.written.BigEndian.{every_byte}
use Rattle.text.proofs.Decimals.{length-at-most, signed-length}
use Rattle.statement.specs.lines.Lines as lines
use Rattle.statement.proofs.lines.LineSizes.{accepted-size}
use Rattle.statement.specs.Replay.{unless_refused, lines_from, run_text, movements_text, weights_text, sheets_text, replay_text}
use Rattle.statement.proofs.Weighed.{figure-size}
use Rattle.promises.specs.EqualNets.{Bytes}
use Rattle.promises.proofs.RefusalSizes.{Small, Says, thing-small, u16, net-says, weights-says, movements-says, mode-says}

-- the lines but those of accepted movements
start-size : (z : ℤ) → nat_abs z ≤ 256000000000000 → length (lines.start_line z) ≤ 23
unfolding lines.line lines.start_line
start-size z h = simp length-append (omega (arith, signed-length z 14 (omega arith)))

end-size : (k : ℕ) (z : ℤ) → k ≤ 8192 → nat_abs z ≤ 256000000000000 → length (lines.end_line k z) ≤ 26
unfolding lines.line lines.end_line
end-size k z l h = simp length-append (omega (arith, length-at-most k 3 (omega arith), signed-length z 14 (omega arith)))

refused-size : (place : ℕ) (t : Mode) (r : Refusal) → place ≤ 8192 → t.0 < 65536 → Small r → length (lines.refused_line place t r) ≤ 62
unfolding lines.line lines.refused_line
refused-size place t r h l s =
    simp length-append
    (omega (
      arith,
      length-at-most place 3 (omega arith),
      length-at-most t.0 4 (omega arith),
      length-at-most (line r.fault).number 1 s.number,
      length-at-most (line r.fault).position 18 s.position,
      length-at-most (line r.fault).amount 18 s.amount,
    ))

bad_size : (r : Refusal) → Small r → length (lines.bad_line r) ≤ 30
unfolding lines.line lines.bad_line
bad_size r s =
    simp length-append
    (omega (
      arith,
      length-at-most (thing (Err r)) 0 (thing-small r),
      length-at-most (line r.fault).number 1 s.number,
      length-at-most (line r.fault).position 18 s.position,
    ))

-- a sheet that is refused, or what follows an accepted one
unless_most : (o : Option Refusal) (text : List ℕ) → Says o → (o ≡ none → length text ≤ 262144) → length (unless_refused o text lines.bad_line) ≤ 262144
unfolding unless_refused
unless_most none text says h = h refl
unless_most (some r) text says h = omega (arith, bad_size r (says.small r refl))

rest_bytes_lem : (a : Answer) (s : List ℕ) → ((i : ℕ) → byte_at s i < 256) → (i : ℕ) → byte_at (rest a s) i < 256
unfolding rest
rest_bytes_lem (Ok tt) s byte i = rw (get_or-drop (sheet_end s) s i 0) (byte (sheet_end s + i))
rest_bytes_lem (Err r) s byte i = byte i

module _ (s : List ℕ) (accepted : net_refusal s ≡ none) (w : List ℕ) (weighed : weights_refusal (pairs (net_of s)) w ≡ none) where
  abbrev net : PNet
  net = net_of s

  opened : Open s (shape_of s)
  opened = record { accepted = accepted; shape = refl }

  well : WellFormed net
  well = (sizes opened).well_formed

  figured : {m : List ℕ} → Marking net m → nat_abs (figure net (weights_of w) m) ≤ 256000000000000
  figured marking = figure-size opened w (rw (sizes opened).pairs weighed) marking

  lines-most : (k : ℕ) (ts : List Mode) (m : List ℕ) → Marking net m → Each (λ t. t.0 < 65536) ts → k + length ts ≤ 8192
      → length (lines_from net (weights_of w) k ts m) ≤ 28 * length ts + 88
  unfolding lines_from unless_refused
  lines-most k [] m marking few h = omega (arith, end-size k (figure net (weights_of w) m) (omega arith) (figured marking))
  lines-most k (t ∷ ts) m marking few h = go (mode_refusal Movements net t m) refl (lines-most (k + 1) ts (fired net t m))
    where
      figure_of : List ℕ → ℤ
      figure_of m = figure net (weights_of w) m

      on : List ℕ
      on = lines_from net (weights_of w) (k + 1) ts (fired net t m)

      go : (o : Option Refusal) → mode_refusal Movements net t m ≡ o
          → (Marking net (fired net t m) → Each (λ t. t.0 < 65536) ts → k + 1 + length ts ≤ 8192 → length on ≤ 28 * length ts + 88)
          → length (unless_refused o (lines.accepted_line (k + 1) t (figure_of (fired net t m)) ++ on) (λ r. lines.refused_line (k + 1) t r ++ lines.end_line k (figure_of m))) ≤ 28 * length (t ∷ ts) + 88
      go none e ih =
          let kept = marking-kept Movements net t m marking e in
          let there = accepted-there Movements net t m e in
          rw length-append
          (omega (
            arith,
            accepted-size (k + 1) t (figure_of (fired net t m)) (omega arith) (omega (arith, well.transitions.in_total)) (figured kept),
            ih kept few.1 (omega arith),
          ))
      go (some r) e ih =
          rw length-append
          (omega (
            arith,
            refused-size (k + 1) t r (omega arith) few.0 ((mode-says net well t marking).small r e),
            end-size k (figure_of m) (omega arith) (figured marking),
          ))

  run-most : (ts : List Mode) → Each (λ t. t.0 < 65536) ts → length ts ≤ 8192 → length (run_text net (weights_of w) ts) ≤ 262144
  unfolding run_text
  run-most ts few h =
      rw length-append
      (omega (arith, start-size (figure net (weights_of w) net.start) (figured well.start), lines-most 0 ts net.start well.start few (omega arith)))

  movements-most : (part : List ℕ) → ((i : ℕ) → byte_at part i < 256) → length (movements_text net (weights_of w) part) ≤ 262144
  unfolding movements_text whole_movements movements_of
  movements-most part byte =
      unless_most (whole_movements part) _ (movements-says part byte)
      (λ e.
      run-most (movements_of part)
      (at_each (λ t. t.0 < 65536) (mode_no 0) (movements_of part)
      (λ k h.
      let l : k < movement_count part = omega (arith, table-length (movement_count part) (λ k. mode_no (u16_at part (movement_at k)))) in
      rw (table_at (movement_count part) (λ k. mode_no (u16_at part (movement_at k))) (mode_no 0) k l) (u16 part byte (movement_at k))))
      (movements-within part (left-none _ _ e)))

weights-most : (s : List ℕ) → net_refusal s ≡ none → (part : List ℕ) → ((i : ℕ) → byte_at part i < 256) → length (weights_text (net_of s) part) ≤ 262144
unfolding weights_text
weights-most s accepted part byte =
    let refusal = weights_refusal (pairs (net_of s)) part in
    unless_most refusal _ (weights-says part byte (pairs (net_of s)))
    (λ e. movements-most s accepted part e (rest (answer refusal) part) (rest_bytes_lem (answer refusal) part byte))

pub text-most : (input : List ℕ) → Bytes input → length (replay_text input) ≤ 262144
unfolding replay_text sheets_text lines.long_line lines.line
text-most input bytes = go (ltb 65536 (length input))
  where
    byte : (i : ℕ) → byte_at input i < 256
    byte = every_byte input bytes

    go : (b : Bool) → length (cond b lines.long_line (sheets_text input)) ≤ 262144
    go true = omega arith
    go false =
        unless_most (net_refusal input) _ (net-says input byte)
        (λ e. weights-most input e (rest (answer (net_refusal input)) input) (rest_bytes_lem (answer (net_refusal input)) input byte))
