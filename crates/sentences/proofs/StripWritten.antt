-- What stripping leaves, where it answers a length: the sheet, and the rest as found.
use Prim.Native.Nat.{ℕ}
use mathlib.Core.Path.{◌≡◌, refl, sym, ◌∙◌, ap}
use mathlib.Core.List.{List, ◌++◌}
use mathlib.Core.Option.{none}
use lib.ListN.{length, take, drop}
use lib.Seq.{take_at, drop_at}
use Rattle.model.specs.declared.Pair.{Pair}
use Rattle.model.specs.Replies.{yields}
use Rattle.model.proofs.First.{left-none, right-none}
use Rattle.sheets.specs.Whole.{whole_net}
use Rattle.sheets.specs.Decoded.{net_of}
use Rattle.sheets.specs.Emitted.{emitted, told, output}
use Rattle.bare.specs.Strip.{strip_refusal}
use Rattle.convert.specs.strip.Stripped.{stripped_sheet, room_refusal, stripping_refusal, stripped_of, output_of}
use Rattle.convert.specs.strip.Promises.{StripReads}
use Rattle.convert.proofs.strip.Promises.{stripped_reads_lem}
use Rattle.sentences.proofs.Accepting.{yielded}

module _ (net : List ℕ) (p : Pair) (out : List ℕ) (n : ℕ) (e : told (stripped_of net p out) ≡ yields n) where
  abbrev sheet : List ℕ
  sheet = stripped_sheet net p

  told-length : (stripping_refusal net p (length out) ≡ none) × (n ≡ length sheet)
  told-length = yielded (λ o. told (emitted o (length sheet))) (length sheet) refl (λ r. refl) (stripping_refusal net p (length out)) e

  none-refused : stripping_refusal net p (length out) ≡ none
  none-refused = told-length.0

  size : n ≡ length sheet
  size = told-length.1

  pub whole_before : whole_net net ≡ none
  unfolding stripping_refusal
  whole_before = left-none _ _ none-refused

  pub pair-accepted : strip_refusal (net_of net) p ≡ none
  unfolding stripping_refusal room_refusal
  pair-accepted = left-none _ _ (right-none (whole_net net) _ none-refused)

  pub output-is : output_of net p out ≡ sheet ++ drop (length sheet) out
  output-is = ap (λ o. output o sheet out) none-refused

  pub sheet-there : take n (output_of net p out) ≡ sheet
  sheet-there = ap (take n) output-is ∙ take_at sheet (drop (length sheet) out) n (sym size)

  pub rest-there : drop n (output_of net p out) ≡ drop n out
  rest-there = ap (drop n) output-is ∙ drop_at sheet (drop (length sheet) out) n (sym size) ∙ ap (λ k. drop k out) (sym size)

  pub sheet-reads : StripReads net p
  sheet-reads = stripped_reads_lem net p whole_before pair-accepted
