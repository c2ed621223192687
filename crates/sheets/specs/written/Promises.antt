-- What is promised of net sheets. Each statement is a type; docs/ARCHITECTURE.md names the one term of proofs/ that has it.
use Rattle.std.specs.Prelude.{ℕ, ◌≤◌, ◌<◌, ◌≡◌, List, ◌++◌, length}
use Rattle.std.proofs.Math.Option.{none}
use Rattle.model.specs.declared.Version.{Version}
use Rattle.model.specs.declared.Version.TheVariants.{One, Two}
use Rattle.model.specs.declared.CapacityRule.TheVariants.{Strong}
use Rattle.model.specs.Nets.{PNet}
use Rattle.model.specs.Refusals.{answer}
use Rattle.model.specs.WellFormed.{WellFormed}
use Rattle.heads.specs.Bytes.{byte_at}
use Rattle.both_forms.specs.WorkedExamples.{own_example}
use Rattle.heads.specs.Layout.{sheet_end}
use Rattle.heads.specs.Version.{version_of}
use Rattle.sheets.specs.nets.Nets.{net_refusal}
use Rattle.sheets.specs.Whole.{whole_net, rest}
use Rattle.sheets.specs.Decoded.{net_of}
use Rattle.sheets.specs.written.Written.{length_of, sheet_of}

-- "Rule byte 1 in version 2": version 1 has no rule byte, and is the sheet of a net with document 01's rule alone
abbrev pub HasSheet : Version → PNet → Type 0
HasSheet v net = v ≡ One → net.rule ≡ Strong

-- Both directions of a net sheet, in each version. A net that is written can be read back, alone and with bytes after it, which are handed back.
pub record ReadBack (v : Version) (net : PNet) : Type 0 where
  pub version : version_of (sheet_of v net) ≡ v
  pub accepted : whole_net (sheet_of v net) ≡ none
  pub same : net_of (sheet_of v net) ≡ net
  pub accepted_first : (more : List ℕ) → net_refusal (sheet_of v net ++ more) ≡ none
  pub same_first : (more : List ℕ) → net_of (sheet_of v net ++ more) ≡ net
  pub rest_after : (more : List ℕ) → rest (answer (net_refusal (sheet_of v net ++ more))) (sheet_of v net ++ more) ≡ more

abbrev pub WrittenThenRead : Type 0
WrittenThenRead = (v : Version) (net : PNet) → WellFormed net → HasSheet v net → ReadBack v net

-- An accepted net sheet is the sheet of the net that was read from it: there is one sheet of each version for each net.
abbrev pub ReadThenWritten : Type 0
ReadThenWritten = (s : List ℕ) → ((i : ℕ) → i < length s → byte_at s i < 256) → whole_net s ≡ none → s ≡ sheet_of (version_of s) (net_of s)

-- "The largest net sheet is 35,083 bytes."; of version 2 it is 31,498: none is longer, and one of each is as long
abbrev pub largest_of : Version → ℕ
largest_of One = 35083
largest_of Two = 31498

pub record LargestSheet : Type 0 where
  pub most : (s : List ℕ) → net_refusal s ≡ none → sheet_end s ≤ largest_of (version_of s)
  pub reached : (v : Version) → (s : List ℕ) × (version_of s ≡ v) × (whole_net s ≡ none) × (length s ≡ largest_of v)

-- Document 01's own example: "(L = 61)", and its complement "has L = 87".
pub record ExampleLengths : Type 0 where
  pub net : length_of One own_example.net ≡ 61
  pub complement : length_of One own_example.printed ≡ 87
