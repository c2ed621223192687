-- What is promised of the conversions. Each statement is a type; docs/ARCHITECTURE.md names the one term of proofs/ that has it.
use Rattle.std.specs.Prelude.{ℕ, ◌≤◌, ◌<◌, ◌≡◌, ◌≢◌, List, ◌++◌, length, take, drop, Ok}
use Rattle.std.proofs.Math.Option.{none, some}
use Rattle.model.specs.declared.Thing.TheVariants.{Net}
use Rattle.model.specs.declared.Fault.TheVariants.{WrongVersion}
use Rattle.model.specs.declared.Version.{Version}
use Rattle.model.specs.Refusals.{wrong}
use Rattle.heads.specs.Bytes.{byte_at}
use Rattle.heads.specs.Version.{version_of}
use Rattle.sheets.specs.Whole.{whole_net}
use Rattle.sheets.specs.Decoded.{net_of}
use Rattle.convert.specs.Converted.{of_version, lost_rule, converted_sheet, conversion_of, output_of}

-- "a conversion answers 2 to a sheet of its target version", and takes every sheet of its source version that another call takes
pub record SourceOnly : Type 0 where
  pub own : (v : Version) (s : List ℕ) → version_of s ≡ v → of_version v s ≡ whole_net s
  pub other : (v : Version) (s : List ℕ) → version_of s ≢ v → whole_net s ≡ none → of_version v s ≡ some (wrong Net (WrongVersion 4))

-- what is written is a whole sheet of the target version that is read as the same net, its rule included, by the other conversion too
pub record SameNet (target : Version) (s : List ℕ) : Type 0 where
  pub version : version_of (converted_sheet target s) ≡ target
  pub accepted : whole_net (converted_sheet target s) ≡ none
  pub back : of_version target (converted_sheet target s) ≡ none
  pub same : net_of (converted_sheet target s) ≡ net_of s

abbrev pub ConvertedReads : Type 0
ConvertedReads = (source target : Version) (s : List ℕ) → of_version source s ≡ none → lost_rule target (net_of s).rule ≡ none → SameNet target s

-- "with the old bytes returned exactly": of two conversions, there and back, both calls included
pub record Returned (source target : Version) (s : List ℕ) : Type 0 where
  pub sheet : lost_rule target (net_of s).rule ≡ none → converted_sheet source (converted_sheet target s) ≡ s
  pub calls : (out back left : List ℕ) (n : ℕ) → length s ≤ length back
      → Ok n ≡ conversion_of source target s out → left ≡ output_of source target s out
      → (Ok (length s) ≡ conversion_of target source (take n left) back) × (s ++ drop (length s) back ≡ output_of target source (take n left) back)

abbrev pub ThereAndBack : Type 0
ThereAndBack = (source target : Version) (s : List ℕ) → ((i : ℕ) → i < length s → byte_at s i < 256) → of_version source s ≡ none → Returned source target s
