-- What is promised of stripping. Each statement is a type; docs/ARCHITECTURE.md names the one term of proofs/ that has it.
use Rattle.std.specs.Prelude.{ℕ, ◌≡◌, List}
use Rattle.std.proofs.Math.Option.{none}
use Rattle.model.specs.declared.Pair.{Pair}
use Rattle.heads.specs.Version.{version_of}
use Rattle.sheets.specs.Whole.{whole_net}
use Rattle.sheets.specs.Decoded.{net_of}
use Rattle.bare.specs.Strip.{strip_refusal}
use Rattle.convert.specs.strip.Stripped.{stripped_net, stripped_sheet}

-- What is written is a whole sheet of the version given that is read as the net with the transition appended, which has the rule given.
pub record StripReads (s : List ℕ) (p : Pair) : Type 0 where
  pub version : version_of (stripped_sheet s p) ≡ version_of s
  pub accepted : whole_net (stripped_sheet s p) ≡ none
  pub same : net_of (stripped_sheet s p) ≡ stripped_net s p
  pub rule : (net_of (stripped_sheet s p)).rule ≡ (net_of s).rule

abbrev pub StrippedReads : Type 0
StrippedReads = (s : List ℕ) (p : Pair) → whole_net s ≡ none → strip_refusal (net_of s) p ≡ none → StripReads s p
