-- The conversions of a net sheet: what they answer, and what they leave in the output slice.
-- Document 02, P9: "Add conversion from 1 to 2 and back"; "a conversion answers 2 to a sheet of its target version and 10 to a short output".
-- P10: "Converting a rule-1 sheet to version 1 is always refused by 23, before 10."
use Rattle.std.specs.Prelude.{ℕ, not, List, eqb, length, Result}
use Rattle.std.proofs.Math.Option.{Option, none, some}
use Rattle.model.specs.declared.Thing.TheVariants.{Net}
use Rattle.model.specs.declared.Fault.TheVariants.{WrongVersion, RuleLost}
use Rattle.model.specs.declared.Refusal.{Refusal}
use Rattle.model.specs.declared.Version.{Version}
use Rattle.model.specs.declared.Version.TheVariants.{One, Two}
use Rattle.model.specs.declared.CapacityRule.{CapacityRule}
use Rattle.model.specs.declared.CapacityRule.TheVariants.{Strong, Weak}
use Rattle.model.specs.First.{◌▸◌, only_if}
use Rattle.model.specs.Refusals.{wrong}
use Rattle.heads.specs.Layout.{version}
use Rattle.heads.specs.Checks.{head_refusal}
use Rattle.sheets.specs.nets.Nets.{net_fields}
use Rattle.sheets.specs.Whole.{bytes_after}
use Rattle.sheets.specs.Decoded.{net_of}
use Rattle.sheets.specs.written.Written.{version_number, sheet_of}
use Rattle.sheets.specs.Emitted.{emitted, output, too_short}

-- the net's refusals where sheets of one version alone are read: any other version byte is 2, in 2's place ("1, then L = 0, then 2, then the fields")
unfoldable pub of_version : Version → List ℕ → Option Refusal
of_version v s =
    head_refusal Net s ▸ only_if (not (eqb (version s) (version_number v))) (wrong Net (WrongVersion 4)) ▸ net_fields s ▸ bytes_after Net s

-- the sheet that is to be written: the same net
abbrev pub converted_sheet : Version → List ℕ → List ℕ
converted_sheet target s = sheet_of target (net_of s)

-- 23: version 1 has no rule byte
unfoldable pub lost_rule : Version → CapacityRule → Option Refusal
lost_rule One Strong = none
lost_rule One Weak = some (wrong Net RuleLost)
lost_rule Two rule = none

-- of a sheet that has been read: 23, then "10 to a short output"
unfoldable pub open_refusal : Version → List ℕ → ℕ → Option Refusal
open_refusal target s room = lost_rule target (net_of s).rule ▸ too_short (converted_sheet target s) room

unfoldable pub convert_refusal : Version → Version → List ℕ → ℕ → Option Refusal
convert_refusal source target s room = of_version source s ▸ open_refusal target s room

module _ (source target : Version) (net out : List ℕ) where
  abbrev pub conversion_of : Result ℕ Refusal
  conversion_of = emitted (convert_refusal source target net (length out)) (length (converted_sheet target net))

  abbrev pub output_of : List ℕ
  output_of = output (convert_refusal source target net (length out)) (converted_sheet target net) out
