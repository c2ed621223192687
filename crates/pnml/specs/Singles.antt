-- Document 02, P5: the net that an export comes back as, and the exports that are refused, "4 where there are more than 64 pairs or modes, then 10".
use Rattle.std.specs.Prelude.{ℕ, ◌||◌, List, ltb, replicate}
use Rattle.std.proofs.Math.Option.{Option}
use Rattle.model.specs.declared.Thing.TheVariants.{Argument}
use Rattle.model.specs.declared.Fault.TheVariants.{CountOutside}
use Rattle.model.specs.declared.Refusal.{Refusal}
use Rattle.model.specs.declared.Version.TheVariants.{One}
use Rattle.model.specs.declared.CapacityRule.TheVariants.{Strong}
use Rattle.model.specs.First.{◌▸◌, only_if}
use Rattle.model.specs.Numbers.{∞}
use Rattle.model.specs.Nets.{PNet, pairs, modes}
use Rattle.model.specs.Refusals.{wrong}
use Rattle.sheets.specs.written.Written.{sheet_of}
use Rattle.sheets.specs.Emitted.{too_short}

-- "the same pairs, modes, numbers and first marking, with each pair a place of one colour and each mode a transition of one mode"; the text says no rule, and version 1 has document 01's
abbrev pub singles : PNet → PNet
singles net =
    record {
      rule = Strong;
      colours = replicate (pairs net) 1;
      modes_of = replicate (modes net) 1;
      capacity = replicate (pairs net) ∞;
      start = net.start;
      arcs = net.arcs;
    }

-- the sheet that is to be written
abbrev pub imported_sheet : PNet → List ℕ
imported_sheet net = sheet_of One (singles net)

-- "4 where there are more than 64 pairs or modes": a sheet has at most 64 places and 64 transitions
abbrev pub too_many : PNet → Option Refusal
too_many net = only_if (ltb 64 (pairs net) || ltb 64 (modes net)) (wrong Argument (CountOutside 0))

unfoldable pub import_refusal : PNet → ℕ → Option Refusal
import_refusal net room = too_many net ▸ too_short (imported_sheet net) room
