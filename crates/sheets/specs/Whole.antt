-- Bytes after a sheet: left over where a call takes one sheet as an argument, handed back where a reader is called on a run of bytes.
use Rattle.std.specs.Prelude.{ℕ, List, length, drop, ltb}
use Rattle.std.proofs.Math.Option.{Option}
use Rattle.model.specs.declared.Thing.{Thing}
use Rattle.model.specs.declared.Thing.TheVariants.{Net, Weights, Movements}
use Rattle.model.specs.declared.Fault.TheVariants.{WrongLength}
use Rattle.model.specs.declared.Refusal.{Refusal}
use Rattle.model.specs.Refusals.{Answer}
use Rattle.std.specs.Prelude.{Ok, Err}
use Rattle.model.specs.First.{◌▸◌, only_if}
use Rattle.heads.specs.Layout.{sheet_end}
use Rattle.model.specs.Refusals.{wrong}
use Rattle.sheets.specs.nets.Nets.{net_refusal}
use Rattle.sheets.specs.lists.Weights.{weights_refusal}
use Rattle.sheets.specs.lists.Movements.{movements_refusal}

-- "A call that takes one sheet as an argument refuses left-over bytes by 3."
unfoldable pub bytes_after : Thing → List ℕ → Option Refusal
bytes_after thing s = only_if (ltb (sheet_end s) (length s)) (wrong thing (WrongLength (sheet_end s)))

unfoldable pub whole_net : List ℕ → Option Refusal
whole_net s = net_refusal s ▸ bytes_after Net s

unfoldable pub whole_weights : ℕ → List ℕ → Option Refusal
whole_weights pairs s = weights_refusal pairs s ▸ bytes_after Weights s

unfoldable pub whole_movements : List ℕ → Option Refusal
whole_movements s = movements_refusal s ▸ bytes_after Movements s

-- A reader "hands back the part of the caller's bytes after the sheet, which may be empty; on a refusal it hands back the whole run."
unfoldable pub rest : Answer → List ℕ → List ℕ
rest (Ok tt) s = drop (sheet_end s) s
rest (Err r) s = s
