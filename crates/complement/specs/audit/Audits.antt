-- Audit (ours): the net's refusals and those of complementing, then 17 for each marking; then the lowest pair that is out of step, with its excess, or none.
use Rattle.std.specs.Prelude.{ℕ, ℤ, List, Result, Ok, Err, Some, None, Option as Perhaps}
use Rattle.std.proofs.Math.Option.{Option, none, some}
use Rattle.model.specs.declared.Pair.{Pair}
use Rattle.model.specs.declared.Refusal.{Refusal}
use Rattle.model.specs.First.{◌▸◌}
use Rattle.model.specs.Replies.{Reply, yields, refuses}
use Rattle.both_forms.specs.Audit.{Finding, audited, audit_refusal}
use Rattle.sheets.specs.Whole.{whole_net}
use Rattle.sheets.specs.Decoded.{net_of}
use Rattle.opened.specs.Shape.{arc_offset}

-- a pair and its excess, or none
abbrev pub found : Option Finding → Perhaps (Pair × ℤ)
found none = None
found (some f) = Some (f.pair, f.excess)

-- the first refusal, if there is one, or what the audit finds
unfoldable pub finds : Option Refusal → Option Finding → Result (Perhaps (Pair × ℤ)) Refusal
finds none finding = Ok (found finding)
finds (some r) finding = Err r

-- the number, thing, position and value of each answer
abbrev pub told : Result (Perhaps (Pair × ℤ)) Refusal → Reply (Option Finding)
told (Ok (Some (p, z))) = yields (some (record { pair = p; excess = z }))
told (Ok None) = yields none
told (Err r) = refuses r

module _ (net marking beside : List ℕ) where
  unfoldable pub auditing_refusal : Option Refusal
  auditing_refusal = whole_net net ▸ audit_refusal (net_of net) marking beside (arc_offset net)

  abbrev pub audited_of : Result (Perhaps (Pair × ℤ)) Refusal
  audited_of = finds auditing_refusal (audited (net_of net) marking beside)
