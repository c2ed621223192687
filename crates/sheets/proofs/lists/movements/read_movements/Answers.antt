-- The head, then the fields.
use Rattle.model.proofs.Asking.{goes_on, no_refusal, stops}
use Rattle.sheets.specs.lists.Movements.{movements_refusal}
use Rattle.heads.proofs.Heads.{head-holds}
use Rattle.sheets.proofs.lists.movements.read_movements.Goals as goal

pub returns-in_err-read_head : goal.returns-in_err-read_head
unfolding movements_refusal
returns-in_err-read_head c = stops _ _ c.in_err-read_head.ensures c.from_residual.ensures

pub invariant_of-movement_fields : goal.invariant_of-movement_fields
invariant_of-movement_fields c = record { headed = head-holds _ _ (no_refusal _ c.in_ok-read_head.ensures) }

pub returns : goal.returns
unfolding movements_refusal
returns c = goes_on _ _ c.in_ok-read_head.ensures c.movement_fields.ensures
