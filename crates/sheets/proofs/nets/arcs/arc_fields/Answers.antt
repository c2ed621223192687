-- The arc count, then each arc, then what is left over.
use native.Mathlib.Omega.{arith}
use Rattle.model.proofs.Asking.{goes_on, no_refusal, stops}
use Rattle.sheets.specs.nets.Nets.{arc_fields}
use Rattle.fields.proofs.RunningTotals.{count-holds}
use Rattle.sheets.proofs.nets.arcs.arc_fields.Goals as goal

pub returns-in_err-read_count : goal.returns-in_err-read_count
unfolding arc_fields
returns-in_err-read_count c = stops _ _ c.in_err-read_count.ensures c.from_residual.ensures

pub count_at-n-requires : goal.count_at-n-requires
count_at-n-requires c =
    omega (arith, (count-holds _ _ _ 0 2048 (no_refusal _ c.in_ok-read_count.ensures)).there)

pub returns-in_err-read_arcs : goal.returns-in_err-read_arcs
unfolding arc_fields
returns-in_err-read_arcs c =
    goes_on _ _ c.in_ok-read_count.ensures
    (stops _ _ (rw c.count_at-n.ensures.0 at c.in_err-read_arcs.ensures) c.from_residual-in_err-read_arcs.ensures)

pub returns : goal.returns
unfolding arc_fields
returns c =
    let n = c.count_at-n.ensures.0 in
    goes_on _ _ c.in_ok-read_count.ensures
    (goes_on _ _ (rw n at c.in_ok-read_arcs.ensures)
    (rw n at c.left_over.ensures))
