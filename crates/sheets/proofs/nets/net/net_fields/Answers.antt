-- The counts, then the pairs and arcs.
use Rattle.model.proofs.Asking.{goes_on, no_refusal, stops}
use Rattle.sheets.specs.nets.Nets.{net_fields}
use Rattle.fields.proofs.RunningTotals.{counted}
use Rattle.sheets.proofs.nets.net.net_fields.Goals as goal

pub returns-in_err-rule_field : goal.returns-in_err-rule_field
unfolding net_fields
returns-in_err-rule_field c = stops _ _ c.in_err-rule_field.ensures c.from_residual.ensures

pub returns-in_err-count_fields : goal.returns-in_err-count_fields
unfolding net_fields
returns-in_err-count_fields c =
    goes_on _ _ c.in_ok-rule_field.ensures
    (stops _ _ c.in_err-count_fields.ensures c.from_residual-in_err-count_fields.ensures)

pub pair_and_arc_fields-requires : goal.pair_and_arc_fields-requires
pair_and_arc_fields-requires c =
    counted _ c.args.sheet.now.headed (no_refusal _ c.in_ok-count_fields.ensures)

pub returns : goal.returns
unfolding net_fields
returns c =
    goes_on _ _ c.in_ok-rule_field.ensures
    (goes_on _ _ c.in_ok-count_fields.ensures c.pair_and_arc_fields.ensures)
