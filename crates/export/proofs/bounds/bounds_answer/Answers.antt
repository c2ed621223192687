-- All K, then the I of the arcs.
use Rattle.model.proofs.Asking.{goes_on, stops}
use Rattle.export.specs.Exports.{refusal19}
use Rattle.export.proofs.bounds.bounds_answer.Goals as goal

pub returns-in_err-capacities_answer : goal.returns-in_err-capacities_answer
unfolding refusal19
returns-in_err-capacities_answer c = stops _ _ c.in_err-capacities_answer.ensures c.from_residual.ensures

pub returns : goal.returns
unfolding refusal19
returns c = goes_on _ _ c.in_ok-capacities_answer.ensures c.inhibitors_answer.ensures
