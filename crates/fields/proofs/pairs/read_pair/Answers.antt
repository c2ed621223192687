-- K, then the first marking.
use borrow.Author.Rules.{rules}
use Rattle.model.proofs.Asking.{goes_on, no_refusal, stops}
use Rattle.fields.specs.Fields.{pair_refusal}
use Rattle.fields.proofs.PairFields.{capacity-holds}
use Rattle.fields.proofs.pairs.read_pair.Goals as goal

pub returns-in_err-read_capacity : goal.returns-in_err-read_capacity
unfolding pair_refusal
returns-in_err-read_capacity c = stops _ _ c.in_err-read_capacity.ensures c.from_residual.ensures

pub read_start-requires : goal.read_start-requires
read_start-requires c =
    let there = (capacity-holds _ _ (no_refusal _ c.in_ok-read_capacity.ensures)).there in
    search rules

pub returns : goal.returns
unfolding pair_refusal
returns c = goes_on _ _ c.in_ok-read_capacity.ensures c.read_start.ensures
