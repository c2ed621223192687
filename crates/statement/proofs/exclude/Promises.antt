-- The promise about an exclusion: each part of the chain is passed.
use Rattle.model.proofs.First.{left-none, right-none, none_then}
use Rattle.movement.proofs.Markings.{marking-test}
use Rattle.movement.proofs.Exclusion.{claim-accepted}
use Rattle.sheets.specs.Decoded.{net_of, weights_of}
use Rattle.statement.specs.exclude.Calls.{exclude_refusal}
use Rattle.statement.specs.exclude.Promises.{ExcludedExactly}

pub excluded-exactly : ExcludedExactly
unfolding exclude_refusal
excluded-exactly net weights claim = (
  λ e.
      let marked = right-none _ _ (right-none _ _ e) in
      let claimed = (claim-accepted (net_of net) (weights_of weights) claim).0 (right-none _ _ marked) in
      record {
        net_accepted = left-none _ _ e;
        weights_accepted = left-none _ _ (right-none _ _ e);
        marking = (marking-test (net_of net) claim).0 (left-none _ _ marked);
        balanced = claimed.0;
        differs = claimed.1;
      },
  λ x.
      none_then x.net_accepted
      (none_then x.weights_accepted
      (none_then ((marking-test (net_of net) claim).1 x.marking) ((claim-accepted (net_of net) (weights_of weights) claim).1 (x.balanced, x.differs)))),
)
