-- The colours of each place, then the modes of each transition.
use native.Mathlib.Omega.{arith}
use Rattle.fields.specs.Fields.{each_count}
use Rattle.model.proofs.Asking.{goes_on, stops}
use Rattle.fields.proofs.counts.each_count.Goals as goal

pub read_counts-requires : goal.read_counts-requires
read_counts-requires c = let pre = c.requires in
    let places = rw c.fields_at-at.ensures.0 at c.count_at-places.ensures.0 in record { start_bound = omega (arith, c.fields_at-at.ensures.1, places, pre.places) }

pub returns-in_err-read_counts : goal.returns-in_err-read_counts
unfolding each_count
returns-in_err-read_counts c =
    let at = c.fields_at-at.ensures.0 in
    let places = rw at at c.count_at-places.ensures.0 in
    stops _ _ (rw (at, places) at c.in_err-read_counts.ensures) c.from_residual.ensures

pub read_counts-requires-2 : goal.read_counts-requires-2
read_counts-requires-2 c = let pre = c.requires in
    let at = c.fields_at-at.ensures in
    let places = rw at.0 at c.count_at-places.ensures.0 in
    let transitions = rw at.0 at c.count_at.ensures.0 in record { start_bound = omega (arith, at.1, places, pre.places, transitions, pre.transitions) }

pub returns : goal.returns
unfolding each_count
returns c =
    let at = c.fields_at-at.ensures.0 in
    let places = rw at at c.count_at-places.ensures.0 in
    let transitions = rw at at c.count_at.ensures.0 in
    goes_on _ _ (rw (at, places) at c.in_ok-read_counts.ensures)
    (rw (at, places, transitions) at c.read_counts-2.ensures)
