-- The pairs, then the arcs.
use native.Mathlib.Omega.{arith}
use Rattle.heads.proofs.Heads.{fields-at-most}
use Rattle.sheets.specs.nets.Nets.{pair_and_arc_fields}
use Rattle.model.proofs.Asking.{goes_on, stops}
use Rattle.sheets.proofs.nets.net.pair_and_arc_fields.Goals as goal

pub read_pairs-requires : goal.read_pairs-requires
read_pairs-requires c = let pre = c.requires in
    let most = fields-at-most c.args.sheet.now.bytes.now in record { start_bound = omega (arith, most, c.pairs_at-start.ensures, c.pair_count-count.ensures, pre.pairs, pre.sized.places, pre.sized.transitions) }

pub arc_section-requires : goal.arc_section-requires
arc_section-requires c = let pre = c.requires in
    let most = fields-at-most c.args.sheet.now.bytes.now in
    let at = c.pairs_at-start.ensures in
    let count = c.pair_count-count.ensures in record { at_bound = omega (arith, most, at, count, c.mode_count.ensures, pre.pairs, pre.modes, pre.sized.places, pre.sized.transitions) }

pub returns-in_err-read_pairs : goal.returns-in_err-read_pairs
unfolding pair_and_arc_fields
returns-in_err-read_pairs c =
    stops _ _ (rw (c.pairs_at-start.ensures, c.pair_count-count.ensures) at c.in_err-read_pairs.ensures) c.from_residual.ensures

pub returns : goal.returns
unfolding pair_and_arc_fields
returns c =
    let start = c.pairs_at-start.ensures in
    let count = c.pair_count-count.ensures in
    goes_on _ _ (rw (start, count) at c.in_ok-read_pairs.ensures)
    (rw (start, count, c.mode_count.ensures) at c.arc_section.ensures)
