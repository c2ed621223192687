-- An unbounded pair has no complement; that of a bounded one is there.
use mathlib.Core.Path.{sym, ◌∙◌, ap}
use lib.ListN.{get_or}
use mir.Syntax.{w64}
use mir.Facts.{to_z-of_z}
use native.Mathlib.Omega.{arith}
use Rattle.model.specs.Nets.{K, count}
use Rattle.both_forms.specs.Audit.{excess_of}
use Rattle.second_form.proofs.ComplementNet.{pairs-complement}
use Rattle.sheets.specs.Decoded.{net_of}
use Rattle.opened.proofs.Shapes.{sizes}
use Rattle.halves.proofs.Below.{entry-few}
use Rattle.complement.proofs.audit.Excesses.{unbounded-excess, finite-excess, beside-is, beside-inside}
use Rattle.complement.proofs.audit.excess.pair_excess.Goals as goal

pub bounds-marking-p : goal.bounds-marking-p
bounds-marking-p c =
    omega (arith, c.requires.p_lt_pairs.0, (sizes c.args.bounded.now.net.now.is_open).pairs, c.requires.one_each.here)

pub bounds-beside-p : goal.bounds-beside-p
bounds-beside-p c =
    omega (arith, c.requires.p_lt_pairs.0, (sizes c.args.bounded.now.net.now.is_open).pairs, pairs-complement (net_of c.args.bounded.now.net.now.sheet.now), c.requires.one_each.there)

pub complement_pair-other-requires : goal.complement_pair-other-requires
complement_pair-other-requires c =
    omega (arith, c.requires.p_lt_pairs.0, c.requires.p_lt_pairs.1, entry-few c.args.bounded.now.net.now.is_open c.args.bounded.now.below_are c.args.p (omega (arith, c.requires.p_lt_pairs.0)))

pub bounds-beside-other : goal.bounds-beside-other
bounds-beside-other c =
    beside-inside c.args.bounded.now.net.now.is_open c.args.bounded.now.below_are c.requires.p_lt_pairs.0 c.complement_pair-other.ensures c.capacity-most.result c.args.beside.now c.capacity-most.ensures
    (sym c.if-is_finite.ensures) c.requires.one_each.there

pub returns-then-is_finite : goal.returns-then-is_finite
returns-then-is_finite c =
    let net = net_of c.args.bounded.now.net.now.sheet.now in
    let m = count c.args.marking.now c.args.p in
    let m' = count c.args.beside.now c.args.p in
    to_z-of_z {w = w64} (record { sfits = c.bounded_excess.type_inv }) ∙ c.bounded_excess.ensures
    ∙ finite-excess c.capacity-most.result m m' _ c.capacity-most.ensures (sym c.if-is_finite.ensures)
    ∙ ap (λ q. excess_of (K net c.args.p) m m' (get_or c.args.beside.now q 0))
    (beside-is c.args.bounded.now.net.now.is_open c.args.bounded.now.below_are c.requires.p_lt_pairs.0 c.complement_pair-other.ensures)

pub returns-else-is_finite : goal.returns-else-is_finite
returns-else-is_finite c =
    to_z-of_z {w = w64} (record { sfits = c.differ_by.type_inv }) ∙ c.differ_by.ensures
    ∙ unbounded-excess c.capacity-most.result _ _ _ c.capacity-most.ensures (sym c.if-is_finite.ensures)
