use mathlib.Core.Path.{sym}
use native.Mathlib.Omega.{arith}
use Rattle.model.proofs.First.{first-none}
use Rattle.sheets.specs.Decoded.{net_of}
use Rattle.opened.proofs.Shapes.{sizes}
use Rattle.complement.proofs.audit.Searches.{finds-nothing, passes, stops}
use Rattle.complement.proofs.audit.find.Goals as goal

pub pair_excess-excess-requires : goal.pair_excess-excess-requires
pair_excess-excess-requires c = let pre = c.requires in record { one_each = pre.one_each; p_lt_pairs = (c.loop-p-test.true, (sizes c.args.bounded.now.net.now.is_open).pairs_within) }

pub overflow_cast-result : goal.overflow_cast-result
overflow_cast-result c = omega (arith, c.loop-p-test.true, (sizes c.args.bounded.now.net.now.is_open).pairs_within)

pub returns-then-excess-ne0 : goal.returns-then-excess-ne0
returns-then-excess-ne0 c =
    let l = c.loop-p in
    stops _ _ _ l.p l.invariant c.pair_excess-excess.type_inv c.pair_excess-excess.ensures c.if-excess-ne0.true
    (omega (arith, c.loop-p-test.true, (sizes c.args.bounded.now.net.now.is_open).pairs))

pub loop-p-preserved : goal.loop-p-preserved
loop-p-preserved c =
    let l = c.loop-p in
    let a = c.args in
    passes (net_of a.bounded.now.net.now.sheet.now) a.marking.now a.beside.now l.p l.invariant c.pair_excess-excess.type_inv c.pair_excess-excess.ensures c.if-excess-ne0.false

pub returns : goal.returns
returns c =
    let l = c.loop-p in
    let z = sizes c.args.bounded.now.net.now.is_open in
    finds-nothing _ _ _ l.p l.invariant (omega (arith, l.auto.p-end, z.pairs)) (omega (arith, c.loop-p-test.false, z.pairs))

pub loop-p-init : goal.loop-p-init
loop-p-init c = sym (first-none _)
