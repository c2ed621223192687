use borrow.Author.Rules.{rules}
use mathlib.Core.Path.{refl}
use native.Mathlib.Omega.{arith}
use Rattle.movement.specs.Figures.{sum as sum_to, figure}
use Rattle.movement.proofs.Figures.{sum-end}
use Rattle.opened.proofs.Shapes.{sizes}
use Rattle.statement.proofs.weigh.Terms.{next_fits, next-is, figure_terms}
use Rattle.statement.proofs.weigh.sums.figure_of.Goals as goal

pub loop-p-init : goal.loop-p-init
unfolding sum_to
loop-p-init c = refl

pub offset_bounds-marking-p : goal.offset_bounds-marking-p
offset_bounds-marking-p c =
    record { fits = omega (arith, c.loop-p-test.true, (sizes c.args.net.now.is_open).pairs_within) }

pub bounds-marking-p : goal.bounds-marking-p
bounds-marking-p c =
    omega (arith, c.loop-p-test.true, (sizes c.args.net.now.is_open).pairs, c.requires.marking.one_each)

pub term-sum-requires : goal.term-sum-requires
term-sum-requires c = record { weights_value = search rules; p_lt_pairs = (search rules, (sizes c.args.net.now.is_open).pairs_within) }

pub overflow_add-sum : goal.overflow_add-sum
overflow_add-sum c =
    let l = c.loop-p in
    next_fits (figure_terms c.args.net.now.is_open _ c.requires.weights_value c.requires.marking) l.p (omega (arith, c.loop-p-test.true)) c.term-sum.type_inv l.invariant c.term-sum.ensures

pub loop-p-preserved : goal.loop-p-preserved
loop-p-preserved c =
    let l = c.loop-p in
    next-is (figure_terms c.args.net.now.is_open _ c.requires.weights_value c.requires.marking) l.p (omega (arith, c.loop-p-test.true)) c.term-sum.type_inv l.invariant
    c.term-sum.ensures

pub returns : goal.returns
unfolding figure
returns c =
    let l = c.loop-p in
    sum-end l.p _ _ (omega (arith, (sizes c.args.net.now.is_open).pairs)) (omega (arith, c.loop-p-test.false, (sizes c.args.net.now.is_open).pairs)) l.invariant
