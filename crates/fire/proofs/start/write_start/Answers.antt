use borrow.Author.Rules.{rules}
use mathlib.Core.Path.{sym, ◌∙◌}
use lib.ListN.{length-set}
use lib.Seq.{ext_get_or}
use native.Mathlib.Omega.{arith}
use Rattle.opened.proofs.Shapes.{sizes}
use Rattle.fire.proofs.Filling.{fill_none, fill_more}
use Rattle.fire.proofs.start.write_start.Goals as goal

pub loop-p-init : goal.loop-p-init
loop-p-init c = fill_none

pub overflow_cast-p : goal.overflow_cast-p
overflow_cast-p c = omega (arith, (sizes c.args.net.now.is_open).pairs_within)

pub loop-p-preserved : goal.loop-p-preserved
loop-p-preserved c = fill_more (omega arith) c.loop-p.invariant c.start_count.ensures.0

pub returns : goal.returns
returns c =
    let l = c.loop-p in
    let size = sizes c.args.net.now.is_open in
    ext_get_or 0 _ _ (omega (arith, l.auto.marking, size.pairs, size.well_formed.start.one_each)) (λ p h. l.invariant.each p (omega arith))
