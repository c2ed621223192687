-- The first marking of the pair that stands there.
use Rattle.opened.proofs.Shapes.{start-read}
use Rattle.opened.proofs.shape.start_count.Goals as goal

pub returns : goal.returns
returns c =
    start-read c.args.net.now.is_open c.args.pair.0 _ c.requires.pair_lt_pairs (rw c.pair_at.ensures.0 at c.u32_at.ensures.0)
