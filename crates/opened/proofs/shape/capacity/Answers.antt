-- K of the pair that stands there.
use Rattle.opened.proofs.Shapes.{capacity-read}
use Rattle.opened.proofs.shape.capacity.Goals as goal

pub returns : goal.returns
returns c =
    rw (c.u32_at.ensures.0, c.pair_at.ensures.0) (capacity-read c.args.net.now.is_open c.args.pair.0 c.requires.pair_lt_pairs)
