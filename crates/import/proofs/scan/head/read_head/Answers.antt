-- All five kinds in turn.
use Rattle.import.proofs.scan.Heads.{none_tried}
use Rattle.import.proofs.scan.head.read_head.Goals as goal

pub returns : goal.returns
returns c =
    c.try_head.ensures.more _
    (c.try_head-pre.ensures.more _ (c.try_head-transition.ensures.more _ (c.try_head-place.ensures.more _ (c.try_head-close.ensures.more _ (none_tried c.requires.0)))))
