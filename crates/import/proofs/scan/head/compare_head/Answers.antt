-- The constant of each kind.
use Rattle.pnml.specs.Pnml.{closing}
use Rattle.import.specs.scan.Kinds.{head_text}
use Rattle.import.proofs.scan.head.compare_head.Goals as goal

pub returns-in-Close : goal.returns-in-Close
unfolding head_text closing
returns-in-Close c = rw c.in-Close.is c.compare.ensures

pub returns-in-Place : goal.returns-in-Place
unfolding head_text closing
returns-in-Place c = rw c.in-Place.is c.compare-in-Place.ensures

pub returns-in-Transition : goal.returns-in-Transition
unfolding head_text closing
returns-in-Transition c = rw c.in-Transition.is c.compare-in-Transition.ensures

pub returns-in-Pre : goal.returns-in-Pre
unfolding head_text closing
returns-in-Pre c = rw c.in-Pre.is c.compare-in-Pre.ensures

pub returns-in-Post : goal.returns-in-Post
unfolding head_text closing
returns-in-Post c = rw c.in-Post.is c.compare-in-Post.ensures
