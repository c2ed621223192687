-- From the net's first marking: the whole list is run, then weighed.
use Rattle.opened.proofs.Shapes.{sizes}
use Rattle.statement.proofs.fleet.voyage.sail.Goals as goal

pub run_list-ran-requires : goal.run_list-ran-requires
run_list-ran-requires c = let sheets = c.requires.read in record { starts_are = c.starts-starts.ensures; marking = rw c.write_start.ensures (sizes sheets.opened).well_formed.start }

pub weigh_run-requires : goal.weigh_run-requires
weigh_run-requires c = let sheets = c.requires.read in record { read = sheets; starts_are = c.starts-starts.ensures; run_tells = rw c.write_start.ensures at c.run_list-ran.ensures }
