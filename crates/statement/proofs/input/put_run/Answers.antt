-- The first marking is accepted; `start` has its figure, and what the run has told follows.
use Rattle.sheets.specs.Decoded.{net_of, weights_of, movements_of}
use Rattle.opened.proofs.Shapes.{sizes}
use Rattle.writes.proofs.Room.{room_for}
use Rattle.statement.proofs.Telling.{most_lines}
use Rattle.statement.proofs.Texts.{started_weighs, started_tells, run-told}
use Rattle.statement.proofs.input.put_run.Goals as goal

pub figure_of-figure-requires : goal.figure_of-figure-requires
figure_of-figure-requires c = let sheets = c.requires.read in record { weights_value = sheets.weighed; marking = rw c.write_start.ensures (sizes sheets.opened).well_formed.start }

pub run_list-ran-requires : goal.run_list-ran-requires
run_list-ran-requires c = let sheets = c.requires.read in record { starts_are = c.starts-starts.ensures; marking = rw c.write_start.ensures (sizes sheets.opened).well_formed.start }

pub put_movements-requires : goal.put_movements-requires
put_movements-requires c = let net = net_of c.args.net.now.sheet.now in record { read = c.requires.read; starts_are = c.starts-starts.ensures; run_tells = started_tells net c.write_start.ensures (movements_of c.args.movements.now.sheet.now) c.run_list-ran.ensures; first_value = started_weighs net c.write_start.ensures (weights_of c.args.weights.now) c.figure_of-figure.type_inv c.figure_of-figure.ensures; at_in_bounds = room_for most_lines 32582 c.put_start-start.ensures c.requires.room_in_bounds }

pub returns : goal.returns
returns c =
    let net = net_of c.args.net.now.sheet.now in
    let weights = weights_of c.args.weights.now in
    run-told net weights (movements_of c.args.movements.now.sheet.now)
    (started_weighs net c.write_start.ensures weights c.figure_of-figure.type_inv c.figure_of-figure.ensures)
    c.put_start-start.ensures c.put_movements.ensures
