-- The modes considered are there, and the first marking is accepted.
use mathlib.Core.Path.{refl}
use native.Mathlib.Omega.{arith}
use Rattle.opened.proofs.Shapes.{sizes}
use Rattle.run.proofs.salvage.Considered.{most-considered, modes-there}
use Rattle.run.proofs.salvage.Answers.{tells}
use Rattle.run.proofs.salvage.trial.run_from_first.Goals as goal

pub write_numbers-requires : goal.write_numbers-requires
write_numbers-requires c = record { starts_are = c.starts-starts.ensures; numbers_len = refl }

pub run_modes-requires : goal.run_modes-requires
run_modes-requires c =
    let pre = c.requires in
    let there = modes-there c.args.damaged.now pre.legible.there in
    record {
      tables = record { numbered = record { opened = c.args.net.now.is_open; numbers_are = λ l. c.write_numbers.ensures }; starts_hold = c.starts-starts.ensures };
      modes_stand = omega (arith, c.movements_at.ensures, pre.count_value, there);
      count_le_most_movements = omega (arith, pre.count_value, most-considered c.args.damaged.now);
      marking = rw c.write_start.ensures (sizes c.args.net.now.is_open).well_formed.start;
    }

pub returns : goal.returns
returns c =
    tells c.args.net.now.sheet.now c.args.damaged.now _ _ c.movements_at.ensures c.requires.count_value c.write_start.ensures c.run_modes.ensures

pub write_start-requires : goal.write_start-requires
write_start-requires c = record { marking_len = c.requires.marking_len }
