-- What the run reports.
use mathlib.Core.Path.{refl}
use Rattle.run.proofs.Reporting.{run-tells}
use Rattle.statement.proofs.fleet.voyage.run_list.Goals as goal

pub write_numbers-requires : goal.write_numbers-requires
write_numbers-requires c = let pre = c.requires in record { starts_are = pre.starts_are; numbers_len = refl }

pub run_listed-requires : goal.run_listed-requires
run_listed-requires c =
    let pre = c.requires in
    record { tables = record { numbered = record { opened = c.args.net.now.is_open; numbers_are = λ _. c.write_numbers.ensures }; starts_hold = pre.starts_are }; marking = pre.marking }

pub returns : goal.returns
returns c = run-tells c.run_listed.ensures
