-- The tables that the run reads are those of the net.
use mathlib.Core.Path.{refl}
use Rattle.run.proofs.movements.run_sheet.Goals as goal

pub write_numbers-requires : goal.write_numbers-requires
write_numbers-requires c = record { starts_are = c.starts-starts.ensures; numbers_len = refl }

pub run_listed-requires : goal.run_listed-requires
run_listed-requires c =
    let pre = c.requires in
    record {
      tables = record { numbered = record { opened = c.args.net.now.is_open; numbers_are = λ _. c.write_numbers.ensures }; starts_hold = c.starts-starts.ensures };
      marking = pre.marking;
    }

pub returns : goal.returns
returns c = c.run_listed.ensures
