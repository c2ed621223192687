-- The sheet's modes are those that stand from its first field on.
use Rattle.sheets.proofs.Listed.{movements-are, movements-headed, movements-length, movements_stand, movements-within}
use Rattle.run.proofs.movements.run_listed.Goals as goal

pub run_modes-requires : goal.run_modes-requires
run_modes-requires c = let few = movements-within _ c.args.movements.now.is_listed in record { tables = c.requires.tables; modes_stand = rw (c.movements_at.ensures, c.movement_count-count.ensures) (movements_stand _ c.args.movements.now.is_listed); count_le_most_movements = rw (c.movement_count-count.ensures, ← movements-length _) few; marking = c.requires.marking }

pub returns : goal.returns
returns c =
    rw (movements-are, ← c.movements_at.ensures, ← c.movement_count-count.ensures) c.run_modes.ensures

pub movement_count-count-requires : goal.movement_count-count-requires
movement_count-count-requires c = movements-headed _ c.args.movements.now.is_listed
