-- The nine tests of 25.
use borrow.Author.Rules.{rules}
use mir.Syntax.{w64}
use mir.Val.{SFits}
use mir.Facts.{to_z-of_z}
use Rattle.statement.proofs.fleet.bounds.is_out_of_bounds.Goals as goal

pub returns : goal.returns
returns c =
    let added : SFits w64 c.args.found.added = search rules in
    let removed : SFits w64 c.args.found.removed = search rules in
    rw (c.is_outside.ensures, c.is_outside-2.ensures, to_z-of_z added, to_z-of_z removed)
