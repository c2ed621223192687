-- Nine sums, none of which wraps.
use borrow.Author.Rules.{rules}
use native.Mathlib.Omega.{arith}
use mir.Syntax.{w64}
use mir.Val.{SFits}
use Rattle.statement.proofs.fleet.Entering.{summed, read-sum}
use Rattle.statement.proofs.fleet.entry.with_voyage.Goals as goal

pub overflow_add-result : goal.overflow_add-result
overflow_add-result c = record { fits = omega (arith, c.requires.in_bounds.ships) }

pub overflow_add-result-2 : goal.overflow_add-result-2
overflow_add-result-2 c = record { fits = omega (arith, c.requires.in_bounds.movements, c.requires.light.accepted) }

pub returns : goal.returns
returns c =
    let added : SFits w64 c.args.found.added = search rules in
    let more : SFits w64 c.args.voyage.added = search rules in
    let sum : SFits w64 c.add_figure.result = search rules in
    let removed : SFits w64 c.args.found.removed = search rules in
    let less : SFits w64 c.args.voyage.removed = search rules in
    let rest : SFits w64 c.add_figure-2.result = search rules in
    summed c.args.found c.args.voyage c.number_of-number.ensures c.raise.ensures c.raise-2.ensures c.raise-3.ensures c.raise-4.ensures c.raise-5.ensures
    (read-sum added more sum c.add_figure.ensures) (read-sum removed less rest c.add_figure-2.ensures)
