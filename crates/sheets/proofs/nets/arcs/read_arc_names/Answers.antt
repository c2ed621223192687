-- The three tests as the definition has them, mode and pair read once.
use Rattle.sheets.proofs.nets.NameTests.{mode-absent, pair-absent, not_above, above}
use Rattle.sheets.proofs.nets.arcs.read_arc_names.Goals as goal

pub returns-then-modes-names : goal.returns-then-modes-names
returns-then-modes-names c =
    let a = c.args in
    mode-absent a.s.now a.modes a.pairs a.start a.k c.names_at-names.ensures c.if-modes-names.true c.refused.ensures

pub returns-then-pairs-names : goal.returns-then-pairs-names
returns-then-pairs-names c =
    let a = c.args in
    pair-absent a.s.now a.modes a.pairs a.start a.k c.names_at-names.ensures c.if-modes-names.false c.if-pairs-names.true c.refused-then-pairs-names.ensures

pub not_rising-requires : goal.not_rising-requires
not_rising-requires c = let pre = c.requires in record { k_bound = (pre.0, pre.1); names_at = c.names_at-names.ensures }

pub returns-then-not_rising : goal.returns-then-not_rising
returns-then-not_rising c =
    let a = c.args in
    not_above a.s.now a.modes a.pairs a.start a.k c.names_at-names.ensures c.if-modes-names.false c.if-pairs-names.false c.not_rising.ensures c.if-not_rising.true c.refused-then-not_rising.ensures

pub returns : goal.returns
returns c =
    let a = c.args in
    above a.s.now a.modes a.pairs a.start a.k c.names_at-names.ensures c.if-modes-names.false c.if-pairs-names.false c.not_rising.ensures c.if-not_rising.false
