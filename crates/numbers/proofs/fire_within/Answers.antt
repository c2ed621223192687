-- An arc does not let the mode pass, and the marking found is there again; or each does, and the mode has fired.
use Rattle.onepass.proofs.OnePass.{fires-through, fires-back}
use Rattle.numbers.proofs.fire_within.Goals as goal

pub take_back-requires : goal.take_back-requires
take_back-requires c = let pre = c.requires in record { mode_arcs = pre.at_mode.own; by_index = (_, c.fire_through-written.ensures.wrote) }

pub returns-then-written-arcs : goal.returns-then-written-arcs
returns-then-written-arcs c = λ t own.
    let through = c.fire_through-written.ensures in
    fires-back c.requires.at_mode through t own c.if-written-arcs.true (c.take_back.ensures _ through.wrote)

pub returns : goal.returns
returns c = λ t own.
    fires-through c.requires.at_mode c.fire_through-written.ensures t own c.if-written-arcs.false
