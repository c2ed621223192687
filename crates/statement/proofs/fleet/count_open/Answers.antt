-- The weights, the movements, then 24 or the ship.
use borrow.Author.Rules.{rules}
use mathlib.Core.Path.{◌≡◌, sym}
use mathlib.Core.Bool.{true, false}
use mir.Syntax.{w64}
use mir.Val.{SFits}
use Rattle.model.proofs.Asking.{handed_on, no_refusal}
use Rattle.model.proofs.First.{left-none}
use Rattle.model.proofs.Refusals.{answer-refused}
use Rattle.sheets.specs.Whole.{whole_movements}
use Rattle.statement.proofs.weigh.Answers.{weights-refused, weights-pass, weights-accepted}
use Rattle.statement.proofs.fleet.Entering.{stops, goes_on, read-past, too_heavy_lem, enters}
use Rattle.ships.specs.Entered.{is_too_heavy}
use Rattle.statement.proofs.fleet.count_open.Goals as goal
use Rattle.statement.proofs.fleet.count_open.Goals.{then-is_past-via-then-is_past, then-is_past-via-else-is_past+then-is_past-2}

pub returns-in_err-whole_weights : goal.returns-in_err-whole_weights
returns-in_err-whole_weights c =
    stops c.args.found _ _ _ (weights-refused c.args.net.now.is_open _ c.in_err-whole_weights.ensures) (handed_on c.from_residual.ensures)

pub returns-in_err-whole_movements : goal.returns-in_err-whole_movements
returns-in_err-whole_movements c =
    let found = c.args.found in
    goes_on found _ _ _ (weights-pass c.args.net.now.is_open _ c.in_ok-whole_weights.ensures)
    (stops found _ _ _ (answer-refused _ (sym c.in_err-whole_movements.ensures)) (handed_on c.from_residual-in_err-whole_movements.ensures))

pub invariant_of-list : goal.invariant_of-list
unfolding whole_movements
invariant_of-list c = record { is_listed = left-none _ _ (no_refusal _ c.in_ok-whole_movements.ensures) }

pub voyage_of-requires : goal.voyage_of-requires
unfolding whole_movements
voyage_of-requires c =
    let pre = c.requires in
    record {
      opened = c.args.net.now.is_open;
      weighed = weights-accepted c.args.net.now.is_open _ c.in_ok-whole_weights.ensures;
      listed = left-none _ _ (no_refusal _ c.in_ok-whole_movements.ensures);
    }

pub with_voyage-next-requires : goal.with_voyage-next-requires
with_voyage-next-requires c = record { in_bounds = c.requires.in_bounds; light = c.voyage_of.ensures.1 }

pub returns-then-is_past : goal.returns-then-is_past
returns-then-is_past c =
    let found = c.args.found in
    let added : SFits w64 c.with_voyage-next.result.added = search rules in
    let removed : SFits w64 c.with_voyage-next.result.removed = search rules in
    let heavy : is_too_heavy c.with_voyage-next.result ≡ true =
    elim c.then-is_past.branch [
      | then-is_past-via-then-is_past w ↦ rw (read-past added c.is_past.ensures, w.if-is_past.true)
      | then-is_past-via-else-is_past+then-is_past-2 w ↦
          rw (read-past added c.is_past.ensures, w.if-is_past.false, read-past removed w.is_past-else-is_past.ensures, w.if-is_past-2.true)
    ] in
    goes_on found _ _ _ (weights-pass c.args.net.now.is_open _ c.in_ok-whole_weights.ensures)
    (goes_on found _ _ _ (no_refusal _ c.in_ok-whole_movements.ensures)
    (too_heavy_lem found _ c.voyage_of.ensures.0 c.with_voyage-next.ensures heavy))

pub returns : goal.returns
returns c =
    let found = c.args.found in
    let added : SFits w64 c.with_voyage-next.result.added = search rules in
    let removed : SFits w64 c.with_voyage-next.result.removed = search rules in
    let light : is_too_heavy c.with_voyage-next.result ≡ false =
    rw (read-past added c.is_past.ensures, c.if-is_past.false, read-past removed c.is_past-else-is_past.ensures, c.if-is_past-2.false) in
    goes_on found _ _ _ (weights-pass c.args.net.now.is_open _ c.in_ok-whole_weights.ensures)
    (goes_on found _ _ _ (no_refusal _ c.in_ok-whole_movements.ensures)
    (enters found _ c.voyage_of.ensures.0 c.with_voyage-next.ensures light))
