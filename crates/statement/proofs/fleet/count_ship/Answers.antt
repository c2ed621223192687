-- 25, then 4, then the net, then the rest.
use mathlib.Core.Path.{sym, ◌∙◌}
use native.Mathlib.Omega.{arith}
use Rattle.model.proofs.Asking.{handed_on}
use Rattle.statement.proofs.fleet.Entering.{within, ends_unsound, ends-full, ends-refused, ends-counted}
use Rattle.statement.proofs.fleet.count_ship.Goals as goal

pub returns-then-is_out_of_bounds : goal.returns-then-is_out_of_bounds
returns-then-is_out_of_bounds c = ends_unsound c.args.found _ c.is_out_of_bounds.ensures c.if-is_out_of_bounds.true

pub overflow_add-found : goal.overflow_add-found
overflow_add-found c =
    record { fits = omega (arith, (within c.args.found (sym c.is_out_of_bounds.ensures ∙ c.if-is_out_of_bounds.false)).ships) }

pub returns-then-found-gt1000 : goal.returns-then-found-gt1000
returns-then-found-gt1000 c =
    ends-full c.args.found _ c.is_out_of_bounds.ensures c.if-is_out_of_bounds.false c.if-found-gt1000.true

pub count_open-requires : goal.count_open-requires
count_open-requires c = record { in_bounds = within _ (sym c.is_out_of_bounds.ensures ∙ c.if-is_out_of_bounds.false) }

pub returns-in_err-net : goal.returns-in_err-net
returns-in_err-net c =
    ends-refused c.args.found _ c.is_out_of_bounds.ensures c.if-is_out_of_bounds.false c.if-found-gt1000.false c.in_err-net.ensures (handed_on c.from_residual.ensures)

pub returns : goal.returns
returns c =
    ends-counted c.args.found _ c.is_out_of_bounds.ensures c.if-is_out_of_bounds.false c.if-found-gt1000.false c.in_ok-net.ensures.0 (rw c.in_ok-net.ensures.1 at c.count_open.ensures)
