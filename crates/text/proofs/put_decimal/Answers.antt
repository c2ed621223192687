-- A number in decimal: with room for all of its digits they are written, without none is.
use Rattle.text.proofs.Puts.{end-found, put-found, put-full}
use Rattle.text.proofs.put_decimal.Goals as goal

pub returns-in_err-end : goal.returns-in_err-end
returns-in_err-end c = put-full _ _ _ _ c.digit_count-count.ensures c.in_err-end.ensures c.from_residual.ensures

pub write_digits-requires-clause-count_in_bounds : goal.write_digits-requires-clause-count_in_bounds
write_digits-requires-clause-count_in_bounds c = (end-found _ _ _ c.in_ok-end.ensures).0

pub returns : goal.returns
returns c = (put-found _ _ _ _ c.digit_count-count.ensures c.in_ok-end.ensures, c.write_digits.ensures)
