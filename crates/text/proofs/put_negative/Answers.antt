-- A negative number: the sign and the digits are one put, of which all or nothing is written.
use Prim.Native.Nat.{suc}
use mathlib.Core.Path.{◌∙◌, ap}
use lib.ListN.{length-set}
use native.Mathlib.Numerals.{add-one}
use native.Mathlib.Omega.{arith}
use Rattle.writes.proofs.Into.{into_cons}
use Rattle.text.proofs.Decimals.{length-at-most}
use Rattle.text.proofs.Puts.{end-found, put-found, put-full}
use Rattle.text.proofs.put_negative.Goals as goal

pub overflow_add-count : goal.overflow_add-count
overflow_add-count c = omega (arith, c.digit_count-count.ensures, length-at-most c.args.n 19 (omega arith))

pub returns-in_err-end : goal.returns-in_err-end
returns-in_err-end c =
    let put = put-full _ _ _ _ (add-one _ ∙ ap suc c.digit_count-count.ensures) c.in_err-end.ensures c.from_residual.ensures in
    record { value = put.0; out_after = put.1 }

pub bounds-out-at : goal.bounds-out-at
bounds-out-at c = omega (arith, (end-found _ _ _ c.in_ok-end.ensures).0)

pub overflow_add-at : goal.overflow_add-at
overflow_add-at c = omega (arith, (end-found _ _ _ c.in_ok-end.ensures).0)

pub write_digits-requires-clause-count_in_bounds : goal.write_digits-requires-clause-count_in_bounds
write_digits-requires-clause-count_in_bounds c = simp length-set (omega (arith, (end-found _ _ _ c.in_ok-end.ensures).0))

pub returns : goal.returns
returns c =
    let counted = c.digit_count-count.ensures in
    let e = c.in_ok-end.ensures in
    record {
      value = put-found _ _ _ _ (add-one _ ∙ ap suc counted) e;
      out_after = c.write_digits.ensures ∙ into_cons _ _ _ _ (omega (arith, (end-found _ _ _ e).0, counted));
    }
