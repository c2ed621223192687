-- The count itself, then the total that it makes.
use borrow.Author.Tests.{lt-ltb, le-ltb}
use Prim.Native.Nat.{◌+◌}
use native.Mathlib.Omega.{arith}
use Rattle.model.proofs.Asking.{goes_on, no_refusal, stops}
use Rattle.heads.specs.Layout.{total_of}
use Rattle.fields.specs.Fields.{running_refusal}
use Rattle.fields.proofs.RunningTotals.{total-more, count-holds}
use Rattle.fields.proofs.counts.read_running.Goals as goal

pub returns-in_err-read_count : goal.returns-in_err-read_count
unfolding running_refusal
returns-in_err-read_count c = stops _ _ c.in_err-read_count.ensures c.from_residual.ensures

pub count_at-requires : goal.count_at-requires
count_at-requires c =
    let a = c.args in
    omega (arith, (count-holds _ _ _ 1 64 (no_refusal _ c.in_ok-read_count.ensures)).there)

pub returns-then-total-count_at-gt256 : goal.returns-then-total-count_at-gt256
unfolding running_refusal
returns-then-total-count_at-gt256 c =
    let a = c.args in
    goes_on _ _ c.in_ok-read_count.ensures
    (simp (lt-ltb 256 (total_of a.sheet.now.bytes.now a.start (a.i + 1)) (omega (arith, total-more a.sheet.now.bytes.now a.start a.i))) c.refused.ensures)

pub returns : goal.returns
unfolding running_refusal
returns c =
    let a = c.args in
    goes_on _ _ c.in_ok-read_count.ensures
    (simp (le-ltb 256 (total_of a.sheet.now.bytes.now a.start (a.i + 1)) (omega (arith, total-more a.sheet.now.bytes.now a.start a.i))))
