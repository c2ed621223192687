-- 10, or the sheet from the first byte on.
use mathlib.Core.Path.{refl}
use Prim.Native.Nat.{◌≤◌}
use lib.ListN.{length}
use native.Mathlib.Omega.{arith}
use Rattle.damaged.specs.Damaged.{considered}
use Rattle.run.proofs.salvage.Considered.{most-considered}
use Rattle.run.specs.salvage.Salvaged.{sheet_of_first, report_of}
use Rattle.run.proofs.salvage.Answers.{first-length, short, roomy, refused, written}
use Rattle.run.proofs.salvage.write_kept.Goals as goal

pub returns-then-out-kept : goal.returns-then-out-kept
returns-then-out-kept c =
    let a = c.args in
    let part : a.kept ≤ considered a.damaged.now = omega (arith, c.requires.count_value) in
    let is = refused (report_of a.damaged.now a.kept a.stop) (sheet_of_first a.damaged.now a.kept) a.out.now (short _ _ part c.if-out-kept.true) refl in
    record { value = is.0; out_after = is.1 }

pub put_fresh-length-requires : goal.put_fresh-length-requires
put_fresh-length-requires c =
    let a = c.args in
    let part : a.kept ≤ considered a.damaged.now = omega (arith, c.requires.count_value) in
    record {
      legible = c.requires.legible;
      kept_bound = part;
      room = record { fits = omega (arith, first-length _ _ part, c.if-out-kept.false) };
    }

pub returns : goal.returns
returns c =
    let left = c.if-out-kept.false in
    let a = c.args in
    let part : a.kept ≤ considered a.damaged.now = omega (arith, c.requires.count_value) in
    let room : length (sheet_of_first a.damaged.now a.kept) ≤ length a.out.now = omega (arith, first-length _ _ part, left) in
    let is = written a.damaged.now a.kept a.stop (roomy _ _ part left) c.requires.count_value.0 room c.put_fresh-length.ensures in
    record { value = is.0; out_after = is.1 }

pub overflow_mul-kept : goal.overflow_mul-kept
overflow_mul-kept c = omega (arith, c.requires.count_value, most-considered c.args.damaged.now)

pub overflow_add-kept : goal.overflow_add-kept
overflow_add-kept c = omega (arith, c.requires.count_value, most-considered c.args.damaged.now)
