-- A refusal, or the sheet from the first byte on.
use native.Mathlib.Omega.{arith}
use Rattle.model.proofs.Asking.{handed_on}
use Rattle.opened.proofs.Shapes.{sizes}
use Rattle.complement.proofs.Answers.{open-room, open-refused, open-written}
use Rattle.complement.proofs.complement_open.Goals as goal

pub complement_sizes-most-requires : goal.complement_sizes-most-requires
complement_sizes-most-requires c = let z = sizes c.args.bounded.now.net.now.is_open in record { arcs_bound = omega (arith, z.arcs, z.arcs_within) }

pub put_sheet-requires : goal.put_sheet-requires
put_sheet-requires c =
    record {
      starts_are = c.starts-starts.ensures;
      dead_are = c.survey-clear.ensures.1;
      sizes_with = c.complement_sizes-most.ensures;
      room = open-room c.args.bounded.now.net.now.is_open c.args.out.now c.in_ok-complement_answer.ensures;
    }

pub returns-in_err-complement_answer : goal.returns-in_err-complement_answer
returns-in_err-complement_answer c =
    let r = open-refused c.args.bounded.now.net.now.is_open c.args.out.now c.in_err-complement_answer.ensures in
    rw (handed_on c.from_residual.ensures) (record { value = r.0; out_after = r.1 })

pub returns : goal.returns
returns c =
    let r = open-written c.args.bounded.now.net.now.is_open c.args.out.now c.in_ok-complement_answer.ensures c.put_sheet.ensures in
    record { value = r.0; out_after = r.1 }

pub overflow_mul-bounded : goal.overflow_mul-bounded
overflow_mul-bounded c = omega (arith, (sizes c.args.bounded.now.net.now.is_open).arcs, (sizes c.args.bounded.now.net.now.is_open).arcs_within)
