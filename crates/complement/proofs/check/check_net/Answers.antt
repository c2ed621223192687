-- No output slice of that room is short.
use native.Mathlib.Omega.{arith}
use Rattle.opened.proofs.Shapes.{sizes}
use Rattle.complement.proofs.WithoutOutput.{never-short}
use Rattle.complement.proofs.check.check_net.Goals as goal

pub complement_sizes-most-requires : goal.complement_sizes-most-requires
complement_sizes-most-requires c = let z = sizes c.args.bounded.now.net.now.is_open in record { arcs_bound = omega (arith, z.arcs, z.arcs_within) }

pub returns : goal.returns
returns c =
    never-short c.args.bounded.now.net.now.is_open c.starts-starts.ensures c.complement_sizes-most.ensures.0 c.complement_sizes-most.ensures.1 c.complement_answer.ensures

pub overflow_mul-bounded : goal.overflow_mul-bounded
overflow_mul-bounded c = omega (arith, (sizes c.args.bounded.now.net.now.is_open).arcs, (sizes c.args.bounded.now.net.now.is_open).arcs_within)
