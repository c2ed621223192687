-- The three numbers, then mode and pair before them; the pair is the one that was worked out.
use native.Mathlib.Omega.{arith}
use Rattle.opened.proofs.Shapes.{sizes}
use Rattle.halves.proofs.Below.{entry-few}
use Rattle.complement.proofs.sections.Read.{complement-pair-is}
use Rattle.complement.proofs.sections.Fields.{new_put}
use Rattle.complement.proofs.sections.arcs.put_new.Goals as goal

pub complement_pair-pair-requires : goal.complement_pair-pair-requires
complement_pair-pair-requires c =
    let b = c.args.bounded.now in
    let z = sizes b.net.now.is_open in
    let arc = c.arc-a in
    let few = entry-few b.net.now.is_open b.below_are arc.result.pair.0 (omega (arith, arc.ensures.pair)) in
    omega (arith, z.pairs_within, arc.ensures.pair, few)

pub returns : goal.returns
returns c =
    let a = c.args in
    let number = complement-pair-is c.arc-a.ensures c.args.bounded.now.net.now.is_open c.args.bounded.now.below_are _ c.complement_pair-pair.ensures a.new c.requires.value in
    new_put a.bounded.now.net.now.shape.version a.new number c.mode_size.ensures c.put32-to_post.ensures c.put32-to_inhibitor.ensures c.put32-end.ensures
    c.put_names.ensures
