-- At an unbounded pair there is no arc; else Pre and Post are the two numbers.
use Prim.Native.Nat.{◌≤◌}
use mathlib.Core.Path.{refl, sym}
use native.Mathlib.Omega.{arith}
use Rattle.model.specs.Numbers.{limit}
use Rattle.second_form.proofs.ComplementRow.{claim-within, claimed, reserve-within}
use Rattle.fields.specs.Numbers.{unbounded}
use Rattle.fields.proofs.Bounds.{bound-unbounded}
use Rattle.fields.proofs.BoundNumbers.{finite-is, unbounded-is}
use Rattle.sheets.specs.Decoded.{net_arc}
use Rattle.halves.proofs.entry.complement_arc.Goals as goal
use Rattle.halves.proofs.entry.complement_arc.Goals.{then-is_finite, else-is_finite}

pub given_back-requires : goal.given_back-requires
given_back-requires c =
    let k = c.args.capacity in
    let rule = c.args.rule in
    let entry = (net_arc c.args.arc).entry in
    let within : k ≤ limit = rw (finite-is k (sym c.if-is_finite.ensures)) at c.requires.capacity in
    omega (arith, c.taken-pre.ensures, claim-within rule entry, claimed rule k entry, reserve-within k entry.inhibitor)

pub returns : goal.returns
returns c =
    elim c.if-is_finite.branch [
      | then-is_finite w ↦ rw (w.pre-is, finite-is _ (sym w.if-is_finite.ensures), bound-unbounded unbounded refl, ← w.taken-pre.ensures, w.given_back.ensures)
      | else-is_finite w ↦ rw (w.pre-is, unbounded-is _ (sym w.if-is_finite.ensures), bound-unbounded unbounded refl)
    ]
