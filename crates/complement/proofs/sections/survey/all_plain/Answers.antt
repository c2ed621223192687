use Prim.Native.Nat.{◌+◌}
use mathlib.Core.Path.{◌≡◌, refl}
use native.Mathlib.Omega.{arith}
use Rattle.sheets.specs.Decoded.{net_of}
use Rattle.opened.proofs.dead.Searches.{passed-more}
use Rattle.complement.specs.sections.Arcs.{clear_at}
use Rattle.complement.proofs.sections.Every.{every-none, every_more}
use Rattle.complement.proofs.sections.Plain.{plain_passes, plain_clear}
use Rattle.complement.proofs.sections.Surveys.{none-dead}
use Rattle.complement.proofs.sections.survey.all_plain.Goals as goal

pub loop-i-preserved : goal.loop-i-preserved
loop-i-preserved c =
    let l = c.loop-i in
    let net = net_of c.args.net.now.sheet.now in
    let plain = c.is_plain.ensures c.if-not-is_plain.false in
    let most = c.capacity in (
      passed-more net c.args.arcs.start l.i l.invariant.0 (plain_passes c.arc-here.ensures _ most.ensures plain.0),
      every_more (λ i. clear_at net (c.args.arcs.start + i)) l.i l.invariant.1 (plain_clear c.arc-here.ensures _ most.ensures plain.1) refl,
    )

pub returns : goal.returns
returns c _ =
    let l = c.loop-i in
    let e : l.i ≡ c.args.arcs.count = omega arith in
    (rw e at l.invariant.1, none-dead c.args.net.now.is_open _ _ _ c.requires.mode_arcs (rw e at l.invariant.0))

pub loop-i-init : goal.loop-i-init
loop-i-init c = (λ k h l. absurd (omega arith), every-none _)
