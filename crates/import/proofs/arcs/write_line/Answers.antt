-- One line, by its kind.
use native.Mathlib.Omega.{arith}
use Rattle.import.proofs.LineWrites.{line_read, post-room, pre-wrote, post-wrote, no-line}
use Rattle.import.proofs.arcs.write_line.Goals as goal

pub returns-in_err-step : goal.returns-in_err-step
returns-in_err-step c = rw c.from_residual.ensures (no-line c.read_line.ensures _ c.in_err-step.ensures.value (λ m e. cc) (λ p w m e. cc) (λ p w m e. cc))

pub put_arc-end-requires : goal.put_arc-end-requires
put_arc-end-requires c =
    let pre = c.requires in
    let x = line_read c.read_line.ensures c.in_ok-step.ensures.value c.in-PreArc.is in
    (omega (arith, pre.room _ _ x), omega (arith, pre.sound.modes), omega (arith, x.is.inside, pre.sound.places))

pub put_post-end-requires-clause-post_room : goal.put_post-end-requires-clause-post_room
put_post-end-requires-clause-post_room c = post-room c.requires (line_read c.read_line.ensures c.in_ok-step.ensures.value c.in-PostArc.is)

pub returns-in-PreArc : goal.returns-in-PreArc
returns-in-PreArc c = pre-wrote (line_read c.read_line.ensures c.in_ok-step.ensures.value c.in-PreArc.is) c.put_arc-end.ensures c.after_pre.ensures

pub returns-in-PostArc : goal.returns-in-PostArc
returns-in-PostArc c = post-wrote (line_read c.read_line.ensures c.in_ok-step.ensures.value c.in-PostArc.is) c.put_post-end.ensures c.after_post.ensures
