-- The arc is named, goes from one to the other, and has its weight.
use Rattle.writes.proofs.Writing.{◌and◌}
use Rattle.pnml.specs.Pnml.{three, pre_text, post_text}
use Rattle.export.proofs.elements.put_line.Goals as goal
use Rattle.export.proofs.elements.put_line.Goals.{in-Pre, in-Post}

pub returns : goal.returns
unfolding three pre_text post_text
returns c =
    let all = c.write_bytes-id.ensures and c.put_name-source.ensures and c.put_end-target.ensures and c.put_end-end.ensures and c.put_weight.ensures in
    let written = rw c.weight.ensures at all in
    elim c.match-side.branch [
      | in-Pre w ↦ rw w.in-Pre.is (rw (w.first-is, w.in-Pre.is) at written)
      | in-Post w ↦ rw w.in-Post.is (rw (w.first-is, w.in-Post.is) at written)
    ]
