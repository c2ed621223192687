-- The fields of an arc, one after the other.
use mathlib.Core.List.{flatten}
use Rattle.sheets.specs.written.Written.{mode_bytes, tail_bytes, arc_bytes}
use Rattle.sheets.proofs.written.Puts.{nothing, puts}
use Rattle.import.proofs.arcs.put_arc.Goals as goal

pub returns : goal.returns
unfolding arc_bytes mode_bytes tail_bytes flatten
returns c =
    puts c.put16-to_pair.ensures
    (puts c.put16-to_pre.ensures (puts c.put32-to_post.ensures (puts c.put32-to_inhibitor.ensures (puts c.put32.ensures nothing))))
