-- Each read gives the same arc, and the sheet is not written.
use Rattle.complement.proofs.sections.Fields.{room-post, room-inhibitor, original_put}
use Rattle.complement.proofs.sections.arcs.put_original.Goals as goal

pub put32-to_inhibitor-requires : goal.put32-to_inhibitor-requires
put32-to_inhibitor-requires c =
    room-post c.args.net.now.shape.version c.put_names-to_pre.ensures c.put32-to_post.ensures c.requires.version_in_bounds

pub put32-requires : goal.put32-requires
put32-requires c =
    room-inhibitor c.args.net.now.shape.version c.put_names-to_pre.ensures c.put32-to_post.ensures c.requires.version_in_bounds c.put32-to_inhibitor.ensures

pub returns : goal.returns
returns c =
    let named = c.arc-names in
    let first = c.arc-of_pre in
    let second = c.arc-of_post in
    original_put c.args.net.now.shape.version named.result first.result second.result named.ensures.is first.ensures.is second.ensures.is
    c.put_names-to_pre.ensures c.put32-to_post.ensures c.put32-to_inhibitor.ensures c.put32.ensures
