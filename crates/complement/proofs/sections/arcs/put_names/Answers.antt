-- In version 2 the pair is put where the mode was.
use Rattle.complement.proofs.sections.Fields.{names_put}
use Rattle.complement.proofs.sections.arcs.put_names.Goals as goal

pub returns : goal.returns
returns c =
    names_put _ _ _ c.mode_size.ensures c.put16.ensures c.put16-2.ensures
