-- The answer and the lent slice as the library leaves them.
use Rattle.abi.proofs.exchanging.pnet_import_pnml.Goals as goal

pub returns : goal.returns
returns c = (_, c.import_pnml.ensures, c.into.ensures)
