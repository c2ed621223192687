-- The run, or no movement accepted and the refusal.
use Rattle.run.proofs.Reporting.{run-is, refused-is}
use Rattle.run.proofs.run.Goals as goal

pub returns-in-Ok : goal.returns-in-Ok
returns-in-Ok c = run-is _ _ _ c.in-Ok.ensures

pub returns-in-Err : goal.returns-in-Err
returns-in-Err c = refused-is _ _ _ c.in-Err.ensures
