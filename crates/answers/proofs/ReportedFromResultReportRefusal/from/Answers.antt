-- The report is told as it is.
use mathlib.Core.Path.{ap}
use native.Mathlib.Omega.{arith}
use Rattle.std.specs.Prelude.{Ok}
use Rattle.answers.specs.Told.{answered, reporting}
use Rattle.answers.proofs.ReportedFromResultReportRefusal.from.Goals as goal

pub returns-in-Ok : goal.returns-in-Ok
returns-in-Ok c =
    let report = c.in-Ok.report in
    rw (c.in-Ok.is, c.accepted.ensures, c.into.ensures)
    (ap (λ d. reporting (answered (Ok tt)) (record { length = report.length; kept = report.kept; dropped = d; stop = report.stop })) (omega arith))
