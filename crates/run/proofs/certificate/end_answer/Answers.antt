-- The first marking is accepted; the run stops, or the marking that it left is compared.
use mathlib.Core.Path.{◌∙◌}
use native.Mathlib.Omega.{arith}
use Rattle.sheets.specs.Decoded.{net_of, movements_of}
use Rattle.opened.proofs.Shapes.{sizes}
use Rattle.model.proofs.Asking.{handed_on}
use Rattle.run.proofs.Certifying.{ends-stopped, ends-compared}
use Rattle.run.proofs.certificate.end_answer.Goals as goal

pub run_listed-requires : goal.run_listed-requires
run_listed-requires c = record { tables = record { numbered = record { opened = c.args.net.now.is_open; numbers_are = λ l. absurd (omega arith) }; starts_hold = c.starts-starts.ensures }; marking = rw c.write_start.ensures (sizes c.args.net.now.is_open).well_formed.start }

pub returns-in_err-run_listed : goal.returns-in_err-run_listed
returns-in_err-run_listed c =
    let a = c.args in
    ends-stopped (net_of a.net.now.sheet.now) (movements_of a.movements.now.sheet.now) a.claim.now c.write_start.ensures c.run_listed.ensures c.in_err-run_listed.was (handed_on c.from_residual.ensures)

pub compare-requires : goal.compare-requires
compare-requires c =
    let size = c.requires.claim_len in
    (c.run_listed.auto.marking ∙ c.write_start.auto.marking ∙ size.1, size.0, (sizes c.args.net.now.is_open).pairs_within)

pub returns : goal.returns
returns c =
    let a = c.args in
    ends-compared (net_of a.net.now.sheet.now) (movements_of a.movements.now.sheet.now) a.claim.now c.write_start.ensures c.run_listed.ensures
    c.in_ok-run_listed.was (sizes c.args.net.now.is_open).pairs c.compare.ensures

pub write_start-requires : goal.write_start-requires
write_start-requires c = record { marking_len = c.requires.claim_len.1 }
