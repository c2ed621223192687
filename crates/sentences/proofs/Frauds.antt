-- The frauds that document 01 names.
use Rattle.sentences.specs.Frauds.{Frauds}
use Rattle.sentences.proofs.ConstantAnswers.{constant-answers, constant-amounts}
use Rattle.sentences.proofs.WritesNothing.{writes_nothing}
use Rattle.sentences.proofs.CopiesNet.{copies_net}
use Rattle.sentences.proofs.CopiesSheet.{copies_sheet}
use Rattle.sentences.proofs.StripFrauds.{strip-frauds}
use Rattle.sentences.proofs.ExchangeFrauds.{exchange-frauds}
use Rattle.sentences.proofs.RunFrauds.{run-frauds}
use Rattle.sentences.proofs.ArcsVisited.{visit_frauds}
use Rattle.sentences.proofs.StepFrauds.{first-member-alone}
use Rattle.sentences.proofs.AuditFrauds.{always_in_step}
use Rattle.sentences.proofs.Exclusion.{exclusion_frauds}
use Rattle.sentences.proofs.SalvageFrauds.{salvage-frauds}
use Rattle.sentences.proofs.FleetOfCalls.{fleet_frauds}

pub frauds : Frauds
frauds =
    record {
      constant = constant-answers;
      constant_amount = constant-amounts;
      firing = writes_nothing;
      copying = copies_net;
      converting = copies_sheet;
      stripping = strip-frauds;
      exchanging = exchange-frauds;
      running = run-frauds;
      visiting = visit_frauds;
      stepping = first-member-alone;
      auditing = always_in_step;
      excluding = exclusion_frauds;
      salvaging = salvage-frauds;
      counting = fleet_frauds;
    }
