-- The frauds that document 01 names.
use Rattle.promises.specs.Frauds.{Frauds}
use Rattle.promises.proofs.ConstantAnswers.{constant-answers}
use Rattle.promises.proofs.ConstantAnswersForC.{constant-answers_for_c}
use Rattle.promises.proofs.ConstantAmounts.{constant-amounts}
use Rattle.promises.proofs.WritesNothing.{writes_nothing}
use Rattle.promises.proofs.CopiesNet.{copies_net}
use Rattle.promises.proofs.CopiesSheet.{copies_sheet}
use Rattle.promises.proofs.StripFrauds.{strip-frauds}
use Rattle.promises.proofs.ExchangeFrauds.{exchange-frauds}
use Rattle.promises.proofs.RunFrauds.{run-frauds}
use Rattle.promises.proofs.ArcsVisited.{visit_frauds}
use Rattle.promises.proofs.StepFrauds.{first-member-alone}
use Rattle.promises.proofs.AuditFrauds.{always_in_step}
use Rattle.promises.proofs.Exclusion.{exclusion_frauds}
use Rattle.promises.proofs.SalvageFrauds.{salvage-frauds}
use Rattle.promises.proofs.FleetOfCalls.{fleet_frauds}

pub frauds : Frauds
frauds =
    record {
      constant = constant-answers;
      constant_for_c = constant-answers_for_c;
      constant_amount = constant-amounts;
      firing = writes_nothing;
      copying = copies_net;
      converting = copies_sheet;
      stripping = strip-frauds;
      exchanging = exchange-frauds;
      running = run-frauds;
      visiting = visit_frauds;
      stepping = first-member-alone;
      auditing = always_in_step;
      excluding = exclusion_frauds;
      salvaging = salvage-frauds;
      counting = fleet_frauds;
    }
