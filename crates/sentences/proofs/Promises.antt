-- Every promise, with its one term.
use mathlib.Core.Path.{◌∙◌, ap}
use Rattle.model.proofs.ShortOrOver.{amounts}
use Rattle.second_form.proofs.DeadComplement.{never16}
use Rattle.both_forms.proofs.Edges.{starred}
use Rattle.both_forms.proofs.CorrespondingSteps.{step_examples_lem}
use Rattle.both_forms.proofs.WeakExamples.{weak_steps_lem}
use Rattle.model.specs.declared.Version.TheVariants.{One, Two}
use Rattle.sentences.specs.Calls.{Public}
use Rattle.sentences.specs.CallTables.{HasTable}
use Rattle.sentences.specs.Promises.{Promises}
use Rattle.sentences.proofs.CallTables.{call_tables_lem, tests}
use Rattle.sentences.proofs.Positions.{positions}
use Rattle.sentences.proofs.DemandOne.{demand_one_lem, ship-left}
use Rattle.sentences.proofs.Demand2.{demand2}
use Rattle.sentences.proofs.Demand3.{demand3}
use Rattle.sentences.proofs.Uniqueness.{uniqueness}
use Rattle.sentences.proofs.ToldToC.{told-to-c, for-c-too}
use Rattle.sentences.proofs.StatedForC.{stated-for-c}
use Rattle.sentences.proofs.Frauds.{frauds}
use Rattle.sentences.proofs.ConstantAnswers.{constant-amounts}
use Rattle.sentences.proofs.P1.{stepping}
use Rattle.sentences.proofs.TwoSteps.{two_steps_lem}
use Rattle.sentences.proofs.LiveModes.{dead-exactly-told}
use Rattle.sentences.proofs.DeadAsWritten.{dead-beside}
use Rattle.sentences.proofs.Exchange.{complement-then-export, exported-back, imported-back, export-writes, export-text, import-writes}
use Rattle.sentences.proofs.Stripping.{stripped, strip-writes}
use Rattle.sentences.proofs.Exclusion.{excludes-exactly, claims-no-list, claims-no-sheet, figure-stays}
use Rattle.sentences.proofs.P9.{converts}
use Rattle.sentences.proofs.EqualNets.{equal-nets}
use Rattle.statement.proofs.Example.{printed}
use Rattle.sentences.proofs.BesideRow.{post-is-pre, weak-pre, live-post}
use Rattle.sentences.proofs.WeakRule.{weakly}
use Rattle.sentences.proofs.P11.{salvages, salvage-writes}
use Rattle.sentences.proofs.TwoOrders.{two-orders, apart-in-complement}
use Rattle.sentences.proofs.FleetOfCalls.{fleet_of-calls}
use Rattle.sentences.proofs.ArcsVisited.{reports}
use Rattle.sentences.proofs.Audits.{audit-finds-so, audits}

table : (c : Public) → HasTable c
table c = (call_tables_lem.each c, call_tables_lem.each_for_c c)

pub promises : Promises
promises =
    record {
      demand1 = record { refusals = call_tables_lem; tests = tests; positions = positions; keeps = demand_one_lem };
      demand2 = demand2;
      demand3 = demand3;
      contract = record { uniqueness = uniqueness; told_to_c = told-to-c; stated_for_c = stated-for-c; for_c_too = for-c-too; frauds = frauds; edges = starred };
      p1 =
          record {
            stepping = stepping;
            two_steps = two_steps_lem;
            false_in_general = step_examples_lem.section63;
            test_step = table Public.test_step;
            fire_step = table Public.fire_step;
          };
      p2 = record { dead_exactly = dead-exactly-told };
      p3 = record { other_numbers = amounts.other_numbers; constant_amounts = constant-amounts; passed = call_tables_lem; printed = printed };
      p4 =
          record {
            post_is_pre = λ net t p k h l e. post-is-pre net t p k h l e;
            dead_beside = dead-beside;
            never16 = never16;
            complement = table Public.complement;
          };
      p5 =
          record {
            complement_then_export = complement-then-export;
            export_writes = export-writes;
            export_text = export-text;
            import_writes = import-writes;
            import_then_export = imported-back;
            export_then_import = exported-back;
            export_pnml = table Public.export_pnml;
            import_pnml = table Public.import_pnml;
          };
      p7 = record { writes = strip-writes; stripped = stripped; strip = table Public.strip };
      p8 =
          record {
            exactly = excludes-exactly;
            no_list_leads = claims-no-list;
            no_sheet_certifies = claims-no-sheet;
            figure_constant = figure-stays;
            exclude = table Public.exclude;
          };
      p9 =
          record {
            to2 = converts One Two;
            to1 = converts Two One;
            equal_nets = equal-nets;
            to_version2 = table Public.to_version2;
            to_version1 = table Public.to_version1;
          };
      p10 =
          record {
            weakly = weakly;
            weak_pre = λ net t p k weak h l e. weak-pre net t p k h l e weak;
            post = λ net t p k h l e. live-post net t p k h l e;
            weak_steps = weak_steps_lem;
            to_version1 = table Public.to_version1;
          };
      p11 = record { writes = salvage-writes; salvages = salvages; salvage = table Public.salvage };
      p12 = record { two_orders = two-orders; in_complement = apart-in-complement };
      p13 = record { fleet_of_calls = fleet_of-calls; refused_ship = ship-left; fleet_add = table Public.fleet_add };
      p14 =
          record {
            run = λ net movements marking left r h. reports net movements marking (ap (λ r. r.visited) h.0);
            run_for_c = λ net movements marking left d h. reports net movements marking (ap (λ d. d.arcs) h.2 ∙ ap (λ r. r.visited) h.1.0);
          };
      audit =
          record {
            finds = audit-finds-so;
            audits = audits;
            audit = table Public.audit;
          };
    }
