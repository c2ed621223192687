-- Every promise, with its one term.
use Rattle.model.proofs.Firing.{refusal-table, rule}
use Rattle.model.proofs.ShortOrOver.{amounts}
use Rattle.movement.proofs.Markings.{mode-rule, marking-after, without-arcs, marking-test, marking-kept}
use Rattle.movement.proofs.Runs.{runs, certificates}
use Rattle.movement.proofs.Figures.{figure-after}
use Rattle.second_form.proofs.Dead.{dead-modes, first-dead}
use Rattle.second_form.proofs.Possible.{dead-exactly, dead_or_live_lem}
use Rattle.second_form.proofs.Figure64.{figure_64}
use Rattle.both_forms.proofs.ArcByArc.{arc-by-arc}
use Rattle.both_forms.proofs.WorkedExamples.{worked_examples_lem}
use Rattle.second_form.proofs.Demand3.{demand3}
use Rattle.second_form.proofs.DeadComplement.{never16, dead_in_complement_lem}
use Rattle.both_forms.proofs.Edges.{starred}
use Rattle.both_forms.proofs.Steps.{step-rule, step_after_lem, step-of-one, step_members_lem}
use Rattle.movement.proofs.Exclusion.{claim-accepted, figure-constant, out-of-reach}
use Rattle.both_forms.proofs.CorrespondingSteps.{steps_back_lem, steps-forth, step_examples_lem}
use Rattle.both_forms.proofs.WeakExamples.{weak_examples_lem, weak_steps_lem}
use Rattle.both_forms.proofs.Orders.{orders, interleavings}
use Rattle.both_forms.proofs.ApartInBoth.{orders_in_both_lem, order_examples_lem}
use Rattle.both_forms.proofs.Visits.{movements-tried, visits-bounded, visits_examples_lem}
use Rattle.both_forms.proofs.OutOfStep.{audit-finds, audit_examples_lem}
use Rattle.both_forms.proofs.OutOfStepMoves.{audit-along, mark_shows_lem}
use Rattle.sheets.proofs.Accepted.{well_formed_lem}
use Rattle.sheets.proofs.Listed.{movements-within, weights-within}
use Rattle.sheets.proofs.lists.Signs.{signed-weights}
use Rattle.sheets.proofs.written.RoundTrip.{written-then-read, read-then-written}
use Rattle.run.proofs.salvage.MovementSheets.{list_written-then-read, list_read-then-written}
use Rattle.run.proofs.salvage.Promises.{salvaged-runs, whole_comes_back_lem}
use Rattle.convert.proofs.Promises.{source_only_lem, converted_reads_lem, there_and_back_lem}
use Rattle.bare.proofs.Bare.{bare-after}
use Rattle.bare.proofs.OldModes.{old_modes_lem, no_new-dead}
use Rattle.convert.proofs.strip.Promises.{stripped_reads_lem}
use Rattle.export.proofs.Promises.{exports-exactly, complements-exportable}
use Rattle.import.proofs.Promises.{refused-exactly, imports-exactly, imported_reads_lem}
use Rattle.sheets.proofs.written.Largest.{largest-sheet, example_lengths_lem}
use Rattle.fire.proofs.Promises.{accepted-begin, accepted-fire, marking-stays}
use Rattle.run.proofs.Promises.{runs_leave_lem, runs_keep_lem, certified}
use Rattle.statement.proofs.weigh.Promises.{figure-is-sum, change-is-sum, figure-fired}
use Rattle.opened.proofs.dead.Promises.{says-dead, names_first_lem}
use Rattle.complement.proofs.audit.Promises.{says-audited}
use Rattle.statement.proofs.exclude.Promises.{excluded-exactly}
use Rattle.ships.proofs.Totals.{fleet_statement_lem, refused-ship}
use Rattle.promises.specs.Promises.{Promises}
use Rattle.promises.proofs.DemandOne.{demand_one_lem, demand_one_for_c_lem}
use Rattle.promises.proofs.DemandThree.{over_bytes_lem}
use Rattle.text.proofs.Decimals.{decimals}
use Rattle.statement.proofs.TextOfRun.{text-of-run}
use Rattle.statement.proofs.Example.{printed}
use Rattle.promises.proofs.TextRoom.{text-room}
use Rattle.promises.proofs.TwoRuns.{two_runs_lem}
use Rattle.promises.proofs.TwoSteps.{two_steps_lem}
use Rattle.promises.proofs.DeadAsWritten.{dead_as_written_lem}
use Rattle.promises.proofs.TwoOrders.{two-orders}
use Rattle.promises.proofs.Audits.{audits}
use Rattle.promises.proofs.Positions.{positions}
use Rattle.promises.proofs.Stripping.{stripping}
use Rattle.promises.proofs.Exchange.{export-then_import, import_then-export, complement-then-export}
use Rattle.promises.proofs.LongestText.{longest-text}
use Rattle.promises.proofs.FigureOverRun.{figure-over-run}
use Rattle.promises.proofs.ArcsVisited.{arcs-visited}
use Rattle.promises.proofs.LiveModes.{live-modes}
use Rattle.promises.proofs.Exclusion.{no_list_leads_lem, no_sheet-certifies, figure_call_constant_lem}
use Rattle.promises.proofs.FleetOfCalls.{fleet_of-calls}
use Rattle.promises.proofs.CallTables.{call_tables_lem}
use Rattle.promises.proofs.Uniqueness.{uniqueness}
use Rattle.promises.proofs.EqualNets.{equal-nets}
use Rattle.promises.proofs.EqualNetsForC.{equal-nets_for_c}
use Rattle.promises.proofs.Frauds.{frauds}
use Rattle.promises.proofs.OwnExample.{own-example}

pub promises : Promises
promises =
    record {
      refusal_table = refusal-table;
      amounts = amounts;
      rule = rule;
      mode_rule = mode-rule;
      marking_after = marking-after;
      without_arcs = without-arcs;
      marking_test = marking-test;
      marking_kept = marking-kept;
      runs = runs;
      certificates = certificates;
      figure_after = figure-after;
      dead_modes = dead-modes;
      first_dead = first-dead;
      dead_exactly = dead-exactly;
      dead_or_live = dead_or_live_lem;
      figure64 = figure_64;
      arc_by_arc = arc-by-arc;
      worked_examples = worked_examples_lem;
      demand3 = demand3;
      never16 = never16;
      dead_in_complement = dead_in_complement_lem;
      edges = starred;
      weak_examples = weak_examples_lem;
      step_rule = step-rule;
      step_after = step_after_lem;
      step_of_one = step-of-one;
      steps_back = steps_back_lem;
      steps_forth = steps-forth;
      step_members = step_members_lem;
      step_examples = step_examples_lem;
      weak_steps = weak_steps_lem;
      orders = orders;
      orders_in_both = orders_in_both_lem;
      interleavings = interleavings;
      order_examples = order_examples_lem;
      movements_tried = movements-tried;
      visits_bounded = visits-bounded;
      visits_examples = visits_examples_lem;
      audit_finds = audit-finds;
      audit_along = audit-along;
      mark_shows = mark_shows_lem;
      audit_examples = audit_examples_lem;
      claim_accepted = claim-accepted;
      figure_constant = figure-constant;
      out_of_reach = out-of-reach;
      bare_after = bare-after;
      old_modes = old_modes_lem;
      no_new_dead = no_new-dead;
      accepted_net = well_formed_lem;
      accepted_movements = movements-within;
      accepted_weights = weights-within;
      signed_weights = signed-weights;
      written_then_read = written-then-read;
      read_then_written = read-then-written;
      positions = positions;
      largest_sheet = largest-sheet;
      example_lengths = example_lengths_lem;
      accepted_begin = accepted-begin;
      accepted_fire = accepted-fire;
      marking_stays = marking-stays;
      runs_leave = runs_leave_lem;
      runs_keep = runs_keep_lem;
      certified = certified;
      arcs_visited = arcs-visited;
      figure_is_sum = figure-is-sum;
      change_is_sum = change-is-sum;
      figure_fired = figure-fired;
      figure_over_run = figure-over-run;
      says_dead = says-dead;
      names_first = names_first_lem;
      live_modes = live-modes;
      says_audited = says-audited;
      excluded_exactly = excluded-exactly;
      no_list_leads = no_list_leads_lem;
      no_sheet_certifies = no_sheet-certifies;
      figure_call_constant = figure_call_constant_lem;
      fleet_statement = fleet_statement_lem;
      refused_ship = refused-ship;
      fleet_of_calls = fleet_of-calls;
      source_only = source_only_lem;
      converted_reads = converted_reads_lem;
      there_and_back = there_and_back_lem;
      stripped_reads = stripped_reads_lem;
      stripping = stripping;
      exports_exactly = exports-exactly;
      complements_exportable = complements-exportable;
      refused_exactly = refused-exactly;
      imports_exactly = imports-exactly;
      imported_reads = imported_reads_lem;
      export_then_import = export-then_import;
      import_then_export = import_then-export;
      complement_then_export = complement-then-export;
      longest_text = longest-text;
      list_written_then_read = list_written-then-read;
      list_read_then_written = list_read-then-written;
      salvaged_runs = salvaged-runs;
      whole_comes_back = whole_comes_back_lem;
      over_bytes = over_bytes_lem;
      two_runs = two_runs_lem;
      two_steps = two_steps_lem;
      dead_as_written = dead_as_written_lem;
      two_orders = two-orders;
      audits = audits;
      decimals = decimals;
      text_of_run = text-of-run;
      text_room = text-room;
      printed = printed;
      demand_one = demand_one_lem;
      demand_one_for_c = demand_one_for_c_lem;
      call_tables = call_tables_lem;
      uniqueness = uniqueness;
      equal_nets = equal-nets;
      equal_nets_for_c = equal-nets_for_c;
      frauds = frauds;
      own_example = own-example;
    }
