-- The terms of the statements that no sentence of the order asks for.
use Rattle.model.proofs.Firing.{rule}
use Rattle.model.proofs.ShortOrOver.{amounts}
use Rattle.movement.proofs.Markings.{without-arcs, marking-test, marking-kept}
use Rattle.movement.proofs.Runs.{runs, certificates}
use Rattle.movement.proofs.Figures.{figure-after}
use Rattle.movement.proofs.Exclusion.{claim-accepted, figure-constant, out-of-reach}
use Rattle.second_form.proofs.Dead.{dead-modes, first-dead}
use Rattle.second_form.proofs.Possible.{dead-exactly, dead_or_live_lem}
use Rattle.second_form.proofs.Demand3.{demand3}
use Rattle.second_form.proofs.DeadComplement.{dead_in_complement_lem}
use Rattle.both_forms.proofs.WorkedExamples.{worked_examples_lem}
use Rattle.both_forms.proofs.Steps.{step-rule, step_after_lem, step-of-one, step_members_lem}
use Rattle.both_forms.proofs.CorrespondingSteps.{steps_back_lem, steps-forth, step_examples_lem}
use Rattle.both_forms.proofs.WeakExamples.{weak_examples_lem}
use Rattle.both_forms.proofs.Orders.{orders, interleavings}
use Rattle.both_forms.proofs.ApartInBoth.{orders_in_both_lem, order_examples_lem}
use Rattle.both_forms.proofs.Visits.{movements-tried, visits-bounded, visits_examples_lem}
use Rattle.both_forms.proofs.OutOfStep.{audit-finds, audit_examples_lem}
use Rattle.both_forms.proofs.OutOfStepMoves.{audit-along, mark_shows_lem}
use Rattle.bare.proofs.Bare.{bare-after}
use Rattle.bare.proofs.OldModes.{old_modes_lem, no_new-dead}
use Rattle.sheets.proofs.written.Largest.{example_lengths_lem}
use Rattle.fire.proofs.Promises.{accepted-begin, accepted-fire, marking-stays}
use Rattle.run.proofs.Promises.{runs_leave_lem, runs_keep_lem, certified}
use Rattle.run.proofs.salvage.MovementSheets.{list_written-then-read, list_read-then-written}
use Rattle.run.proofs.salvage.Promises.{salvaged-runs, whole_comes_back_lem}
use Rattle.opened.proofs.dead.Promises.{says-dead, names_first_lem}
use Rattle.statement.proofs.weigh.Promises.{figure-is-sum, change-is-sum, figure-fired}
use Rattle.statement.proofs.exclude.Promises.{excluded-exactly}
use Rattle.statement.proofs.TextOfRun.{text-of-run}
use Rattle.ships.proofs.Totals.{fleet_statement_lem, refused-ship}
use Rattle.complement.proofs.audit.Promises.{says-audited}
use Rattle.convert.proofs.Promises.{source_only_lem, converted_reads_lem, there_and_back_lem}
use Rattle.convert.proofs.strip.Promises.{stripped_reads_lem}
use Rattle.export.proofs.Promises.{exports-exactly, complements-exportable}
use Rattle.import.proofs.Promises.{refused-exactly, imports-exactly, imported_reads_lem}
use Rattle.sentences.specs.more.More.{OfNets, OfComplements, OfRefusals, OfTexts, Examples, More}
use Rattle.sentences.proofs.LongestText.{longest-text}
use Rattle.sentences.proofs.OwnExample.{own-example}
use Rattle.sentences.proofs.LiveModes.{live-exactly}
use Rattle.sentences.proofs.TwoOrders.{two-lists}
use Rattle.sentences.proofs.more.Together.{together}

of-nets : OfNets
of-nets =
    record {
      rule = rule;
      amounts = amounts;
      without_arcs = without-arcs;
      marking_test = marking-test;
      marking_kept = marking-kept;
      runs = runs;
      certificates = certificates;
      figure_after = figure-after;
      claim_accepted = claim-accepted;
      figure_constant = figure-constant;
      out_of_reach = out-of-reach;
      dead_modes = dead-modes;
      first_dead = first-dead;
      dead_exactly = dead-exactly;
      dead_or_live = dead_or_live_lem;
      movements_tried = movements-tried;
      visits_bounded = visits-bounded;
      bare_after = bare-after;
      old_modes = old_modes_lem;
      no_new_dead = no_new-dead;
    }

of-complements : OfComplements
of-complements =
    record {
      demand3 = demand3;
      dead_in_complement = dead_in_complement_lem;
      step_rule = step-rule;
      step_after = step_after_lem;
      step_of_one = step-of-one;
      steps_back = steps_back_lem;
      steps_forth = steps-forth;
      step_members = step_members_lem;
      orders = orders;
      orders_in_both = orders_in_both_lem;
      interleavings = interleavings;
      audit_finds = audit-finds;
      audit_along = audit-along;
      mark_shows = mark_shows_lem;
    }

of-refusals : OfRefusals
of-refusals =
    record {
      accepted_begin = accepted-begin;
      accepted_fire = accepted-fire;
      marking_stays = marking-stays;
      runs_leave = runs_leave_lem;
      runs_keep = runs_keep_lem;
      certified = certified;
      says_dead = says-dead;
      names_first = names_first_lem;
      figure_is_sum = figure-is-sum;
      change_is_sum = change-is-sum;
      figure_fired = figure-fired;
      excluded_exactly = excluded-exactly;
      says_audited = says-audited;
      source_only = source_only_lem;
      converted_reads = converted_reads_lem;
      there_and_back = there_and_back_lem;
      stripped_reads = stripped_reads_lem;
      exports_exactly = exports-exactly;
      complements_exportable = complements-exportable;
      refused_exactly = refused-exactly;
      imports_exactly = imports-exactly;
      imported_reads = imported_reads_lem;
      salvaged_runs = salvaged-runs;
      whole_comes_back = whole_comes_back_lem;
      fleet_statement = fleet_statement_lem;
      refused_ship = refused-ship;
    }

of-texts : OfTexts
of-texts =
    record {
      live_modes = live-exactly;
      two_lists = two-lists;
      text_of_run = text-of-run;
      longest_text = longest-text;
      list_written_then_read = list_written-then-read;
      list_read_then_written = list_read-then-written;
    }

examples : Examples
examples =
    record {
      own_example = own-example;
      example_lengths = example_lengths_lem;
      worked_examples = worked_examples_lem;
      step_examples = step_examples_lem;
      weak_examples = weak_examples_lem;
      order_examples = order_examples_lem;
      visits_examples = visits_examples_lem;
      audit_examples = audit_examples_lem;
    }

pub more : More
more = record { of_nets = of-nets; of_complements = of-complements; of_refusals = of-refusals; of_texts = of-texts; together = together; examples = examples }
