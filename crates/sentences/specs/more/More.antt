-- Statements that no sentence of the order asks for. A reader of the promises may skip this folder: what is promised is in Promises.antt, one folder up. Some say of
-- nets, or of the refusal that a call finds first, what a promise says of outcomes; some say more; some are examples. The one term is `more` of proofs/more/More.antt.
use Rattle.model.specs.Promises.{Rule, Amounts}
use Rattle.movement.specs.Promises.{WithoutArcs, MarkingTest, MarkingKept, Runs, Certificates, FigureAfter}
use Rattle.movement.specs.Exclusion.{ClaimAccepted, FigureConstant, OutOfReach}
use Rattle.second_form.specs.Promises.{DeadModes, FirstDead, DeadExactly, DeadOrLive}
use Rattle.second_form.specs.DemandThree.{Demand3}
use Rattle.second_form.specs.DeadComplement.{DeadInComplement}
use Rattle.both_forms.specs.WorkedExamples.{WorkedExamples}
use Rattle.both_forms.specs.Steps.{StepRule, StepAfter, StepOfOne, StepsBack, StepsForth, StepMembers, StepExamples}
use Rattle.both_forms.specs.WeakExamples.{WeakExamples}
use Rattle.both_forms.specs.Orders.{Orders, OrdersInBoth, Interleavings, OrderExamples}
use Rattle.both_forms.specs.Visits.{MovementsTried, VisitsBounded, VisitsExamples}
use Rattle.both_forms.specs.Audit.{AuditFinds, AuditAlong, MarkShows, AuditExamples}
use Rattle.bare.specs.Promises.{BareAfter, OldModes, NoNewDead}
use Rattle.sheets.specs.written.Promises.{ExampleLengths}
use Rattle.fire.specs.Promises.{AcceptedBegin, AcceptedFire, MarkingStays}
use Rattle.run.specs.Promises.{RunsLeave, RunsKeep, Certified}
use Rattle.run.specs.salvage.Promises.{ListWrittenThenRead, ListReadThenWritten, SalvagedRuns, WholeComesBack}
use Rattle.opened.specs.dead.Promises.{SaysDead, NamesFirst}
use Rattle.statement.specs.weigh.Promises.{FigureIsSum, ChangeIsSum, FigureFired}
use Rattle.statement.specs.exclude.Promises.{ExcludedExactly}
use Rattle.statement.specs.Promises.{TextOfRun}
use Rattle.ships.specs.Promises.{FleetStatement, RefusedShip}
use Rattle.complement.specs.audit.Promises.{SaysAudited}
use Rattle.convert.specs.Promises.{SourceOnly, ConvertedReads, ThereAndBack}
use Rattle.convert.specs.strip.Promises.{StrippedReads}
use Rattle.export.specs.Promises.{ExportsExactly, ComplementsExportable}
use Rattle.import.specs.Promises.{RefusedExactly, ImportsExactly, ImportedReads}
use Rattle.sentences.specs.more.LongestText.{LongestText}
use Rattle.sentences.specs.more.OwnExample.{OwnExample}
use Rattle.sentences.specs.more.Together.{Together}
use Rattle.sentences.specs.more.TwoLists.{TwoLists}
use Rattle.sentences.specs.more.LiveModes.{LiveModes}

-- of a net and its markings, without bytes
pub record OfNets : Type 0 where
  pub rule : Rule
  pub amounts : Amounts
  pub without_arcs : WithoutArcs
  pub marking_test : MarkingTest
  pub marking_kept : MarkingKept
  pub runs : Runs
  pub certificates : Certificates
  pub figure_after : FigureAfter
  pub claim_accepted : ClaimAccepted
  pub figure_constant : FigureConstant
  pub out_of_reach : OutOfReach
  pub dead_modes : DeadModes
  pub first_dead : FirstDead
  pub dead_exactly : DeadExactly
  pub dead_or_live : DeadOrLive
  pub movements_tried : MovementsTried
  pub visits_bounded : VisitsBounded
  pub bare_after : BareAfter
  pub old_modes : OldModes
  pub no_new_dead : NoNewDead

-- of a net and its complement, without bytes
pub record OfComplements : Type 0 where
  pub demand3 : Demand3
  pub dead_in_complement : DeadInComplement
  pub step_rule : StepRule
  pub step_after : StepAfter
  pub step_of_one : StepOfOne
  pub steps_back : StepsBack
  pub steps_forth : StepsForth
  pub step_members : StepMembers
  pub orders : Orders
  pub orders_in_both : OrdersInBoth
  pub interleavings : Interleavings
  pub audit_finds : AuditFinds
  pub audit_along : AuditAlong
  pub mark_shows : MarkShows

-- of bytes, by the refusal that a call finds first
pub record OfRefusals : Type 0 where
  pub accepted_begin : AcceptedBegin
  pub accepted_fire : AcceptedFire
  pub marking_stays : MarkingStays
  pub runs_leave : RunsLeave
  pub runs_keep : RunsKeep
  pub certified : Certified
  pub says_dead : SaysDead
  pub names_first : NamesFirst
  pub figure_is_sum : FigureIsSum
  pub change_is_sum : ChangeIsSum
  pub figure_fired : FigureFired
  pub excluded_exactly : ExcludedExactly
  pub says_audited : SaysAudited
  pub source_only : SourceOnly
  pub converted_reads : ConvertedReads
  pub there_and_back : ThereAndBack
  pub stripped_reads : StrippedReads
  pub exports_exactly : ExportsExactly
  pub complements_exportable : ComplementsExportable
  pub refused_exactly : RefusedExactly
  pub imports_exactly : ImportsExactly
  pub imported_reads : ImportedReads
  pub salvaged_runs : SalvagedRuns
  pub whole_comes_back : WholeComesBack
  pub fleet_statement : FleetStatement
  pub refused_ship : RefusedShip

-- of outcomes and texts: dead modes by the test of a mode, two foremen's lists, what `replay` prints in the words of running a list, how long a text in PNML can be,
-- movement sheets in both directions
pub record OfTexts : Type 0 where
  pub live_modes : LiveModes
  pub two_lists : TwoLists
  pub text_of_run : TextOfRun
  pub longest_text : LongestText
  pub list_written_then_read : ListWrittenThenRead
  pub list_read_then_written : ListReadThenWritten

pub record Examples : Type 0 where
  pub own_example : OwnExample
  pub example_lengths : ExampleLengths
  pub worked_examples : WorkedExamples
  pub step_examples : StepExamples
  pub weak_examples : WeakExamples
  pub order_examples : OrderExamples
  pub visits_examples : VisitsExamples
  pub audit_examples : AuditExamples

pub record More : Type 0 where
  pub of_nets : OfNets
  pub of_complements : OfComplements
  pub of_refusals : OfRefusals
  pub of_texts : OfTexts
  -- several requests at once
  pub together : Together
  pub examples : Examples
