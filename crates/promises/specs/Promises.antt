-- All that is promised, in one record: open this file first. A field is a statement, of the file that its `use` line names; its term is in proofs/.
use Rattle.model.specs.Promises as model
use Rattle.movement.specs.Promises as movement
use Rattle.second_form.specs.Promises as second
use Rattle.both_forms.specs.Promises as both
use Rattle.both_forms.specs.Edges.{Edges}
use Rattle.both_forms.specs.WorkedExamples.{WorkedExamples}
use Rattle.second_form.specs.DemandThree.{Demand3}
use Rattle.second_form.specs.DeadComplement.{Never16, DeadInComplement}
use Rattle.both_forms.specs.Steps as step
use Rattle.both_forms.specs.WeakExamples.{WeakExamples, WeakSteps}
use Rattle.both_forms.specs.Orders.{Orders, OrdersInBoth, Interleavings, OrderExamples}
use Rattle.both_forms.specs.Visits as visits
use Rattle.both_forms.specs.Audit as audit
use Rattle.movement.specs.Exclusion as claim
use Rattle.sheets.specs.Accepted.{AcceptedNet, AcceptedMovements, AcceptedWeights}
use Rattle.sheets.specs.lists.Promises.{SignedWeights}
use Rattle.sheets.specs.written.Promises.{WrittenThenRead, ReadThenWritten, LargestSheet, ExampleLengths}
use Rattle.convert.specs.Promises.{SourceOnly, ConvertedReads, ThereAndBack}
use Rattle.bare.specs.Promises.{BareAfter, OldModes, NoNewDead}
use Rattle.convert.specs.strip.Promises.{StrippedReads}
use Rattle.export.specs.Promises.{ExportsExactly, ComplementsExportable}
use Rattle.import.specs.Promises.{RefusedExactly, ImportsExactly, ImportedReads}
use Rattle.fire.specs.Promises.{AcceptedBegin, AcceptedFire, MarkingStays}
use Rattle.run.specs.Promises.{RunsLeave, RunsKeep, Certified}
use Rattle.statement.specs.weigh.Promises.{FigureIsSum, ChangeIsSum, FigureFired}
use Rattle.opened.specs.dead.Promises.{SaysDead, NamesFirst}
use Rattle.complement.specs.audit.Promises.{SaysAudited}
use Rattle.statement.specs.exclude.Promises.{ExcludedExactly}
use Rattle.run.specs.salvage.Promises as salvage
use Rattle.ships.specs.Promises.{FleetStatement, RefusedShip}
use Rattle.promises.specs.DemandOne.{DemandOne, DemandOneForC}
use Rattle.promises.specs.DemandThree.{OverBytes}
use Rattle.text.specs.Promises.{Decimals}
use Rattle.statement.specs.Promises.{TextOfRun}
use Rattle.statement.specs.Example.{Printed}
use Rattle.promises.specs.TextRoom.{TextRoom}
use Rattle.promises.specs.TwoRuns.{TwoRuns}
use Rattle.promises.specs.TwoSteps.{TwoSteps}
use Rattle.promises.specs.DeadAsWritten.{DeadAsWritten}
use Rattle.promises.specs.TwoOrders.{TwoOrders}
use Rattle.promises.specs.Audits.{Audits}
use Rattle.promises.specs.Positions.{Positions}
use Rattle.promises.specs.Stripping.{Stripping}
use Rattle.promises.specs.Exchange.{ExportThenImport, ImportThenExport, ComplementThenExport}
use Rattle.promises.specs.LongestText.{LongestText}
use Rattle.promises.specs.FigureOverRun.{FigureOverRun}
use Rattle.promises.specs.ArcsVisited.{ArcsVisited}
use Rattle.promises.specs.LiveModes.{LiveModes}
use Rattle.promises.specs.Exclusion.{NoListLeads, NoSheetCertifies, FigureCallConstant}
use Rattle.promises.specs.FleetOfCalls.{FleetOfCalls}
use Rattle.promises.specs.CallTables.{CallTables}
use Rattle.promises.specs.Uniqueness.{Uniqueness}
use Rattle.promises.specs.EqualNets.{EqualNets}
use Rattle.promises.specs.EqualNetsForC.{EqualNetsForC}
use Rattle.promises.specs.Frauds.{Frauds}
use Rattle.promises.specs.OwnExample.{OwnExample}

pub record Promises : Type 0 where
  -- of nets, markings and lists of modes
  pub refusal_table : model.RefusalTable
  pub amounts : model.Amounts
  pub rule : model.Rule
  pub mode_rule : movement.ModeRule
  pub marking_after : movement.MarkingAfter
  pub without_arcs : movement.WithoutArcs
  pub marking_test : movement.MarkingTest
  pub marking_kept : movement.MarkingKept
  pub runs : movement.Runs
  pub certificates : movement.Certificates
  pub figure_after : movement.FigureAfter
  pub dead_modes : second.DeadModes
  pub first_dead : second.FirstDead
  pub dead_exactly : second.DeadExactly
  pub dead_or_live : second.DeadOrLive
  pub figure64 : second.Figure64
  pub arc_by_arc : both.ArcByArc
  pub worked_examples : WorkedExamples
  pub demand3 : Demand3
  pub never16 : Never16
  pub dead_in_complement : DeadInComplement
  pub edges : Edges
  pub weak_examples : WeakExamples
  pub step_rule : step.StepRule
  pub step_after : step.StepAfter
  pub step_of_one : step.StepOfOne
  pub steps_back : step.StepsBack
  pub steps_forth : step.StepsForth
  pub step_members : step.StepMembers
  pub step_examples : step.StepExamples
  pub weak_steps : WeakSteps
  pub orders : Orders
  pub orders_in_both : OrdersInBoth
  pub interleavings : Interleavings
  pub order_examples : OrderExamples
  pub movements_tried : visits.MovementsTried
  pub visits_bounded : visits.VisitsBounded
  pub visits_examples : visits.VisitsExamples
  pub audit_finds : audit.AuditFinds
  pub audit_along : audit.AuditAlong
  pub mark_shows : audit.MarkShows
  pub audit_examples : audit.AuditExamples
  pub claim_accepted : claim.ClaimAccepted
  pub figure_constant : claim.FigureConstant
  pub out_of_reach : claim.OutOfReach
  pub bare_after : BareAfter
  pub old_modes : OldModes
  pub no_new_dead : NoNewDead
  -- of sheets, read and written
  pub accepted_net : AcceptedNet
  pub accepted_movements : AcceptedMovements
  pub accepted_weights : AcceptedWeights
  pub signed_weights : SignedWeights
  pub written_then_read : WrittenThenRead
  pub read_then_written : ReadThenWritten
  pub positions : Positions
  pub largest_sheet : LargestSheet
  pub example_lengths : ExampleLengths
  -- of the calls, over the bytes that they are given
  pub accepted_begin : AcceptedBegin
  pub accepted_fire : AcceptedFire
  pub marking_stays : MarkingStays
  pub runs_leave : RunsLeave
  pub runs_keep : RunsKeep
  pub certified : Certified
  pub arcs_visited : ArcsVisited
  pub figure_is_sum : FigureIsSum
  pub change_is_sum : ChangeIsSum
  pub figure_fired : FigureFired
  pub figure_over_run : FigureOverRun
  pub says_dead : SaysDead
  pub names_first : NamesFirst
  pub live_modes : LiveModes
  pub says_audited : SaysAudited
  pub excluded_exactly : ExcludedExactly
  pub no_list_leads : NoListLeads
  pub no_sheet_certifies : NoSheetCertifies
  pub figure_call_constant : FigureCallConstant
  pub fleet_statement : FleetStatement
  pub refused_ship : RefusedShip
  pub fleet_of_calls : FleetOfCalls
  pub source_only : SourceOnly
  pub converted_reads : ConvertedReads
  pub there_and_back : ThereAndBack
  pub stripped_reads : StrippedReads
  pub stripping : Stripping
  pub exports_exactly : ExportsExactly
  pub complements_exportable : ComplementsExportable
  pub refused_exactly : RefusedExactly
  pub imports_exactly : ImportsExactly
  pub imported_reads : ImportedReads
  pub export_then_import : ExportThenImport
  pub import_then_export : ImportThenExport
  pub complement_then_export : ComplementThenExport
  pub longest_text : LongestText
  pub list_written_then_read : salvage.ListWrittenThenRead
  pub list_read_then_written : salvage.ListReadThenWritten
  pub salvaged_runs : salvage.SalvagedRuns
  pub whole_comes_back : salvage.WholeComesBack
  pub over_bytes : OverBytes
  pub two_runs : TwoRuns
  pub two_steps : TwoSteps
  pub dead_as_written : DeadAsWritten
  pub two_orders : TwoOrders
  pub audits : Audits
  pub decimals : Decimals
  pub text_of_run : TextOfRun
  pub text_room : TextRoom
  pub printed : Printed
  -- of the contracts of the calls
  pub demand_one : DemandOne
  pub demand_one_for_c : DemandOneForC
  pub call_tables : CallTables
  pub uniqueness : Uniqueness
  pub equal_nets : EqualNets
  pub equal_nets_for_c : EqualNetsForC
  pub frauds : Frauds
  pub own_example : OwnExample
