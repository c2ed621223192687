-- The contracts of the calls for C, which the source states by these names: what each allows of what it tells and of the slice that it leaves.
use Rattle.model.specs.declared.Refusal.{Refusal}
use Rattle.std.specs.Prelude.{ℕ, ◌≡◌, List, Result}
use Rattle.model.specs.declared.Pair.{Pair}
use Rattle.model.specs.declared.Mode.{Mode}
use Rattle.model.specs.declared.Version.TheVariants.{One, Two}
use Rattle.model.specs.Refusals.{answer}
use Rattle.sheets.specs.nets.Nets.{net_refusal}
use Rattle.sheets.specs.lists.Weights.{weights_refusal}
use Rattle.sheets.specs.lists.Movements.{movements_refusal}
use Rattle.sheets.specs.Emitted as emitting
use Rattle.fire.specs.Calls.{begin_refusal, begun, test_refusal, fired_by}
use Rattle.run.specs.Calls.{ran_of, run_of, visited_by, certify_refusal}
use Rattle.fire.specs.step.Calls.{test_step_refusal, stepped_by}
use Rattle.statement.specs.weigh.Calls as weigh
use Rattle.statement.specs.exclude.Calls.{exclude_refusal}
use Rattle.opened.specs.dead.IsDead as one
use Rattle.opened.specs.dead.FirstDead as first
use Rattle.opened.specs.size.Sizes as size
use Rattle.complement.specs.Complemented as complement
use Rattle.convert.specs.Converted as convert
use Rattle.convert.specs.strip.Stripped as strip
use Rattle.export.specs.Exports as export
use Rattle.import.specs.Allowed as importing
use Rattle.complement.specs.audit.Audits as audit
use Rattle.run.specs.salvage.Salvaged as salvage
use Rattle.ships.specs.declared.Fleet.{Fleet}
use Rattle.ships.specs.Ships.{ship}
use Rattle.ships.specs.Entered.{entered}
use Rattle.statement.specs.Replay.{stated, stated_in}
use Rattle.answers.specs.declared.Answered.{Answered}
use Rattle.answers.specs.declared.Counted.{Counted}
use Rattle.answers.specs.declared.Tallied.{Tallied}
use Rattle.answers.specs.declared.Weighed.{Weighed}
use Rattle.answers.specs.declared.Decided.{Decided}
use Rattle.answers.specs.declared.Named.{Named}
use Rattle.answers.specs.declared.Sized.{Sized}
use Rattle.answers.specs.declared.Audited.{Audited}
use Rattle.answers.specs.declared.Reported.{Reported}
use Rattle.answers.specs.Told.{answered, counted, weighed, decided, named, sized, audited, reported}
use Rattle.abi.specs.Told.{ran, taken}

-- the readers, on a run of bytes
module _ (s : List ℕ) where
  abbrev pub ReadNetAllows : Counted → Type 0
  ReadNetAllows told = told ≡ taken s (answer (net_refusal s))

  abbrev pub ReadWeightsAllows : ℕ → Counted → Type 0
  ReadWeightsAllows pairs told = told ≡ taken s (answer (weights_refusal pairs s))

  abbrev pub ReadMovementsAllows : Counted → Type 0
  ReadMovementsAllows told = told ≡ taken s (answer (movements_refusal s))

module _ (net : List ℕ) where
  abbrev pub BeginAllows : List ℕ → Answered × List ℕ → Type 0
  BeginAllows marking o = (o.0 ≡ answered (answer (begin_refusal net marking))) × (o.1 ≡ begun net marking)

  abbrev pub TestAllows : List ℕ → Mode → Answered → Type 0
  TestAllows marking t told = told ≡ answered (answer (test_refusal net marking t))

  abbrev pub FireAllows : List ℕ → Mode → Answered × List ℕ → Type 0
  FireAllows marking t o = (o.0 ≡ answered (answer (test_refusal net marking t))) × (o.1 ≡ fired_by net marking t)

  abbrev pub TestStepAllows : List ℕ → List ℕ → Answered → Type 0
  TestStepAllows marking modes told = told ≡ answered (answer (test_step_refusal net marking modes))

  abbrev pub FireStepAllows : List ℕ → List ℕ → Answered × List ℕ → Type 0
  FireStepAllows marking modes o = (o.0 ≡ answered (answer (test_step_refusal net marking modes))) × (o.1 ≡ stepped_by net marking modes)

  abbrev pub RunAllows : List ℕ → List ℕ → Tallied × List ℕ → Type 0
  RunAllows movements marking o = (o.0 ≡ ran (ran_of (run_of net movements marking) (visited_by net movements marking))) × (o.1 ≡ (run_of net movements marking).marking)

  abbrev pub CertifyAllows : List ℕ → List ℕ → Answered → Type 0
  CertifyAllows movements claim told = told ≡ answered (answer (certify_refusal net movements claim))

  abbrev pub FigureAllows : List ℕ → List ℕ → Weighed → Type 0
  FigureAllows weights marking told = told ≡ weighed (weigh.told (weigh.figure_of net weights marking))

  abbrev pub ChangeAllows : List ℕ → Mode → Weighed → Type 0
  ChangeAllows weights t told = told ≡ weighed (weigh.told (weigh.change_of net weights t))

  abbrev pub ExcludeAllows : List ℕ → List ℕ → Answered → Type 0
  ExcludeAllows weights claim told = told ≡ answered (answer (exclude_refusal net weights claim))

  abbrev pub IsDeadAllows : Mode → Decided → Type 0
  IsDeadAllows t told = told ≡ decided (one.told (one.deadness_of net t))

  abbrev pub FirstDeadAllows : Named → Type 0
  FirstDeadAllows told = told ≡ named (first.told (first.first_dead_of net))

  abbrev pub SizeAllows : Sized → Type 0
  SizeAllows told = told ≡ sized (size.told (size.measured_of net))

  abbrev pub ComplementAllows : List ℕ → Counted × List ℕ → Type 0
  ComplementAllows out o = (o.0 ≡ counted (emitting.told (complement.complement_of net out))) × (o.1 ≡ complement.output_of net out)

  abbrev pub ToVersion2Allows : List ℕ → Counted × List ℕ → Type 0
  ToVersion2Allows out o = (o.0 ≡ counted (emitting.told (convert.conversion_of One Two net out))) × (o.1 ≡ convert.output_of One Two net out)

  abbrev pub ToVersion1Allows : List ℕ → Counted × List ℕ → Type 0
  ToVersion1Allows out o = (o.0 ≡ counted (emitting.told (convert.conversion_of Two One net out))) × (o.1 ≡ convert.output_of Two One net out)

  abbrev pub StripAllows : Pair → List ℕ → Counted × List ℕ → Type 0
  StripAllows p out o = (o.0 ≡ counted (emitting.told (strip.stripped_of net p out))) × (o.1 ≡ strip.output_of net p out)

  abbrev pub ExportPnmlAllows : List ℕ → Counted × List ℕ → Type 0
  ExportPnmlAllows out o = (o.0 ≡ counted (emitting.told (export.export_of net out))) × (o.1 ≡ export.output_of net out)

  abbrev pub AuditAllows : List ℕ → List ℕ → Audited → Type 0
  AuditAllows marking beside told = told ≡ audited (audit.told (audit.audited_of net marking beside))

  abbrev pub SalvageAllows : List ℕ → List ℕ → Reported × List ℕ → Type 0
  SalvageAllows damaged out o = (o.0 ≡ reported (salvage.told (salvage.salvage_of net damaged out))) × (o.1 ≡ salvage.output_of net damaged out)

-- what is told is an answer that the library's contract allows, with what is left in the slice
abbrev pub ImportPnmlAllows : List ℕ → List ℕ → Counted × List ℕ → Type 0
ImportPnmlAllows text out o = (answer : Result ℕ Refusal) × (importing.ImportPnmlAllows text out (answer, o.1)) × (o.0 ≡ counted (emitting.told answer))

abbrev pub FleetAddAllows : Fleet → List ℕ → List ℕ → List ℕ → Answered × Fleet → Type 0
FleetAddAllows found net weights movements o =
    (o.0 ≡ answered (entered found (ship net weights movements)).answer) × (o.1 ≡ (entered found (ship net weights movements)).fleet)

abbrev pub StatementAllows : List ℕ → List ℕ → Counted × List ℕ → Type 0
StatementAllows input out o = (o.0 ≡ counted (emitting.told (stated input out))) × (o.1 ≡ stated_in input out)
