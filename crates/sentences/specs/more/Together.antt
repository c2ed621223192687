-- What holds of the requests of document 02 together, in one record: open this file first. What each call promises by itself is in promises/specs/Promises.antt.
-- A field is a statement, of the file that its `use` line names; its term is in proofs/.
use Rattle.sentences.specs.P9.{EqualNets}
use Rattle.sentences.specs.P5.{ComplementThenExport}
use Rattle.sentences.specs.more.Reached.{ReachedAccepted}
use Rattle.sentences.specs.more.InStep.{InStep}
use Rattle.sentences.specs.more.FigureStepped.{FigureStepped}
use Rattle.sentences.specs.more.NeverReached.{NeverReached}
use Rattle.sentences.specs.more.NeverFires.{DeadNeverFire, FiresElsewhere}
use Rattle.sentences.specs.more.FleetOfRuns.{FleetOfRuns}
use Rattle.sentences.specs.more.Frauds.{MoreFrauds}
use Rattle.sentences.specs.more.SalvagesAlike.{SalvagesAlike}
use Rattle.sentences.specs.more.StripsThenComplements.{StripsThenComplements, NoStripAfter}
use Rattle.sentences.specs.more.Exchanged.{MovesAsBefore, ComplementComesBack}

pub record Together : Type 0 where
  -- of one net: markings that calls leave, one after another; weights, dead modes and ships
  pub reached_accepted : ReachedAccepted
  pub figure_stepped : FigureStepped
  pub never_reached : NeverReached
  pub dead_never_fire : DeadNeverFire
  pub fleet_of_runs : FleetOfRuns
  -- of a net and its complement
  pub in_step : InStep
  pub salvages_alike : SalvagesAlike
  pub fires_elsewhere : FiresElsewhere
  pub strips_then_complements : StripsThenComplements
  pub no_strip_after : NoStripAfter
  -- of a net, its text and what comes back of that
  pub complement_then_export : ComplementThenExport
  pub moves_as_before : MovesAsBefore
  pub complement_comes_back : ComplementComesBack
  -- of two sheets of one net, over every call that takes a net sheet but the conversions, which "may differ" (P9)
  pub equal_nets : EqualNets
  -- of the contracts of the calls
  pub more_frauds : MoreFrauds
