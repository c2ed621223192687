-- Every statement, with its one term.
use Rattle.sentences.proofs.EqualNets.{equal-nets}
use Rattle.sentences.proofs.Exchange.{complement-then-export}
use Rattle.sentences.specs.more.Together.{Together}
use Rattle.sentences.proofs.more.NeverReached.{reached-accepted, never-reached}
use Rattle.sentences.proofs.more.FigureStepped.{figure-after-step}
use Rattle.sentences.proofs.more.NeverFires.{dead-never-fire, fires-elsewhere}
use Rattle.sentences.proofs.more.FleetOfRuns.{fleet_of-runs}
use Rattle.sentences.proofs.more.Frauds.{more-frauds}
use Rattle.sentences.proofs.more.Beside.{in_step_lem}
use Rattle.sentences.proofs.more.SalvagesAlike.{salvages-alike}
use Rattle.sentences.proofs.more.StripsThenComplements.{strips-then-complements, no_strip-after}
use Rattle.sentences.proofs.more.Exchanged.{moves_as_before_lem, complement_comes_back_lem}

pub together : Together
together =
    record {
      reached_accepted = reached-accepted;
      figure_stepped = figure-after-step;
      never_reached = never-reached;
      dead_never_fire = dead-never-fire;
      fleet_of_runs = fleet_of-runs;
      in_step = in_step_lem;
      salvages_alike = salvages-alike;
      fires_elsewhere = fires-elsewhere;
      strips_then_complements = strips-then-complements;
      no_strip_after = no_strip-after;
      complement_then_export = complement-then-export;
      moves_as_before = moves_as_before_lem;
      complement_comes_back = complement_comes_back_lem;
      equal_nets = equal-nets;
      more_frauds = more-frauds;
    }
