-- Every statement, with its one term.
use Rattle.promises.proofs.EqualNets.{equal-nets}
use Rattle.promises.proofs.Exchange.{complement-then-export}
use Rattle.promises.specs.together.Together.{Together}
use Rattle.promises.proofs.together.NeverReached.{reached-accepted, never-reached}
use Rattle.promises.proofs.together.FigureStepped.{figure-after-step}
use Rattle.promises.proofs.together.NeverFires.{dead-never-fire, fires-elsewhere}
use Rattle.promises.proofs.together.FleetOfRuns.{fleet_of-runs}
use Rattle.promises.proofs.together.Frauds.{more-frauds}
use Rattle.promises.proofs.together.Beside.{in_step_lem}
use Rattle.promises.proofs.together.SalvagesAlike.{salvages-alike}
use Rattle.promises.proofs.together.StripsThenComplements.{strips-then-complements, no_strip-after}
use Rattle.promises.proofs.together.Exchanged.{moves_as_before_lem, complement_comes_back_lem}

pub together : Together
together =
    record {
      reached_accepted = reached-accepted;
      figure_stepped = figure-after-step;
      never_reached = never-reached;
      dead_never_fire = dead-never-fire;
      fleet_of_runs = fleet_of-runs;
      in_step = in_step_lem;
      salvages_alike = salvages-alike;
      fires_elsewhere = fires-elsewhere;
      strips_then_complements = strips-then-complements;
      no_strip_after = no_strip-after;
      complement_then_export = complement-then-export;
      moves_as_before = moves_as_before_lem;
      complement_comes_back = complement_comes_back_lem;
      equal_nets = equal-nets;
      more_frauds = more-frauds;
    }
