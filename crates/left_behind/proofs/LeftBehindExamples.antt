-- What was left behind, computed.
use mathlib.Core.Path.{refl}
use Rattle.model.specs.First.{◌▸◌, first}
use Rattle.model.specs.Lists.{table, joined}
use Rattle.model.specs.Nets.{entry_at}
use Rattle.model.specs.Firing.{rule_refusal, row_refusal, mode_refusal, fired}
use Rattle.movement.specs.Runs.{run_from}
use Rattle.movement.specs.Figures.{sum}
use Rattle.second_form.specs.Dead.{dead_pair, is_dead}
use Rattle.second_form.specs.Complement.{bounded, complement_row, new_places, arcs_of, complement}
use Rattle.both_forms.specs.Audit.{audited}
use Rattle.left_behind.specs.LeftBehind.{left_behind, tracked, LeftBehindExamples}

pub left-behind-examples : LeftBehindExamples
unfolding left_behind tracked audited sum run_from mode_refusal row_refusal rule_refusal fired ◌▸◌ first complement arcs_of new_places complement_row dead_pair is_dead bounded joined entry_at table
left-behind-examples = record { beside = refl; right = refl; mark = refl; cancelled = (refl, refl); opposed = (refl, refl) }
