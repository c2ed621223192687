-- Document 01's own example, computed from the bytes of its sheets.
use mathlib.Core.Path.{refl}
use Rattle.model.specs.First.{◌▸◌, first}
use Rattle.model.specs.Lists.{table}
use Rattle.model.specs.Nets.{entry_at}
use Rattle.model.specs.Firing.{rule_refusal, row_refusal, mode_refusal, fired}
use Rattle.movement.specs.Figures.{sum, figure}
use Rattle.heads.specs.Bytes.{u16_at, u32_at}
use Rattle.heads.specs.Version.{version_of}
use Rattle.heads.specs.Rule.{rule_of}
use Rattle.heads.specs.Layout.{fields_at, counts, pair_count, mode_count, arc_count}
use Rattle.heads.specs.Checks.{known, head_refusal, count_refusal}
use Rattle.fields.specs.Numbers.{bound}
use Rattle.fields.specs.Fields.{running_refusal, capacity_refusal, start_refusal, pair_refusal, each_count, count_fields}
use Rattle.sheets.specs.nets.Tails.{tail_blank, tail_numbers}
use Rattle.sheets.specs.nets.Nets.{rises_to, not_rising, arc_names_refusal, arc_refusal, arc_fields, arc_section, pair_and_arc_fields, rule_field, net_fields, net_refusal}
use Rattle.sheets.specs.lists.Weights.{signed, weight_refusal, weight_fields, weights_refusal}
use Rattle.sheets.specs.lists.Movements.{movement_fields, movements_refusal}
use Rattle.sheets.specs.Whole.{bytes_after, whole_movements, rest}
use Rattle.sheets.specs.Decoded.{net_arc_in, net_arcs, net_of, weights_of, movements_of}
use Rattle.text.specs.Decimals.{decimal_within, decimal, signed_decimal}
use Rattle.statement.specs.Example.{Printed}
use Rattle.statement.specs.lines.Lines.{line, start_line, accepted_line, refused_line, end_line}
use Rattle.statement.specs.Replay.{unless_refused, lines_from, run_text, movements_text, weights_text, sheets_text, replay_text}

pub printed : Printed
unfolding ◌▸◌ first entry_at rule_refusal row_refusal mode_refusal table fired sum figure u16_at u32_at counts pair_count mode_count arc_count version_of rule_of fields_at known head_refusal count_refusal bound running_refusal capacity_refusal start_refusal pair_refusal rises_to not_rising tail_blank tail_numbers arc_names_refusal arc_refusal arc_fields arc_section rule_field each_count count_fields pair_and_arc_fields net_fields net_refusal signed weight_refusal weight_fields weights_refusal movement_fields movements_refusal bytes_after whole_movements rest net_arc_in net_arcs net_of weights_of movements_of decimal_within decimal signed_decimal line start_line accepted_line refused_line end_line unless_refused lines_from run_text movements_text weights_text sheets_text replay_text
printed = refl
