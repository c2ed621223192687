-- The complement arc by arc; Steps, Orders, Visits, Audit, Edges and WorkedExamples have their own promises.
use Rattle.std.specs.Prelude.{◌≡◌, ◌↔◌, ◌⊎◌}
use mathlib.Core.List.{Memᴰ}
use Rattle.model.specs.Nets.{NetArc, PNet, pairs, pair_no, K}
use Rattle.model.specs.WellFormed.{Blank, WellFormed}
use Rattle.second_form.specs.Dead.{is_dead}
use Rattle.second_form.specs.Complement.{complement_pair, original, complement_entry, complement}

-- Arc by arc: the complement's arcs are those that the net's arcs become, with their I unbounded on the original pair, and on the complement pair where K is
-- finite. "Blank arcs are left out." (`List.Memᴰ a arcs`: a is one of them; they rise, by `Demand3`.)
abbrev pub on_original : NetArc → NetArc
on_original a = record { mode = a.mode; pair = a.pair; entry = original a.entry }

abbrev pub on_complement : PNet → NetArc → NetArc
on_complement net a =
    record {
      mode = a.mode;
      pair = pair_no (complement_pair (pairs net) (K net) a.pair.0);
      entry = complement_entry net.rule (is_dead net a.mode) (K net a.pair.0) a.entry;
    }

abbrev pub ArcByArc : Type 0
ArcByArc = (net : PNet) → WellFormed net → (b : NetArc)
    → Memᴰ b (complement net).arcs
    ↔ ((¬ Blank b.entry) × ((a : NetArc) × Memᴰ a net.arcs × ((b ≡ on_original a) ⊎ (b ≡ on_complement net a))))
