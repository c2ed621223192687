-- 15, arc by arc: what the private functions of this crate speak of.
-- A reader of the promises may skip this file.
use Rattle.std.specs.Prelude.{ℕ, List}
use Rattle.std.proofs.Math.Option.{Option}
use Rattle.model.specs.declared.Thing.TheVariants.{Net}
use Rattle.model.specs.declared.Fault.TheVariants.{InhibitedUnbounded}
use Rattle.model.specs.declared.Refusal.{Refusal}
use Rattle.model.specs.First.{only_if}
use Rattle.model.specs.Nets.{arc_no}
use Rattle.second_form.specs.Complement.{inhibits_unbounded}
use Rattle.model.specs.Refusals.{wrong}
use Rattle.sheets.specs.Decoded.{net_of}
use Rattle.opened.specs.Shape.{arc_offset}

-- 15 at the k-th arc of a sheet
abbrev pub inhibited_at : List ℕ → ℕ → Option Refusal
inhibited_at s k = only_if (inhibits_unbounded (net_of s) (arc_no (net_of s).arcs k)) (wrong Net (InhibitedUnbounded (arc_offset s k)))
