-- 19 field by field: what the private functions of this crate speak of.
-- A reader of the promises may skip this file.
use Rattle.std.specs.Prelude.{ℕ, List}
use Rattle.std.proofs.Math.Option.{Option}
use Rattle.model.specs.declared.Thing.TheVariants.{Net}
use Rattle.model.specs.declared.Fault.TheVariants.{NotUnbounded}
use Rattle.model.specs.declared.Refusal.{Refusal}
use Rattle.model.specs.First.{only_if}
use Rattle.model.specs.Nets.{K, arc_no}
use Rattle.second_form.specs.Complement.{finite}
use Rattle.model.specs.Refusals.{wrong}
use Rattle.sheets.specs.Decoded.{net_of}
use Rattle.opened.specs.Shape.{inhibitor_offset}
use Rattle.export.specs.Exports.{capacity_offset}

-- at the K of a pair, and at the I of the k-th arc
abbrev pub capacity_refusal : List ℕ → ℕ → Option Refusal
capacity_refusal s p = only_if (finite (K (net_of s) p)) (wrong Net (NotUnbounded (capacity_offset s p)))

abbrev pub inhibitor_refusal : List ℕ → ℕ → Option Refusal
inhibitor_refusal s k = only_if (finite (arc_no (net_of s).arcs k).entry.inhibitor) (wrong Net (NotUnbounded (inhibitor_offset s k)))
