-- One ship into a record that the caller lends: what is refused, and what the record is after it.
-- "Refusals: 25 for a lent record with ships or a refusal count above 1,000, movements above 8,192,000, or a figure below 0 or above 10^18; 4 for ship 1,001;
-- those of the sheets; then 24 where a figure would pass 10^18."
use Rattle.std.specs.Prelude.{ℕ, ◌+◌, ◌≤◌, ◌<◌, ◌≡◌, Bool, ◌||◌, ltb, ℤ, pos}
use Rattle.std.proofs.Math.Option.{Option, none, some}
use Rattle.std.specs.Int.Signed.{lt_z}
use Rattle.model.specs.declared.Thing.TheVariants.{Net, Argument}
use Rattle.model.specs.declared.Fault.TheVariants.{CountOutside, FigurePast, RecordOutside}
use Rattle.model.specs.declared.Refusal.{Refusal}
use Rattle.model.specs.First.{◌▸◌, only_if}
use Rattle.model.specs.Nets.{pairs}
use Rattle.model.specs.Refusals.{Answer, wrong, answer}
use Rattle.sheets.specs.Whole.{whole_net, whole_weights, whole_movements}
use Rattle.sheets.specs.Decoded.{net_of}
use Rattle.ships.specs.declared.Fleet.{Fleet}
use Rattle.ships.specs.Ships.{Ship, voyage_of, with_voyage}

-- "10^18"
abbrev pub most_figure : ℕ
most_figure = 1000000000000000000

abbrev pub is_past : ℤ → Bool
is_past figure = lt_z (pos most_figure) figure

abbrev pub is_outside : ℤ → Bool
is_outside figure = lt_z figure (pos 0) || is_past figure

abbrev pub is_out_of_bounds : Fleet → Bool
is_out_of_bounds f =
    ltb 1000 f.ships || ltb 8192000 f.movements || ltb 1000 f.by6 || ltb 1000 f.by11 || ltb 1000 f.by12 || ltb 1000 f.by13
    || ltb 1000 f.by14 || is_outside f.added || is_outside f.removed

-- the same as propositions: a figure that is neither below 0 nor above 10^18, one that is above, and a record that 25 does not refuse
abbrev pub Figure : ℤ → Type 0
Figure z = (n : ℕ) × (z ≡ pos n) × (n ≤ most_figure)

abbrev pub Past : ℤ → Type 0
Past z = (n : ℕ) × (z ≡ pos n) × (most_figure < n)

pub record InBounds (f : Fleet) : Type 0 where
  pub ships : f.ships ≤ 1000
  pub movements : f.movements ≤ 8192000
  pub by6 : f.by6 ≤ 1000
  pub by11 : f.by11 ≤ 1000
  pub by12 : f.by12 ≤ 1000
  pub by13 : f.by13 ≤ 1000
  pub by14 : f.by14 ≤ 1000
  pub added : Figure f.added
  pub removed : Figure f.removed

-- 25, of the record as it was found
unfoldable pub record_refusal : Fleet → Option Refusal
record_refusal f = only_if (is_out_of_bounds f) (wrong Net RecordOutside)

-- 4 for ship 1,001: "At most 1,000 ships"
unfoldable pub room_refusal : Fleet → Option Refusal
room_refusal f = only_if (ltb 1000 (f.ships + 1)) (wrong Argument (CountOutside 0))

-- 24 "where a figure would pass 10^18"
abbrev pub is_too_heavy : Fleet → Bool
is_too_heavy f = is_past f.added || is_past f.removed

unfoldable pub figure_refusal : Fleet → Ship → Option Refusal
figure_refusal f s = only_if (is_too_heavy (with_voyage f (voyage_of s))) (wrong Net FigurePast)

unfoldable pub ship_refusal : Fleet → Ship → Option Refusal
ship_refusal f s =
    record_refusal f
    ▸ room_refusal f
    ▸ whole_net s.net
    ▸ whole_weights (pairs (net_of s.net)) s.weights
    ▸ whole_movements s.movements
    ▸ figure_refusal f s

-- "a ship refused by any number below leaves the record as found"
abbrev pub left : Option Refusal → Fleet → Fleet → Fleet
left none f next = next
left (some r) f next = f

-- the record that the call leaves, and its answer
pub record Entered : Type 0 where
  pub fleet : Fleet
  pub answer : Answer

abbrev pub entered_by : Option Refusal → Fleet → Ship → Entered
entered_by o f s = record { fleet = left o f (with_voyage f (voyage_of s)); answer = answer o }

unfoldable pub entered : Fleet → Ship → Entered
entered f s = entered_by (ship_refusal f s) f s
