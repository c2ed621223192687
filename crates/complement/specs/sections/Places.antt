-- The places of a complement: the originals, then "one for each place with a finite pair, with as many colours as it has finite pairs".
-- A reader of the promises may skip this file.
use Rattle.std.specs.Prelude.{ℕ, suc, ◌-◌, ltb}
use mathlib.Core.List.{List, flat_map}
use Rattle.model.specs.Nets.{PNet, first_pair_of, K}
use Rattle.second_form.specs.Complement.{bounded_below}
use Rattle.model.specs.Lists.{list_if}
use Rattle.sheets.specs.written.Written.{bytes16}
use Rattle.halves.specs.declared.half.Half.{Half}
use Rattle.halves.specs.declared.half.Half.TheVariants.{Original, Complement}

-- a place of so many colours; none where there are none
abbrev pub place_if : ℕ → List ℕ
place_if colours = list_if (ltb 0 colours) colours

module _ (net : PNet) where
  -- how many colours the pairs from `first` up to `end` give a place
  abbrev pub colours_in : Half → ℕ → ℕ → ℕ
  colours_in Original first end = end - first
  colours_in Complement first end = bounded_below (K net) end - bounded_below (K net) first

  -- a half of what a place becomes
  abbrev pub half_place : Half → ℕ → List ℕ
  half_place half place = place_if (colours_in half (first_pair_of net place) (first_pair_of net (suc place)))

  abbrev pub place_bytes : Half → ℕ → List ℕ
  place_bytes half place = flat_map bytes16 (half_place half place)
