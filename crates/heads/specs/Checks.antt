-- What every sheet is tested for (document 01, "Refusal numbers"): "Order in a sheet: 1, then L = 0, then 2, then the fields left to right; at a
-- field 3 comes before its other rules."
use Rattle.std.specs.Prelude.{ℕ, ◌+◌, Bool, not, ◌||◌, List, ltb, eqb, length}
use Rattle.std.proofs.Math.Option.{Option}
use Rattle.model.specs.declared.Thing.{Thing}
use Rattle.model.specs.declared.Thing.TheVariants.{Net, Weights, Movements, Argument}
use Rattle.model.specs.declared.Fault.TheVariants.{CutShort, WrongVersion, WrongLength, CountOutside}
use Rattle.model.specs.declared.Refusal.{Refusal}
use Rattle.model.specs.Refusals.{wrong}
use Rattle.model.specs.First.{◌▸◌, only_if}
use Rattle.heads.specs.Bytes.{u16_at}
use Rattle.heads.specs.Layout.{body_length, sheet_end, version}

-- the version bytes of each sheet; document 02, P9: "Only net sheets have a version 2."
unfoldable pub known : Thing → ℕ → Bool
known Net v = eqb v 1 || eqb v 2
known Weights v = eqb v 1
known Movements v = eqb v 1
known Argument v = eqb v 1

module _ (thing : Thing) (s : List ℕ) where
  -- 1: "fewer than 4 bytes, or fewer than 4 + L"; 3: "L = 0"; 2: the version byte is none of its own
  unfoldable pub head_refusal : Option Refusal
  head_refusal =
      only_if (ltb (length s) 4) (wrong thing CutShort)
      ▸ only_if (ltb (length s) (sheet_end s)) (wrong thing CutShort)
      ▸ only_if (eqb (body_length s) 0) (wrong thing (WrongLength 0))
      ▸ only_if (not (known thing (version s))) (wrong thing (WrongVersion 4))

  -- 3: "a field runs past L": the field of `size` bytes at `at`
  abbrev pub missing : ℕ → ℕ → Option Refusal
  missing at size = only_if (ltb (sheet_end s) (at + size)) (wrong thing (WrongLength at))

  -- 3: "bytes left over", where the fields end at `at`
  abbrev pub left_over : ℕ → Option Refusal
  left_over at = only_if (ltb at (sheet_end s)) (wrong thing (WrongLength at))

  -- 4: "a count outside its limits", the count at `at`
  unfoldable pub count_refusal : ℕ → ℕ → ℕ → Option Refusal
  count_refusal at low high = missing at 2 ▸ only_if (ltb (u16_at s at) low || ltb high (u16_at s at)) (wrong thing (CountOutside at))
