-- The pairs of a complement: "All K .. become unbounded"; the originals keep their first marking, and each of finite K gets a complement pair.
-- A reader of the promises may skip this file.
use Rattle.std.specs.Prelude.{ℕ, List, []}
use Rattle.model.specs.Numbers.{ℕ∞, fin, ∞}
use Rattle.model.specs.Nets.{PNet, K, count}
use Rattle.second_form.specs.Complement.{less}
use Rattle.sheets.specs.written.Written.{pair_bytes}
use Rattle.halves.specs.declared.half.Half.{Half}
use Rattle.halves.specs.declared.half.Half.TheVariants.{Original, Complement}

-- "first marking: K less the original's"
abbrev pub new_pair : ℕ∞ → ℕ → List ℕ
new_pair (fin k) start = pair_bytes ∞ (less (fin k) start)
new_pair ∞ start = []

abbrev pub half_pair : PNet → Half → ℕ → List ℕ
half_pair net Original p = pair_bytes ∞ (count net.start p)
half_pair net Complement p = new_pair (K net p) (count net.start p)
