-- Arcs rise as their modes and pairs do, taken as one number.
use Prim.Native.Nat.{ℕ}
use mathlib.Core.Path.{◌≡◌, refl}
use mathlib.Core.Bool.{Bool, true, false, not, ◌&&◌, ◌||◌}
use mathlib.Core.List.{List}
use lib.Dec.{ltb, leb, eqb}
use native.Mathlib.Omega.{arith}
use borrow.Author.Tests.{ltb-true, ltb-false, eqb-true, eqb-false, le-leb, lt-leb}
use Rattle.heads.specs.Bytes.{u16_at}
use Rattle.heads.specs.Layout.{arc_mode_at, arc_pair_at}
use Rattle.sheets.specs.nets.Names.{NamesAt}
use Rattle.sheets.specs.nets.Nets.{rises_to}

module _ (s : List ℕ) (before at n m : ℕ) (b : NamesAt s before n) (a : NamesAt s at m) where
  abbrev last : ℕ
  last = u16_at s (arc_mode_at before)

  abbrev mode : ℕ
  mode = u16_at s (arc_mode_at at)

  abbrev first : ℕ
  first = u16_at s (arc_pair_at before)

  abbrev pair : ℕ
  pair = u16_at s (arc_pair_at at)

  by-pair : (x : Bool) → ltb first pair ≡ x → last ≡ mode → leb m n ≡ not x
  by-pair true e q = lt-leb m n (omega (arith, ltb-true first pair e))
  by-pair false e q = le-leb m n (omega (arith, ltb-false first pair e))

  by_mode : (x y : Bool) → ltb last mode ≡ x → eqb last mode ≡ y → leb m n ≡ not (x || (y && ltb first pair))
  by_mode true y e f = lt-leb m n (omega (arith, ltb-true last mode e))
  by_mode false true e f = by-pair (ltb first pair) refl (eqb-true last mode f)
  by_mode false false e f = le-leb m n (omega (arith, ltb-false last mode e, eqb-false last mode f))

  pub names_rise : leb m n ≡ not (rises_to s before at)
  unfolding rises_to
  names_rise = by_mode (ltb last mode) (eqb last mode) refl refl
