-- Arcs that are counted by the bytes that they were put in.
use Prim.Native.Nat.{ℕ, ◌+◌, ◌*◌, ◌-◌, ◌/◌, ◌≤◌, ◌<◌}
use mathlib.Core.Path.{◌≡◌, refl}
use mathlib.Core.List.{List, ◌++◌, flat_map}
use lib.ListN.{length, length-append}
use native.Mathlib.Omega.{arith}
use Rattle.model.specs.declared.Version.{Version}
use Rattle.model.specs.declared.Version.TheVariants.{One, Two}
use Rattle.model.specs.Nets.{NetArc}
use Rattle.sheets.specs.written.Written.{arc_bytes, own_bytes}
use Rattle.sheets.specs.written.Puts.{Puts, Room, own_size, mode_size}
use Rattle.sheets.proofs.written.Versions.{own-length}
use Rattle.sheets.proofs.written.SheetLength.{arcs_section}

module _ {l : List ℕ} {at : ℕ} (v : Version) (arcs : List NetArc) (room : Room l at (own_bytes v (length arcs) ++ flat_map (arc_bytes v) arcs)) where
  all_fit : at + own_size v + length (flat_map (arc_bytes v) arcs) ≤ length l
  all_fit = omega (arith, length-append (own_bytes v (length arcs)) (flat_map (arc_bytes v) arcs), own-length v (length arcs))

  pub halves_room : {start own : ℕ} → own ≡ own_size v → start ≡ at + own → Room l start (flat_map (arc_bytes v) arcs)
  halves_room e q = record { fits = omega (arith, all_fit) }

  module _ {m : List ℕ} {start next own : ℕ} (e : own ≡ own_size v) (q : start ≡ at + own) (put : Puts l start (flat_map (arc_bytes v) arcs) m next) where
    pub own_room : at + own_size v ≤ length m
    own_room = omega (arith, all_fit, put.kept)

    -- their bytes are 14 times as many in version 2, and 16 times in version 1, which does not say
    bytes_put : next - start ≡ (mode_size v + 14) * length arcs
    bytes_put = omega (arith, put.next, arcs_section v arcs)

    pub own-few : length arcs ≤ 512 → (next - start) / 14 < 65536
    own-few few = go v bytes_put
      where
        go : (v : Version) → next - start ≡ (mode_size v + 14) * length arcs → (next - start) / 14 < 65536
        go One h = omega arith
        go Two h = omega arith

    pub own_is : own_bytes v ((next - start) / 14) ≡ own_bytes v (length arcs)
    unfolding own_bytes
    own_is = go v bytes_put
      where
        go : (v : Version) → next - start ≡ (mode_size v + 14) * length arcs → own_bytes v ((next - start) / 14) ≡ own_bytes v (length arcs)
        go One h = refl
        go Two h = let n : (next - start) / 14 ≡ length arcs = omega arith in rw n
