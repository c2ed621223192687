-- An arc put field by field: what room is left for its next field, and what stands there after the last.
use Prim.Native.Nat.{ℕ, ◌+◌, ◌≤◌}
use mathlib.Core.List.{List, flatten}
use lib.ListN.{length}
use native.Mathlib.Omega.{arith}
use Rattle.model.specs.declared.Arc.{Arc}
use Rattle.model.specs.declared.Version.{Version}
use Rattle.model.specs.Nets.{NetArc}
use Rattle.sheets.specs.Decoded.{net_of}
use Rattle.opened.specs.declared.shape.NetShape.{NetShape}
use Rattle.opened.specs.Shape.{ArcIs}
use Rattle.sheets.specs.written.Written.{bytes16, bytes32, bound_number, tail_bytes, mode_bytes, arc_bytes}
use Rattle.sheets.specs.written.Puts.{Put, mode_size}
use Rattle.sheets.proofs.written.Puts.{nothing, puts}
use Rattle.sheets.proofs.written.Records.{number_bound}
use Rattle.convert.specs.Parts.{arc_no_bytes}

module _ {l m bytes : List ℕ} {at size next : ℕ} (p : Put l at size bytes m next) where
  pub room-left : (left : ℕ) → at + (size + left) ≤ length l → next + left ≤ length m
  room-left left h = omega (arith, p.kept, p.next)

  -- of what is left a part is asked for, and the rest is spare
  pub room_for : (asked spare : ℕ) → at + (size + (asked + spare)) ≤ length l → next + asked ≤ length m
  room_for asked spare h = omega (arith, p.kept, p.next)

module _ {l l₁ l₂ l₃ l₄ l₅ : List ℕ} {at k₁ k₂ k₃ k₄ k₅ : ℕ} (v : Version) where
  pub fields_put : (a : NetArc) → Put l at (mode_size v) (mode_bytes v a.mode.0) l₁ k₁ → Put l₁ k₁ 2 (bytes16 a.pair.0) l₂ k₂ → Put l₂ k₂ 4 (bytes32 a.entry.pre) l₃ k₃
      → Put l₃ k₃ 4 (bytes32 a.entry.post) l₄ k₄ → Put l₄ k₄ 4 (bytes32 (bound_number a.entry.inhibitor)) l₅ k₅ → Put l at (mode_size v + 14) (arc_bytes v a) l₅ k₅
  unfolding arc_bytes tail_bytes flatten
  fields_put a mode pair pre post inhibitor = puts mode (puts pair (puts pre (puts post (puts inhibitor nothing))))

  -- of an arc that was read
  pub read_put : {s : List ℕ} {net : NetShape} {k : ℕ} {a : Arc} → ArcIs s net k a → Put l at (mode_size v) (mode_bytes v a.mode.0) l₁ k₁ → Put l₁ k₁ 2 (bytes16 a.pair.0) l₂ k₂
      → Put l₂ k₂ 4 (bytes32 a.pre) l₃ k₃ → Put l₃ k₃ 4 (bytes32 a.post) l₄ k₄ → Put l₄ k₄ 4 (bytes32 a.inhibitor) l₅ k₅
      → Put l at (mode_size v + 14) (arc_no_bytes v (net_of s) k) l₅ k₅
  read_put is mode pair pre post inhibitor =
      rw (← is.is) (fields_put _ mode pair pre post (rw number_bound inhibitor))
