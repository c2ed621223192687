-- A bound, a pair and an arc: what is written is what is read, and what is read is what stands there.
use Prim.Native.Nat.{ℕ, ◌+◌, ◌≤◌, ◌<◌}
use mathlib.Core.Path.{◌≡◌, refl, sym, ◌∙◌, ap}
use mathlib.Core.Bool.{Bool, true, false, cond}
use mathlib.Core.List.{List, flatten}
use lib.Dec.{eqb}
use lib.ListN.{length, length-append}
use native.Mathlib.Omega.{arith}
use borrow.Author.Tests.{eqb-true}
use Rattle.model.specs.declared.Version.{Version}
use Rattle.model.specs.declared.Version.TheVariants.{One, Two}
use Rattle.model.specs.Numbers.{ℕ∞, fin, ∞, limit}
use Rattle.model.specs.Nets.{NetArc, PNet, pairs, modes}
use Rattle.model.specs.WellFormed.{InRange, ArcOf}
use Rattle.heads.specs.Bytes.{byte_at, u16_at, u32_at}
use Rattle.heads.specs.Layout.{capacity_at, start_at, arc_mode_at, arc_tail_at, tail_pair_at, tail_pre_at, tail_post_at, tail_inhibitor_at}
use Rattle.fields.specs.Numbers.{unbounded, bound}
use Rattle.sheets.specs.Decoded.{net_arc_in, net_arc_at}
use Rattle.sheets.specs.written.Written.{bytes16, bytes32, bound_number, pair_bytes, tail_bytes, mode_bytes, arc_bytes}
use Rattle.sheets.specs.written.Puts.{mode_size}
use Rattle.sheets.proofs.written.Stands.{Stands, stands-both, stands-left, stands-right, moved, in_turn, none_stand, next-stands}
use Rattle.fields.proofs.Bounds.{bound-unbounded, bound-finite}
use Rattle.sheets.proofs.written.BigEndian.{length16, length32, read16, read32, stand16, stand32}

bound-number : (k : ℕ∞) → InRange k → bound (bound_number k) ≡ k
bound-number (fin n) h = bound-finite n (λ e. omega arith)
bound-number ∞ h = bound-unbounded unbounded refl

pub number_bound : (x : ℕ) → bound_number (bound x) ≡ x
unfolding bound
number_bound x = go (eqb x unbounded) refl
  where
    go : (t : Bool) → eqb x unbounded ≡ t → bound_number (cond t ∞ (fin x)) ≡ x
    go true e = sym (eqb-true x unbounded e)
    go false e = refl

number-below : (k : ℕ∞) → InRange k → bound_number k < 4294967296
number-below (fin n) h = omega arith
number-below ∞ h = omega arith

pub pair-length : (k : ℕ∞) (m : ℕ) → length (pair_bytes k m) ≡ 8
unfolding pair_bytes bytes32 bytes16
pair-length k m = refl

pub mode-length : (v : Version) (t : ℕ) → length (mode_bytes v t) ≡ mode_size v
unfolding mode_bytes
mode-length One t = length16 t
mode-length Two t = refl

pub tail-length : (a : NetArc) → length (tail_bytes a) ≡ 14
unfolding tail_bytes flatten bytes32 bytes16
tail-length a = refl

-- 16 bytes, or 14
pub arc-length : (v : Version) (a : NetArc) → length (arc_bytes v a) ≡ mode_size v + 14
unfolding arc_bytes
arc-length v a = rw length-append (omega (arith, mode-length v a.mode.0, tail-length a))

read-bound : (s : List ℕ) (at : ℕ) (k : ℕ∞) → InRange k → Stands s at (bytes32 (bound_number k)) → bound (u32_at s at) ≡ k
read-bound s at k h stands = ap bound (read32 s at (bound_number k) (number-below k h) stands) ∙ bound-number k h

module _ (s : List ℕ) (at : ℕ) where
  module _ (k : ℕ∞) (m : ℕ) (stands : Stands s at (pair_bytes k m)) where
    pub read-capacity : InRange k → bound (u32_at s (capacity_at at)) ≡ k
    unfolding pair_bytes
    read-capacity h = read-bound s at k h (stands-left (bytes32 (bound_number k)) (bytes32 m) stands)

    pub read-start : m ≤ limit → u32_at s (start_at at) ≡ m
    unfolding pair_bytes
    read-start h =
        read32 s (start_at at) m (omega arith) (stands-right (bytes32 (bound_number k)) (bytes32 m) stands (start_at at) (omega (arith, length32 (bound_number k))))

  module _ (net : PNet) (few : (modes net ≤ 256) × (pairs net ≤ 256)) (a : NetArc) (of : ArcOf net a) where
    pub read-tail : (t : ℕ) → t ≡ a.mode.0 → Stands s at (tail_bytes a) → net_arc_in s t at ≡ a
    unfolding tail_bytes bytes32 bytes16 net_arc_in
    read-tail t mode stands =
        let part = in_turn _ stands in
        let pair = read16 s (tail_pair_at at) a.pair.0 (omega (arith, of.pair)) part.0 in
        let pre = read32 s (tail_pre_at at) a.entry.pre (omega (arith, of.pre)) (moved _ (omega arith) part.1.0) in
        let post = read32 s (tail_post_at at) a.entry.post (omega (arith, of.post)) (moved _ (omega arith) part.1.1.0) in
        let inhibitor = read-bound s (tail_inhibitor_at at) a.entry.inhibitor of.inhibitor (moved _ (omega arith) part.1.1.1.0) in
        λ i. record { mode = record { 0 = mode i }; pair = record { 0 = pair i }; entry = record { pre = pre i; post = post i; inhibitor = inhibitor i } }

  module _ (byte : (i : ℕ) → byte_at s i < 256) where
    stand_bound : (k : ℕ) → Stands s k (bytes32 (bound_number (bound (u32_at s k))))
    stand_bound k = rw number_bound (stand32 s byte k)

    pub stand_pair : Stands s at (pair_bytes (bound (u32_at s (capacity_at at))) (u32_at s (start_at at)))
    unfolding pair_bytes
    stand_pair = stands-both (stand_bound at) (stand32 s byte (start_at at)) (omega (arith, length32 (bound_number (bound (u32_at s at)))))

    pub stand_tail : (t : ℕ) → Stands s at (tail_bytes (net_arc_in s t at))
    unfolding tail_bytes bytes32 bytes16 net_arc_in
    stand_tail t =
        next-stands _ (stand16 s byte (tail_pair_at at)) (omega arith)
        (next-stands _ (stand32 s byte (tail_pre_at at)) (omega arith)
        (next-stands _ (stand32 s byte (tail_post_at at)) (omega arith)
        (next-stands _ (stand_bound (tail_inhibitor_at at)) (omega arith) none_stand)))

-- version 1: the mode, then the others
module _ (s : List ℕ) (at : ℕ) where
  pub read-arc : (net : PNet) → (modes net ≤ 256) × (pairs net ≤ 256) → (a : NetArc) → ArcOf net a → Stands s at (arc_bytes One a) → net_arc_at s at ≡ a
  unfolding arc_bytes mode_bytes
  read-arc net few a of stands =
      read-tail s (arc_tail_at at) net few a of _
      (read16 s (arc_mode_at at) a.mode.0 (omega (arith, of.mode)) (stands-left (bytes16 a.mode.0) (tail_bytes a) stands))
      (stands-right (bytes16 a.mode.0) (tail_bytes a) stands (arc_tail_at at) (omega (arith, length16 a.mode.0)))

  pub stand_arc : ((i : ℕ) → byte_at s i < 256) → Stands s at (arc_bytes One (net_arc_at s at))
  unfolding arc_bytes mode_bytes net_arc_in
  stand_arc byte = stands-both (stand16 s byte (arc_mode_at at)) (stand_tail s (arc_tail_at at) byte _) (omega (arith, length16 (u16_at s (arc_mode_at at))))
