-- The arcs of version 2: what is written is what is read, and what is read is what stands there.
use Prim.Native.Nat.{ℕ, zero, suc, ◌+◌, ◌≤◌, ◌<◌}
use mathlib.Core.Path.{◌≡◌, refl, sym, ◌∙◌, ap}
use mathlib.Core.List.{List, [], flat_map}
use mathlib.Core.Logic.{⊎_elim}
use lib.ListN.{length, length-append}
use native.Mathlib.Omega.{arith}
use native.Mathlib.Nat.{eq-or-lt_of_le, le_of_suc-le-suc, not-suc-le-zero}
use Rattle.model.specs.declared.Version.TheVariants.{Two}
use Rattle.model.specs.Nets.{NetArc, PNet, modes, pairs, arc_no}
use Rattle.model.specs.WellFormed.{ArcOf, WellFormed}
use Rattle.model.specs.Lists.{joined}
use Rattle.movement.proofs.Joined.{joined_ext}
use Rattle.movement.proofs.Each.{each_at, at_each}
use Rattle.heads.specs.Bytes.{byte_at}
use Rattle.heads.specs.Layout.{group_arc_at, arcs_after, arcs_before, group_at, group_count}
use Rattle.sheets.specs.Decoded.{net_arc_in, group_arcs, arcs_of}
use Rattle.sheets.proofs.GroupArcs.{group_length, group_each, group_arcs-length}
use Rattle.sheets.specs.written.Written.{bytes16, mode_bytes, arc_bytes, of_mode, own_bytes, group_bytes, section_bytes}
use Rattle.sheets.proofs.written.Stands.{Stands, stands-both, stands-left, stands-right, moved}
use Rattle.sheets.proofs.written.BigEndian.{length16, read16, stand16}
use Rattle.sheets.proofs.written.Sections.{table_is, section_each, section_stands}
use Rattle.sheets.proofs.written.Records.{arc-length, read-tail, stand_tail}
use Rattle.sheets.proofs.written.SheetLength.{groups_length}
use Rattle.sheets.proofs.written.ByMode.{by_mode, of-joined, each_of, few-of}

-- parts of any length that stand one after the other
stands-part : {s : List ℕ} {at : ℕ} (f : ℕ → List ℕ) (n : ℕ) → Stands s at (joined n f) → (i k : ℕ) → i < n → k ≡ at + length (joined i f) → Stands s k (f i)
unfolding joined
stands-part f zero h i k l e = absurd (not-suc-le-zero l)
stands-part f (suc n) h i k l e =
    ⊎_elim (λ (q : i ≡ n). rw q (stands-right (joined n f) (f n) h k (rw q at e))) (λ (q : i < n). stands-part f n (stands-left (joined n f) (f n) h) i k q e)
    (eq-or-lt_of_le (le_of_suc-le-suc l))

parts_stand : {s : List ℕ} {at : ℕ} (f : ℕ → List ℕ) (n : ℕ) → ((i k : ℕ) → i < n → k ≡ at + length (joined i f) → Stands s k (f i)) → Stands s at (joined n f)
unfolding joined
parts_stand f zero h = record { each = λ j k l e. absurd (omega arith) }
parts_stand {s} {at} f (suc n) h =
    stands-both (parts_stand f n (λ i k l e. h i k (omega arith) e)) (h n (at + length (joined n f)) (omega arith) refl) refl

module _ (s : List ℕ) (base : ℕ) where
  -- written, then read: g t are the arcs of mode t
  module _ (net : PNet) (few : (modes net ≤ 256) × (pairs net ≤ 256)) (g : ℕ → List NetArc) (n : ℕ) (stands : Stands s base (joined n (λ t. group_bytes Two (g t))))
      (own : (t : ℕ) → t < n → (length (g t) ≤ 2048) × ((i : ℕ) → i < length (g t) → ArcOf net (arc_no (g t) i) × ((arc_no (g t) i).mode.0 ≡ t))) where
    record Reads (t : ℕ) : Type 0 where
      before : arcs_before s base t ≡ length (joined t g)
      arcs : joined t (group_arcs s base) ≡ joined t g

    one : (t : ℕ) → t < n → arcs_before s base t ≡ length (joined t g) → (group_count s base t ≡ length (g t)) × (group_arcs s base t ≡ g t)
    unfolding group_arcs own_bytes arc_bytes mode_bytes
    one t h e =
        let at = group_at s base t in
        let all : Stands s at (group_bytes Two (g t)) = stands-part (λ t. group_bytes Two (g t)) n stands t at h (omega (arith, groups_length t g)) in
        let counted = read16 s at (length (g t)) (omega (arith, (own t h).0)) (stands-left (bytes16 (length (g t))) (flat_map (arc_bytes Two) (g t)) all) in
        let arcs = stands-right (bytes16 (length (g t))) (flat_map (arc_bytes Two) (g t)) all (arcs_after at) (omega (arith, length16 (length (g t)))) in (
          counted,
          table_is (arc_no [] 0) (g t) (group_count s base t) _ counted
              (λ i l.
              let o = (own t h).1 i l in
              read-tail s (group_arc_at (arcs_after at) i) net few (arc_no (g t) i) o.0 t (sym o.1)
              (section_each 14 (arc_bytes Two) (arc-length Two) (arc_no [] 0) (g t) arcs i (group_arc_at (arcs_after at) i) l (omega arith))),
        )

    reads : (t : ℕ) → t ≤ n → Reads t
    unfolding joined arcs_before
    reads zero h = record { before = refl; arcs = refl }
    reads (suc t) h =
        let r = reads t (omega arith) in
        let o = one t (omega arith) r.before in
        record { before = omega (arith, r.before, o.0, length-append (joined t g) (g t)); arcs = rw (r.arcs, o.1) }

    arcs-back : arcs_of s base n ≡ joined n g
    unfolding arcs_of
    arcs-back = (reads n (omega arith)).arcs

  -- read, then written
  module _ (byte : (i : ℕ) → byte_at s i < 256) where
    group_stands : (t : ℕ) → Stands s (group_at s base t) (group_bytes Two (group_arcs s base t))
    unfolding group_arcs own_bytes arc_bytes mode_bytes
    group_stands t =
        let at = group_at s base t in
        let counted : Stands s at (bytes16 (length (group_arcs s base t))) = rw (group_length s base t) (stand16 s byte at) in
        stands-both counted
        (section_stands 14 (arc_bytes Two) (arc-length Two) _ _ (λ i k l e. moved k e (stand_tail s (group_arc_at (arcs_after at) i) byte t)))
        (omega (arith, length16 (length (group_arcs s base t))))

    groups_stand : (n : ℕ) → Stands s base (joined n (λ t. group_bytes Two (group_arcs s base t)))
    unfolding arcs_of
    groups_stand n =
        parts_stand (λ t. group_bytes Two (group_arcs s base t)) n
        (λ t k l e. moved k (omega (arith, groups_length t (group_arcs s base), group_arcs-length s base t)) (group_stands t))

-- the arcs of a well-formed net, written mode by mode, are read back
pub arcs-read-back : (net : PNet) → WellFormed net → (s : List ℕ) (base : ℕ) → Stands s base (section_bytes Two net) → arcs_of s base (modes net) ≡ net.arcs
unfolding section_bytes
arcs-read-back net well s base stands =
    let each = at_each (ArcOf net) (arc_no [] 0) net.arcs well.each_arc in
    arcs-back s base net (well.transitions.in_total, well.places.in_total) (of_mode net.arcs) (modes net) stands
    (λ t h. (omega (arith, few-of net.arcs t, well.arc_count), λ i l. each_at (λ a. ArcOf net a × (a.mode.0 ≡ t)) (arc_no [] 0) (of_mode net.arcs t) (each_of (ArcOf net) net.arcs t each) i l))
    ∙ (by_mode net well).is

-- and what was read stands there
pub arcs_stand_back : (s : List ℕ) (base n : ℕ) → ((i : ℕ) → byte_at s i < 256) → Stands s base (joined n (λ t. group_bytes Two (of_mode (arcs_of s base n) t)))
unfolding arcs_of net_arc_in
arcs_stand_back s base n byte =
    rw (joined_ext n (λ t. group_bytes Two (of_mode (arcs_of s base n) t)) (λ t. group_bytes Two (group_arcs s base t))
    (λ t h. ap (group_bytes Two) (of-joined (group_arcs s base) (λ u. group_each s base (λ a. a.mode.0 ≡ u) u (λ tail. refl)) n t h)))
    (groups_stand s base byte n)
