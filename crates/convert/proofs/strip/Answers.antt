-- The order of the refusals, and what the call leaves.
use Prim.Native.Nat.{ℕ, ◌+◌, ◌≤◌, ◌<◌}
use mathlib.Core.Path.{◌≡◌, refl, sym, ◌∙◌, ap}
use mathlib.Core.Bool.{Bool, true, false, cond, not, ◌&&◌, false≢true}
use mathlib.Core.List.{List}
use mathlib.Core.Option.{Option, none}
use lib.Dec.{eqb, leb, ltb}
use lib.ListN.{length}
use native.Mathlib.Omega.{arith}
use borrow.Author.Tests.{ltb-false, leb-true, leb-false, le-leb, lt-leb, not-false}
use Rattle.model.specs.declared.Pair.{Pair}
use Rattle.model.specs.declared.Thing.TheVariants.{Net, Argument}
use Rattle.model.specs.declared.Fault.TheVariants.{NotThere, InhibitedUnbounded, NoRoom}
use Rattle.model.specs.declared.Refusal.{Refusal}
use Rattle.model.specs.Refusals.{Answer}
use Rattle.std.specs.Prelude.{Ok, Err}
use Rattle.model.specs.First.{◌▸◌, only_if}
use Rattle.model.specs.Numbers.{fin, ∞}
use Rattle.model.specs.Nets.{pairs, K}
use Rattle.second_form.specs.Complement.{finite}
use Rattle.model.specs.Refusals.{answer, wrong}
use Rattle.model.proofs.Both.{and_both}
use Rattle.model.proofs.First.{then-under, left-none, right-none, only_if_none, some_then, none_then}
use Rattle.fields.specs.Numbers.{bound, unbounded}
use Rattle.sheets.specs.Decoded.{net_of}
use Rattle.sheets.specs.Emitted.{too_short}
use Rattle.opened.specs.declared.shape.NetShape.{NetShape}
use Rattle.opened.specs.Shape.{Open}
use Rattle.opened.proofs.Shapes.{sizes}
use Rattle.bare.specs.Strip.{strip_limits, strip_refusal}
use Rattle.bare.proofs.StripWellFormed.{few, well_formed_strip}
use Rattle.convert.specs.strip.Stripped.{stripped_sheet, room_refusal}
use Rattle.convert.specs.strip.Parts.{in_limits, Numbers, new_size, sizes_refusal, Strips}
use Rattle.convert.proofs.strip.Parts.{transitions-are, modes-are, arcs-are, size_is, sheet-is}

-- a K that is a number is the number that the sheet writes
finite_number : (x : ℕ) → finite (bound x) ≡ true → bound x ≡ fin x
unfolding bound
finite_number x h = go (eqb x unbounded) h
  where
    go : (t : Bool) → finite (cond t ∞ (fin x)) ≡ true → cond t ∞ (fin x) ≡ fin x
    go true h = absurd (false≢true h)
    go false h = refl

pub numbers_of : (net : NetShape) (k : ℕ) → net.places ≤ 64 → net.pairs ≤ 256 → in_limits net k ≡ true → Numbers net k
numbers_of net k places pairs e =
    let three = and_both (leb k 63 && leb (net.transitions + 1) 64 && leb (net.modes + (k + 1)) 256) _ e in
    let two = and_both (leb k 63 && leb (net.transitions + 1) 64) _ three.0 in
    let one = and_both (leb k 63) _ two.0 in
    record {
      deep = leb-true k 63 one.0;
      places = places;
      transitions = leb-true (net.transitions + 1) 64 one.1;
      pairs = pairs;
      modes = leb-true (net.modes + (k + 1)) 256 two.1;
      arcs = leb-true (net.arcs + (k + 1)) 2048 three.1;
    }

module _ {s : List ℕ} {net : NetShape} (o : Open s net) (p : Pair) where
  limits-are : (k : ℕ) → in_limits net k ≡ strip_limits (net_of s) p k
  limits-are k = rw (transitions-are o p k, modes-are o p k, arcs-are o p k) refl

  -- 10 by the shape's numbers
  sizes-refusal : (k room : ℕ) → p.0 < pairs (net_of s) → K (net_of s) p.0 ≡ fin k
      → sizes_refusal net k room ≡ only_if (not (strip_limits (net_of s) p k)) (wrong Net NoRoom) ▸ too_short (stripped_sheet s p) room
  unfolding sizes_refusal
  sizes-refusal k room there e =
      ap (λ b. only_if (not b) (wrong Net NoRoom) ▸ only_if (ltb room (new_size net k)) (wrong Net NoRoom)) (limits-are k)
      ∙ then-under (only_if (not (strip_limits (net_of s) p k)) (wrong Net NoRoom))
      (λ q.
      let well = well_formed_strip (net_of s) p k (sizes o).well_formed there (few (net_of s) p k (not-false _ (only_if_none _ _ q))) in
      ap (λ size. only_if (ltb room size) (wrong Net NoRoom)) (size_is o p k well ∙ ap length (sheet-is o p k e)))

  module _ {a : Answer} (room : ℕ) where
    -- 6, 15 and 10 in turn
    pub absent-pair : net.pairs ≤ p.0 → a ≡ Err (wrong Argument NotThere) → a ≡ answer (room_refusal s p room)
    unfolding room_refusal strip_refusal
    absent-pair h g =
        g ∙ ap answer (sym (some_then _ (some_then _ (rw (le-leb (pairs (net_of s)) p.0 (omega (arith, (sizes o).pairs))) refl))))

    module _ (there : p.0 < net.pairs) where
      pub unbounded-pair : finite (K (net_of s) p.0) ≡ false → a ≡ Err (wrong Net (InhibitedUnbounded 0)) → a ≡ answer (room_refusal s p room)
      unfolding room_refusal strip_refusal
      unbounded-pair h g =
          g ∙ ap answer (sym (some_then _ (none_then (rw (lt-leb (pairs (net_of s)) p.0 (omega (arith, (sizes o).pairs))) refl) (some_then _ (rw h refl)))))

      pub room-refusal : (x : ℕ) → bound x ≡ K (net_of s) p.0 → finite (K (net_of s) p.0) ≡ true → a ≡ answer (sizes_refusal net x room) → a ≡ answer (room_refusal s p room)
      unfolding room_refusal strip_refusal
      room-refusal x e h g =
          let k : K (net_of s) p.0 ≡ fin x = sym e ∙ finite_number x (rw e h) in
          let inside : p.0 < pairs (net_of s) = omega (arith, (sizes o).pairs) in
          let limits : Option Refusal = only_if (not (strip_limits (net_of s) p x)) (wrong Net NoRoom) in
          let first : strip_refusal (net_of s) p ≡ limits = none_then (rw (lt-leb (pairs (net_of s)) p.0 inside) refl) (none_then (rw h refl) (rw k refl)) in
          g ∙ ap answer (sizes-refusal x room inside k ∙ sym (ap (λ r. r ▸ too_short (stripped_sheet s p) room) first))

  -- what is known where nothing is refused
  module _ (room : ℕ) (e : room_refusal s p room ≡ none) where
    none-refused : strip_refusal (net_of s) p ≡ none
    unfolding room_refusal
    none-refused = left-none _ _ e

    pub pair-there : p.0 < net.pairs
    unfolding strip_refusal
    pair-there = let l : p.0 < pairs (net_of s) = leb-false _ _ (only_if_none _ _ (left-none _ _ none-refused)) in omega (arith, (sizes o).pairs)

    pair-finite : finite (K (net_of s) p.0) ≡ true
    unfolding strip_refusal
    pair-finite = not-false _ (only_if_none _ _ (left-none _ _ (right-none _ _ none-refused)))

    pub strips : (x : ℕ) → bound x ≡ K (net_of s) p.0 → Strips s net p x
    strips x q = record { opened = o; accepted = none-refused; bound = sym q ∙ finite_number x (rw q pair-finite) }

    pub room-enough : length (stripped_sheet s p) ≤ room
    unfolding room_refusal
    room-enough = ltb-false _ _ (only_if_none _ _ (right-none _ _ e))
