-- The places of the complement, place by place.
use Prim.Native.Nat.{ℕ, zero, suc, ◌+◌, ◌-◌, ◌≤◌, ◌<◌}
use mathlib.Core.Path.{◌≡◌, sym, ◌∙◌, ap, ap₂}
use mathlib.Core.List.{List, [], ◌∷◌, ◌++◌, flat_map}
use lib.ListN.{length, get_or, take, length-append}
use native.Mathlib.Omega.{arith}
use borrow.Author.Tests.{lt-ltb}
use Rattle.model.specs.Nets.{PNet, total, pairs, K, first_pair_of}
use Rattle.model.specs.WellFormed.{WellFormed}
use Rattle.second_form.specs.Complement.{new_places, complement}
use Rattle.model.specs.Lists.{joined}
use Rattle.movement.proofs.Joined.{joined_ext}
use Rattle.second_form.proofs.ComplementNet.{total-next, new-places}
use Rattle.opened.specs.declared.shape.NetShape.{NetShape}
use Rattle.sheets.specs.Decoded.{net_of}
use Rattle.opened.specs.Shape.{Open}
use Rattle.sheets.specs.written.Written.{bytes16}
use Rattle.opened.proofs.Shapes.{sizes}
use Rattle.sheets.proofs.written.Sections.{section_append, section_one, section_joined, section_list}
use Rattle.halves.specs.declared.half.Half.{Half}
use Rattle.halves.specs.declared.half.Half.TheVariants.{Original, Complement}
use Rattle.complement.specs.sections.Places.{colours_in, place_if, half_place, place_bytes}

total-within : (cs : List ℕ) (i : ℕ) → total (take i cs) ≤ total cs
total-within [] zero = omega arith
total-within [] (suc i) = omega arith
total-within (c ∷ cs) zero = omega arith
total-within (c ∷ cs) (suc i) = omega (arith, total-within cs i)

-- a place without colours is none
pub no_place : {colours : ℕ} → colours ≡ 0 → [] ≡ place_if colours
no_place e = rw e

pub one_place : {colours : ℕ} → (colours ≡ 0 → ⊥) → colours ∷ [] ≡ place_if colours
one_place {colours} h = rw (lt-ltb 0 colours (omega arith))

pub no_place_bytes : {colours : ℕ} → colours ≡ 0 → [] ≡ flat_map bytes16 (place_if colours)
unfolding flat_map
no_place_bytes e = ap (flat_map bytes16) (no_place e)

pub one-place_bytes : {colours : ℕ} → (colours ≡ 0 → ⊥) → bytes16 colours ≡ flat_map bytes16 (place_if colours)
one-place_bytes {colours} h = sym (section_one bytes16 colours) ∙ ap (flat_map bytes16) (one_place h)

module _ (net : PNet) where
  pub half_place_lem : (half : Half) (i : ℕ) {first end colours : ℕ} → first ≡ first_pair_of net i → end ≡ first_pair_of net (suc i)
      → colours ≡ colours_in net half first end → place_if colours ≡ half_place net half i
  half_place_lem half i e f g = rw (g, e, f)

  first_next : (i : ℕ) → i < length net.colours → first_pair_of net (suc i) ≡ first_pair_of net i + get_or net.colours i 0
  first_next i h = total-next net.colours i h

  first-within : (i : ℕ) → first_pair_of net i ≤ pairs net
  first-within i = total-within net.colours i

  places_count : length (complement net).colours ≡ length net.colours + length (joined (length net.colours) (half_place net Complement))
  unfolding complement
  places_count = length-append net.colours _ ∙ rw (new-places (K net) net.colours)

  original-place : WellFormed net → (i : ℕ) → i < length net.colours → place_bytes net Original i ≡ bytes16 (get_or net.colours i 0)
  original-place wf i h =
      let e : first_pair_of net (suc i) - first_pair_of net i ≡ get_or net.colours i 0 = omega (arith, first_next i h) in
      rw (e, lt-ltb 0 (get_or net.colours i 0) (wf.places.each i h).0) (section_one bytes16 (get_or net.colours i 0))

  pub places_halves : WellFormed net
      → flat_map bytes16 (complement net).colours
      ≡ joined (length net.colours) (place_bytes net Original) ++ joined (length net.colours) (place_bytes net Complement)
  unfolding complement
  places_halves wf =
      let n = length net.colours in
      section_append bytes16 net.colours (new_places (K net) net.colours)
      ∙ ap₂ (λ xs ys. xs ++ ys)
      (section_list bytes16 0 net.colours ∙ sym (joined_ext n (place_bytes net Original) _ (original-place wf)))
      (ap (flat_map bytes16) (new-places (K net) net.colours) ∙ section_joined bytes16 n (half_place net Complement))

-- the modes of a transition
abbrev pub transition_bytes : PNet → ℕ → List ℕ
transition_bytes net i = bytes16 (get_or net.modes_of i 0)

-- The same of an open net.
module _ {s : List ℕ} {net : NetShape} (o : Open s net) where
  pub place-parts : flat_map bytes16 (complement (net_of s)).colours
      ≡ joined net.places (place_bytes (net_of s) Original) ++ joined net.places (place_bytes (net_of s) Complement)
  place-parts = rw (sizes o).places (places_halves (net_of s) (sizes o).well_formed)

  pub place-count : length (complement (net_of s)).colours ≡ net.places + length (joined net.places (half_place (net_of s) Complement))
  place-count = rw (sizes o).places (places_count (net_of s))

  -- the pairs of a place come after those of the places before it
  pub next-first : (place : ℕ) {first colours : ℕ} → place < net.places → first ≡ first_pair_of (net_of s) place → colours ≡ get_or (net_of s).colours place 0
      → (first + colours ≡ first_pair_of (net_of s) (suc place)) × (first + colours ≤ net.pairs)
  next-first place h e f =
      let next = first_next (net_of s) place (rw (← (sizes o).places) h) in
      (omega arith, omega (arith, (sizes o).pairs, first-within (net_of s) (suc place)))

  pub mode-parts : flat_map bytes16 (complement (net_of s)).modes_of ≡ joined net.transitions (transition_bytes (net_of s))
  unfolding complement
  mode-parts = rw (sizes o).transitions (section_list bytes16 0 (net_of s).modes_of)
