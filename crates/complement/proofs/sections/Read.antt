-- An arc of an open net as it was read, with the capacity of its pair.
use Prim.Native.Nat.{ℕ, ◌+◌, ◌<◌}
use mathlib.Core.Path.{◌≡◌, refl, sym, ◌∙◌, ap, ap₂}
use mathlib.Core.Bool.{Bool, true, false, not, ◌&&◌}
use mathlib.Core.List.{List}
use lib.ListN.{get_or}
use native.Mathlib.Omega.{arith}
use Rattle.model.specs.declared.Pair.{Pair}
use Rattle.model.specs.declared.Arc.{Arc}
use Rattle.model.specs.Nets.{NetArc, PNet, pairs, pair_no, mode_no, K, arc_no}
use Rattle.second_form.specs.Dead.{is_dead}
use Rattle.second_form.specs.Complement.{finite, complement_pair, inhibits_unbounded}
use Rattle.opened.specs.declared.shape.NetShape.{NetShape}
use Rattle.fields.specs.Numbers.{bound}
use Rattle.sheets.specs.Decoded.{net_of, net_arc}
use Rattle.opened.specs.Shape.{Open, ArcIs}
use Rattle.opened.specs.declared.starts.Segment.{Segment}
use Rattle.opened.specs.Starts.{SegmentOf, OwnArc}
use Rattle.opened.proofs.Shapes.{shaped, sizes}
use Rattle.halves.specs.declared.half.Half.TheVariants.{Complement}
use Rattle.complement.specs.sections.DeadModes.{DeadAre}
use Rattle.halves.specs.Bounded.{BelowAre}
use Rattle.halves.specs.Entries.{Small, complement_at}
use Rattle.complement.specs.sections.Arcs.{half_arc, clear_at}
use Rattle.halves.proofs.Below.{entry-is}

module _ {s : List ℕ} {net : NetShape} {k : ℕ} {a : Arc} (read : ArcIs s net k a) where
  pub small : Open s net → (c : ℕ) → bound c ≡ K (net_of s) a.pair.0 → Small a c
  small o c e =
      record { pre = read.pre; post = read.post; capacity = rw e ((sizes o).well_formed.capacity_in_range a.pair.0 (rw (← (sizes o).pairs) read.pair)) }

  -- what 15 tests at it
  pub inhibits_is : {i u : Bool} → finite (bound a.inhibitor) ≡ i → not (finite (K (net_of s) a.pair.0)) ≡ u
      → inhibits_unbounded (net_of s) (arc_no (net_of s).arcs k) ≡ (i && u)
  inhibits_is e f = rw (← read.is, e, f)

  pub clear_finite : {f : Bool} (c : ℕ) → f ≡ finite (bound c) → f ≡ true → bound c ≡ K (net_of s) a.pair.0 → true ≡ clear_at (net_of s) k
  unfolding clear_at
  clear_finite c q h e = sym (ap not (inhibits_is refl (ap not (ap finite (sym e) ∙ sym q ∙ h))) ∙ go (finite (bound a.inhibitor)))
    where
      go : (b : Bool) → not (b && false) ≡ true
      go true = refl
      go false = refl

  pub clear_unbounded : {f i : Bool} (c : ℕ) → f ≡ finite (bound c) → f ≡ false → bound c ≡ K (net_of s) a.pair.0 → i ≡ finite (bound a.inhibitor)
      → not i ≡ clear_at (net_of s) k
  unfolding clear_at
  clear_unbounded {i = i} c q h e g = sym (ap not (inhibits_is (sym g) (ap not (ap finite (sym e) ∙ sym q ∙ h)) ∙ go i))
    where
      go : (b : Bool) → b && true ≡ b
      go true = refl
      go false = refl

  -- the number of its complement pair
  pub pair-number : Open s net → {below : List ℕ} → BelowAre (net_of s) below → (q : Pair) → q.0 ≡ net.pairs + get_or below a.pair.0 0
      → q.0 ≡ complement_pair (pairs (net_of s)) (K (net_of s)) a.pair.0
  pair-number o are q f = omega (arith, (sizes o).pairs, entry-is o are a.pair.0 (omega (arith, read.pair)))

  -- what it becomes on the complement pair
  pub complement-is : Open s net → {below : List ℕ} → BelowAre (net_of s) below → (dead : Bool) (c : ℕ) (q : Pair) → dead ≡ is_dead (net_of s) a.mode
      → bound c ≡ K (net_of s) a.pair.0 → q.0 ≡ net.pairs + get_or below a.pair.0 0
      → complement_at q net.rule dead (bound c) (net_arc a) ≡ half_arc (net_of s) Complement k
  complement-is o are dead c q d e f =
      rw (← read.is, d, (shaped o).rule) (ap₂ (λ q k. complement_at q (net_of s).rule (is_dead (net_of s) a.mode) k (net_arc a)) (ap pair_no (pair-number o are q f)) e)

  pub complement-pair-is : Open s net → {below : List ℕ} → BelowAre (net_of s) below → (q : Pair) → q.0 ≡ net.pairs + get_or below a.pair.0 0
      → (new : Arc) → net_arc new ≡ half_arc (net_of s) Complement k → q.0 ≡ new.pair.0
  complement-pair-is o are q f new e =
      pair-number o are q f ∙ ap (λ x. complement_pair (pairs (net_of s)) (K (net_of s)) x.pair.0) read.is ∙ ap (λ x. x.pair.0) (sym e)

-- the i-th arc of a segment is of its mode
pub own-dead : (net : PNet) {segment : Segment} {i : ℕ} {dead : Bool} → OwnArc net.arcs segment i → (a : NetArc) → a ≡ arc_no net.arcs (segment.start + i)
    → dead ≡ is_dead net segment.mode → dead ≡ is_dead net a.mode
own-dead net {i = i} own a is d = d ∙ ap (λ n. is_dead net (mode_no n)) (sym (own.own.own i own.there)) ∙ ap (λ x. is_dead net x.mode) (sym is)

-- what the table of dead modes says of a mode, by its segment
pub entry-dead : {s : List ℕ} {net : NetShape} → Open s net → {dead : List Bool} → DeadAre (net_of s) dead → (t : ℕ) → t < net.modes
    → {segment : Segment} → SegmentOf (net_of s).arcs (mode_no t) segment → get_or dead t false ≡ is_dead (net_of s) segment.mode
entry-dead {s} o are t h is = are.each t (rw (← (sizes o).modes) h) ∙ ap (is_dead (net_of s)) (sym is.mode)
