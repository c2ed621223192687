-- One ship into the record: the chain of its refusals, and what 25 leaves of a record.
use Prim.Native.Nat.{ℕ, ◌+◌, ◌≤◌, ◌<◌}
use mathlib.Core.Path.{◌≡◌, refl, sym, ◌∙◌, ap, ap₂}
use mathlib.Core.Bool.{Bool, true, false, cond, false≢true, true≢false}
use mathlib.Core.Option.{Option, none, some}
use lib.Dec.{ltb, eqb}
use lib.IntN.{ℤ, pos, negsuc, nat_abs, ◌+ℤ◌}
use mir.Syntax.{w64}
use mir.Val.{SFits, to_z, of_z}
use mir.Facts.{to_z-of_z}
use native.Mathlib.Omega.{arith}
use borrow.Author.Tests.{ltb-true, ltb-false, lt-ltb, le-ltb}
use Rattle.model.specs.declared.Thing.TheVariants.{Net, Argument}
use Rattle.model.specs.declared.Fault.TheVariants.{CountOutside, FigurePast, RecordOutside}
use Rattle.model.specs.declared.Refusal.{Refusal}
use Rattle.std.specs.Prelude.{Ok, Err, Result}
use Rattle.model.specs.First.{◌▸◌}
use Rattle.model.specs.Nets.{pairs}
use Rattle.model.specs.Refusals.{number, wrong}
use Rattle.model.proofs.Both.{or_neither}
use Rattle.model.proofs.Decisions.{Decided}
use Rattle.model.proofs.First.{none_then, some_then}
use Rattle.sheets.specs.Whole.{whole_net, whole_weights, whole_movements}
use Rattle.sheets.specs.Decoded.{net_of}
use Rattle.ships.specs.declared.Fleet.{Fleet}
use Rattle.ships.specs.declared.Voyage.{Voyage}
use Rattle.ships.specs.Ships.{Ship, voyage_of, with_voyage}
use Rattle.ships.specs.Entered.{most_figure, is_past, is_outside, is_out_of_bounds, Figure, Past, InBounds, is_too_heavy, record_refusal, room_refusal, figure_refusal, ship_refusal, entered_by, entered}
use Rattle.statement.specs.fleet.Parts.{raised_by, raised}

inside : (z : ℤ) → is_outside z ≡ false → Figure z
inside (pos n) e = (n, refl, ltb-false most_figure n (or_neither (ltb n 0) _ e).1)
inside (negsuc n) e = let f : ◌≡◌ {A = ℕ} 0 1 = cc in absurd (omega arith)

not_outside : {z : ℤ} → Figure z → is_outside z ≡ false
not_outside h = rw (h.1, le-ltb h.0 0 (omega arith), le-ltb most_figure h.0 h.2)

pub figure-size : {z : ℤ} → Figure z → nat_abs z ≤ most_figure
figure-size h = rw h.1 h.2

pub within : (f : Fleet) → is_out_of_bounds f ≡ false → InBounds f
within f e =
    let r = or_neither _ _ e in
    let a = or_neither _ _ r.0 in
    let b14 = or_neither _ _ a.0 in
    let b13 = or_neither _ _ b14.0 in
    let b12 = or_neither _ _ b13.0 in
    let b11 = or_neither _ _ b12.0 in
    let b6 = or_neither _ _ b11.0 in
    let m = or_neither _ _ b6.0 in
    record {
      ships = ltb-false 1000 f.ships m.0;
      movements = ltb-false 8192000 f.movements m.1;
      by6 = ltb-false 1000 f.by6 b6.1;
      by11 = ltb-false 1000 f.by11 b11.1;
      by12 = ltb-false 1000 f.by12 b12.1;
      by13 = ltb-false 1000 f.by13 b13.1;
      by14 = ltb-false 1000 f.by14 b14.1;
      added = inside f.added a.1;
      removed = inside f.removed r.1;
    }

pub not_out : (f : Fleet) → InBounds f → is_out_of_bounds f ≡ false
not_out f held =
    rw (
      le-ltb 1000 f.ships held.ships,
      le-ltb 8192000 f.movements held.movements,
      le-ltb 1000 f.by6 held.by6,
      le-ltb 1000 f.by11 held.by11,
      le-ltb 1000 f.by12 held.by12,
      le-ltb 1000 f.by13 held.by13,
      le-ltb 1000 f.by14 held.by14,
      not_outside held.added,
      not_outside held.removed,
    )

-- the tests of 25 and of 24 decide what they say
pub by_bounds : (f : Fleet) → Decided (is_out_of_bounds f) (¬ InBounds f)
by_bounds f =
    record {
      sound = λ e held. true≢false (sym e ∙ not_out f held);
      complete = λ out. go (is_out_of_bounds f) refl out;
    }
  where
    go : (b : Bool) → is_out_of_bounds f ≡ b → ¬ InBounds f → is_out_of_bounds f ≡ true
    go true e out = e
    go false e out = absurd (out (within f e))

pub by-past : (z : ℤ) → Decided (is_past z) (Past z)
by-past (pos n) =
    record {
      sound = λ e. (n, refl, ltb-true most_figure n e);
      complete = λ h. lt-ltb most_figure n (let same : n ≡ h.0 = cc h.1 in omega (arith, h.2));
    }
by-past (negsuc n) = record { sound = λ e. absurd (false≢true e); complete = λ h. let f : ◌≡◌ {A = ℕ} 0 1 = cc h.1 in absurd (omega arith) }

module _ (f : Fleet) where
  pub record_stops : is_out_of_bounds f ≡ true → record_refusal f ≡ some (wrong Net RecordOutside)
  unfolding record_refusal
  record_stops e = rw e

  pub record_passes : is_out_of_bounds f ≡ false → record_refusal f ≡ none
  unfolding record_refusal
  record_passes e = rw e

  pub room-stops : 1000 < f.ships + 1 → room_refusal f ≡ some (wrong Argument (CountOutside 0))
  unfolding room_refusal
  room-stops h = rw (lt-ltb 1000 (f.ships + 1) h)

  pub room-passes : f.ships + 1 ≤ 1000 → room_refusal f ≡ none
  unfolding room_refusal
  room-passes h = rw (le-ltb 1000 (f.ships + 1) h)

-- 24 of a figure, tested as it is read
pub read-past : {z : ℤ} {b : Bool} → SFits w64 z → b ≡ is_past (to_z w64 (of_z w64 z)) → is_past z ≡ b
read-past fits e = ap is_past (sym (to_z-of_z fits)) ∙ sym e

-- a sum of two figures that are read, as it is read
pub read-sum : {a b r : ℤ} → SFits w64 a → SFits w64 b → SFits w64 r → r ≡ to_z w64 (of_z w64 a) +ℤ to_z w64 (of_z w64 b)
    → to_z w64 (of_z w64 r) ≡ a +ℤ b
read-sum p q fits e = to_z-of_z fits ∙ e ∙ ap₂ ◌+ℤ◌ (to_z-of_z p) (to_z-of_z q)

-- nine sums, each made apart, are the record with one ship more
pub summed : (f : Fleet) (v : Voyage) {n by6 by11 by12 by13 by14 : ℕ} {added removed : ℤ} → n ≡ number v.answer
    → by6 ≡ f.by6 + cond (eqb n 6) 1 0 → by11 ≡ f.by11 + cond (eqb n 11) 1 0 → by12 ≡ f.by12 + cond (eqb n 12) 1 0
    → by13 ≡ f.by13 + cond (eqb n 13) 1 0 → by14 ≡ f.by14 + cond (eqb n 14) 1 0 → added ≡ f.added +ℤ v.added → removed ≡ f.removed +ℤ v.removed
    → ◌≡◌ {A = Fleet} (record { ships = f.ships + 1; movements = f.movements + v.accepted; by6 = by6; by11 = by11; by12 = by12; by13 = by13; by14 = by14; added = added; removed = removed }) (with_voyage f v)
unfolding with_voyage
summed f v n by6 by11 by12 by13 by14 added removed = rw (by6, by11, by12, by13, by14, n, added, removed)

module _ (f : Fleet) (s : Ship) where
  pub stops : (o p : Option Refusal) {x : Result Fleet Refusal} {r : Refusal} → o ≡ some r → x ≡ Err r → x ≡ raised_by (o ▸ p) f s
  stops o p e q = rw (some_then p e) q

  pub goes_on : (o p : Option Refusal) {x : Result Fleet Refusal} → o ≡ none → x ≡ raised_by p f s → x ≡ raised_by (o ▸ p) f s
  goes_on o p e g = g ∙ ap (λ o. raised_by o f s) (sym (none_then e refl))

  -- what is left of the chain where the net is accepted
  abbrev pub unread : Option Refusal
  unread = whole_weights (pairs (net_of s.net)) s.weights ▸ whole_movements s.movements ▸ figure_refusal f s

  -- the whole chain is `raised`
  chain : raised_by (record_refusal f ▸ room_refusal f ▸ whole_net s.net ▸ unread) f s ≡ raised f s
  unfolding ship_refusal
  chain = refl

  -- what a refusal leaves in the lent record, and what an accepted ship does
  pub leaves : {r : Refusal} → Err r ≡ raised f s → (Err r ≡ (entered f s).answer) × (f ≡ (entered f s).fleet)
  unfolding entered
  leaves {r} e = go (ship_refusal f s) e
    where
      go : (o : Option Refusal) → Err r ≡ raised_by o f s → (Err r ≡ (entered_by o f s).answer) × (f ≡ (entered_by o f s).fleet)
      go none g = let z : ◌≡◌ {A = ℕ} 0 1 = cc in absurd (omega arith)
      go (some x) g = (cc, refl)

  pub keeps : {next : Fleet} → Ok next ≡ raised f s → (Ok tt ≡ (entered f s).answer) × (next ≡ (entered f s).fleet)
  unfolding entered
  keeps {next} e = go (ship_refusal f s) e
    where
      go : (o : Option Refusal) → Ok next ≡ raised_by o f s → (Ok tt ≡ (entered_by o f s).answer) × (next ≡ (entered_by o f s).fleet)
      go none g = (refl, cc)
      go (some x) g = let z : ◌≡◌ {A = ℕ} 0 1 = cc in absurd (omega arith)

  module _ {b : Bool} (e : b ≡ is_out_of_bounds f) where
    pub ends_unsound : b ≡ true → Err (wrong Net RecordOutside) ≡ raised f s
    ends_unsound t = stops _ _ (record_stops f (sym e ∙ t)) refl ∙ chain

    module _ (t : b ≡ false) where
      sound : {x : Result Fleet Refusal} → x ≡ raised_by (room_refusal f ▸ whole_net s.net ▸ unread) f s → x ≡ raised f s
      sound g = goes_on _ _ (record_passes f (sym e ∙ t)) g ∙ chain

      pub ends-full : 1000 < f.ships + 1 → Err (wrong Argument (CountOutside 0)) ≡ raised f s
      ends-full h = sound (stops _ _ (room-stops f h) refl)

      module _ (h : f.ships + 1 ≤ 1000) where
        pub ends-refused : {r : Refusal} {x : Result Fleet Refusal} → whole_net s.net ≡ some r → x ≡ Err r → x ≡ raised f s
        ends-refused o q = sound (goes_on _ _ (room-passes f h) (stops _ _ o q))

        pub ends-counted : {x : Result Fleet Refusal} → whole_net s.net ≡ none → x ≡ raised_by unread f s → x ≡ raised f s
        ends-counted o g = sound (goes_on _ _ (room-passes f h) (goes_on _ _ o g))

  -- 24, of the record with one ship more
  module _ {v : Voyage} {next : Fleet} (at : v ≡ voyage_of s) (is : next ≡ with_voyage f v) where
    next-is : with_voyage f (voyage_of s) ≡ next
    next-is = ap (with_voyage f) (sym at) ∙ sym is

    pub too_heavy_lem : is_too_heavy next ≡ true → Err (wrong Net FigurePast) ≡ raised_by (figure_refusal f s) f s
    unfolding figure_refusal
    too_heavy_lem t = rw (next-is, t)

    pub enters : is_too_heavy next ≡ false → Ok next ≡ raised_by (figure_refusal f s) f s
    unfolding figure_refusal
    enters t = rw (next-is, t) (ap Ok (sym next-is))
