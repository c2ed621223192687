-- What each kind of line leaves, and what leaves nothing.
use Rattle.std.specs.Prelude.{Result, Ok, Err, Option as Perhaps, Some, None}
use Rattle.std.specs.Result.{result_ok}
use Prim.Native.Nat.{ℕ, ◌+◌, ◌-◌, ◌≤◌, ◌<◌}
use mathlib.Core.Path.{◌≡◌, refl, ap, subst}
use mathlib.Core.Bool.{Bool, true, false}
use mathlib.Core.List.{List}
use mathlib.Core.Logic.{inl, inr, ◌≢◌}
use native.Mathlib.Omega.{arith}
use borrow.Author.Tests.{le-ltb}
use Rattle.model.specs.declared.Version.TheVariants.{One}
use Rattle.fields.specs.Numbers.{bound, unbounded}
use Rattle.fields.proofs.Bounds.{bound-unbounded}
use Rattle.sheets.specs.written.Written.{pair_bytes, arc_bytes}
use Rattle.sheets.specs.written.Puts.{Put}
use Rattle.grammar.specs.declared.State.{State}
use Rattle.grammar.specs.Lines.{place, transition, pre, post, ArcAllowed, after, from_post}
use Rattle.grammar.specs.Gathered.{arc}
use Rattle.import.specs.declared.scan.Step.{Step}
use Rattle.import.specs.declared.scan.Step.TheVariants.{Placed, Begun, PreArc, PostArc, Closed}
use Rattle.import.specs.scan.Kinds.{StepAllows, SteppedAs}
use Rattle.import.specs.Parts.{LineAt, ClosedOr, Other, Ready, PostRoom, PostPut, WriteAllows, PlaceAllows}
use Rattle.import.proofs.ArcBytes.{new-arc, post-puts}

-- below the least pair of a new arc there is only the arc in hand
in_hand_lem : {q : State} {p w : ℕ} → ArcAllowed q (from_post q) p w → p < q.low → q.half ≡ true
in_hand_lem {q} {p} a h = go q.half refl
  where
    go : (b : Bool) → q.half ≡ b → q.half ≡ true
    go true e = e
    go false e = let l = a.least in let l' : q.low ≤ p = rw e at l in absurd (omega arith)

own-arc : (q : State) (p w : ℕ) → q.low ≤ p → (after q (post p w)).arcs ≡ q.arcs + 1
own-arc q p w h = rw (le-ltb p q.low h) refl

pub post-room : {s : List ℕ} {q : State} {at : ℕ} {out : List ℕ} {next p w m : ℕ} → Ready s q at out next → LineAt q s at (post p w) m → PostRoom q p out next
post-room {q = q} {p = p} {w = w} {m = m} r x =
    record { within = r.within; in_hand = λ h. r.in_hand (in_hand_lem x.is h); own_arc_put = λ h. omega (arith, r.room (post p w) m x, own-arc q p w h) }

module _ {q : State} {s : List ℕ} {at : ℕ} where
  -- what was read, and the line that it is
  module _ {r : Result Step ℕ} (x : StepAllows q s at r) where
    pub line_read : {step line : Step} → Some step ≡ result_ok r → step ≡ line → SteppedAs q s at (Ok line)
    line_read {step} {line} e f = go r x.how e
      where
        go : (r : Result Step ℕ) → SteppedAs q s at r → Some step ≡ result_ok r → SteppedAs q s at (Ok line)
        go (Ok z) y e = let i : z ≡ line = cc in subst (λ z. SteppedAs q s at (Ok z)) i y
        go (Err p) y e = absurd cc

    module _ {out : List ℕ} {next : ℕ} (o : Perhaps Step) (is : o ≡ result_ok r) where
      pub no-line : ((m : ℕ) → o ≢ Some (Begun m)) → ((p w m : ℕ) → o ≢ Some (PreArc p w m)) → ((p w m : ℕ) → o ≢ Some (PostArc p w m)) → WriteAllows s q at out next out None
      no-line f g h = record { how = record { kept = refl; how = go r x.how is } }
        where
          go : (r : Result Step ℕ) → SteppedAs q s at r → o ≡ result_ok r → ClosedOr ((n : ℕ) × (m : ℕ) × LineAt q s at (place n) m) q s at
          go (Ok (Placed n m)) y e = inr (inl (n, m, y))
          go (Ok (Begun m)) y e = absurd (f m e)
          go (Ok (PreArc p w m)) y e = absurd (g p w m e)
          go (Ok (PostArc p w m)) y e = absurd (h p w m e)
          go (Ok (Closed m)) y e = inl (m, y)
          go (Err p) y e = inr (inr (p, y))

      pub no_place : ((n m : ℕ) → o ≢ Some (Placed n m)) → PlaceAllows s q at out next out None
      no_place f = record { how = record { kept = refl; how = go r x.how is } }
        where
          go : (r : Result Step ℕ) → SteppedAs q s at r → o ≡ result_ok r → ClosedOr (Other q s at) q s at
          go (Ok (Placed n m)) y e = absurd (f n m e)
          go (Ok (Begun m)) y e = inr (inl (transition, m, y, omega arith, refl))
          go (Ok (PreArc p w m)) y e = inr (inl (pre p w, m, y, y.is.some_mode, refl))
          go (Ok (PostArc p w m)) y e = inr (inl (post p w, m, y, y.is.some_mode, refl))
          go (Ok (Closed m)) y e = inl (m, y)
          go (Err p) y e = inr (inr (p, y))

  pub begun-wrote : {out : List ℕ} {to : State} {read next : ℕ} → LineAt q s at transition read → to ≡ after q transition → WriteAllows s q at out next out (Some (to, read, next))
  begun-wrote y i = record { how = record { line = transition; stands = y; state = i; places = ap (λ z. z.places) i; puts = λ l base d text m z. z } }

  module _ {before now : List ℕ} {was next : ℕ} {to : State} where
    pub pre-wrote : {p w read : ℕ} → LineAt q s at (pre p w) read → Put before was 16 (arc_bytes One (arc (q.modes - 1) p w 0)) now next → to ≡ after q (pre p w)
        → WriteAllows s q at before was now (Some (to, read, next))
    pre-wrote {p} {w} y v i =
        record { how = record { line = pre p w; stands = y; state = i; places = ap (λ z. z.places) i; puts = λ l base d text m z. new-arc d.arcs (arc (q.modes - 1) p w 0) z v } }

    pub post-wrote : {p w read : ℕ} → LineAt q s at (post p w) read → PostPut q p w before was now next → to ≡ after q (post p w) → WriteAllows s q at before was now (Some (to, read, next))
    post-wrote {p} {w} y v i =
        record { how = record { line = post p w; stands = y; state = i; places = ap (λ z. z.places) i; puts = λ l base d text m z. post-puts m p w (in_hand_lem y.is) v z } }

    pub placed : {n read : ℕ} → LineAt q s at (place n) read → Put before was 8 (pair_bytes (bound unbounded) n) now next → to ≡ after q (place n) → PlaceAllows s q at before was now (Some (to, read, next))
    placed {n} y v i = record { how = record { count = n; stands = y; state = i; puts = rw (bound-unbounded unbounded refl) at v } }
