-- The sums at one pair, read as an arc, say there what the step says; and the marking is written pair by pair.
use Prim.Native.Nat.{ℕ, ◌+◌, ◌*◌, ◌≤◌, ◌<◌}
use mathlib.Core.Path.{◌≡◌, refl, sym, ◌∙◌, ap, ap₂}
use mathlib.Core.Bool.{Bool, true, false}
use mathlib.Core.List.{List}
use lib.ListN.{length, set}
use lib.Seq.{get_or-set_same, get_or-set_other, ext_get_or}
use borrow.Author.Count.{below_more}
use native.Mathlib.Omega.{arith}
use Rattle.model.specs.declared.Arc.{Arc}
use Rattle.model.specs.declared.Pair.{Pair}
use Rattle.model.specs.declared.Thing.TheVariants.{Argument}
use Rattle.model.specs.declared.Why.{Why}
use Rattle.model.specs.declared.Why.TheVariants.{Lacking, OverCapacity, Inhibited, OverLimit}
use Rattle.model.specs.declared.Fault.TheVariants.{Stopped}
use Rattle.model.specs.Refusals.{Answer}
use Rattle.std.specs.Prelude.{Ok, Err}
use Rattle.model.specs.First.{◌▸◌, first}
use Rattle.model.specs.Refusals.{answer, wrong}
use Rattle.model.specs.Numbers.{ℕ∞, limit}
use Rattle.model.specs.Rows.{Entry, Row}
use Rattle.model.specs.Nets.{PNet, pairs, K, count}
use Rattle.model.specs.Markings.{Marking}
use Rattle.model.specs.Firing.{after, stops, stopped_by, rule_refusal, row_refusal, fired_row, room_for, rooms, room_at}
use Rattle.model.proofs.First.{then_assoc}
use Rattle.movement.proofs.Markings.{row-fired-at, row-fired-length}
use Rattle.fields.specs.Numbers.{bound}
use Rattle.opened.specs.declared.shape.NetShape.{NetShape}
use Rattle.sheets.specs.Decoded.{net_of, net_arc}
use Rattle.opened.specs.Shape.{Open}
use Rattle.opened.proofs.Shapes.{sizes}
use Rattle.rule.specs.AtPair.{Counted}
use Rattle.fire.specs.step.Sums.{Below, SumIs, stop_at, stop_of, refusal_of}

module _ {s : List ℕ} {net : NetShape} (o : Open s net) where
  pub stop_is : (why : Why) (r : Row) (m : List ℕ) → first net.pairs (stop_at why (net_of s) r m) ≡ stop_of why (net_of s) r m
  unfolding stop_at stop_of
  stop_is why r m = rw (sizes o).pairs

  -- the sums at a pair are those of at most 64 arcs
  pub summed : {r : Row} {p : ℕ} {a : Arc} → Below 64 (pairs (net_of s)) r → p < net.pairs → SumIs r p a → (a.pair.0 < net.pairs) × (a.pre ≤ 64 * limit)
  summed {p = p} below h sum =
      (omega (arith, ap (λ x. x.0) sum.pair), omega (arith, below.each p (rw (sizes o).pairs at h), ap (λ e. e.pre) sum.entry))

  module _ {m : List ℕ} (marking : Marking (net_of s) m) {r : Row} {p : ℕ} {a : Arc} where
    -- Post of the sums and the count stay in 32 bits
    pub counted : Below 64 (pairs (net_of s)) r → p < net.pairs → SumIs r p a → Counted a (count m p)
    counted below h sum =
        let inside = rw (sizes o).pairs at h in
        record { post = omega (arith, below.each p inside, ap (λ e. e.post) sum.entry); count = marking.in_range p inside }

module _ (net : PNet) (m : List ℕ) (k : ℕ) {r : Row} {p : ℕ} {a : Arc} (sum : SumIs r p a) (room : bound k ≡ room_at net (net_arc a)) (why : Why) {test : Bool}
    (tested : test ≡ stops why (net_arc a).entry (bound k) (count m p)) where
  -- what is said of the arc that was read is said of the sums
  sums_as : {A : Type 0} (f : Entry → ℕ∞ → ℕ → A) → f (net_arc a).entry (bound k) (count m p) ≡ f (r p) (rooms net r p) (count m p)
  sums_as f =
      ap (λ (e : Entry). f e (bound k) (count m p)) sum.entry
      ∙ ap (λ (b : ℕ∞). f (r p) b (count m p)) (room ∙ ap₂ (λ (x : Pair) (e : Entry). room_for net.rule (K net x.0) e.pre) sum.pair sum.entry)

  tests : test ≡ stops why (r p) (rooms net r p) (count m p)
  tests = tested ∙ sums_as (stops why)

  pub stop-found : {x : Answer} {n : ℕ} → test ≡ true → n ≡ stopped_by why (net_arc a).entry (bound k) (count m p)
      → x ≡ Err (wrong Argument (Stopped why a.pair n)) → x ≡ answer (stop_at why net r m p)
  unfolding stop_at
  stop-found {n = n} e f q =
      rw (sym tests ∙ e, ← (f ∙ sums_as (stopped_by why))) (q ∙ ap (λ (x : Pair). Err (wrong Argument (Stopped why x n))) sum.pair)

  pub stop-passed : test ≡ false → (Ok tt) ≡ answer (stop_at why net r m p)
  unfolding stop_at
  stop-passed e = rw (sym tests ∙ e)

-- "11, 12, 13, 14 over the sums": what is found is the first of the four in turn
pub in_order_lem : (net : PNet) (r : Row) (m : List ℕ)
    → stop_of Lacking net r m ▸ stop_of OverCapacity net r m ▸ stop_of Inhibited net r m ▸ stop_of OverLimit net r m ≡ refusal_of net r m
unfolding stop_of refusal_of row_refusal rule_refusal
in_order_lem net r m = rw (then_assoc, then_assoc)

-- the pairs before p hold M - Pre + Post, the others M
pub record Moved (r : Row) (p : ℕ) (old new : List ℕ) : Type 0 where
  pub done : (q : ℕ) → q < p → count new q ≡ after (r q) (count old q)
  pub rest : (q : ℕ) → p ≤ q → count new q ≡ count old q

pub move_none : {r : Row} {m : List ℕ} → Moved r 0 m m
move_none = record { done = λ q h. absurd (omega arith); rest = λ q h. refl }

pub move_more : {r : Row} {p x : ℕ} {old new : List ℕ} → p < length new → Moved r p old new → x ≡ after (r p) (count new p) → Moved r (p + 1) old (set new p x)
move_more {r} {p} {x} {old} {new} h moved e =
    record {
      done =
          below_more (λ q. count (set new p x) q ≡ after (r q) (count old q)) p
          (λ q l. get_or-set_other new p q x 0 (λ s. omega arith) ∙ moved.done q l)
          (get_or-set_same new p x 0 h ∙ e ∙ ap (after (r p)) (moved.rest p (omega arith)));
      rest = λ q l. get_or-set_other new p q x 0 (λ s. omega arith) ∙ moved.rest q (omega arith);
    }

module _ {s : List ℕ} {net : NetShape} (o : Open s net) {old : List ℕ} (marking : Marking (net_of s) old) {r : Row} {p : ℕ} {new : List ℕ} where
  pub still_counted : Below 64 (pairs (net_of s)) r → p < net.pairs → {a : Arc} → SumIs r p a → Moved r p old new → Counted a (count new p)
  still_counted below h sum moved = rw (moved.rest p (omega arith)) (counted o marking below h sum)

  pub move_all : p ≤ net.pairs → net.pairs ≤ p → length new ≡ length old → Moved r p old new → new ≡ fired_row (pairs (net_of s)) r old
  move_all h l e moved =
      let n = pairs (net_of s) in
      let size = (sizes o).pairs in
      let each = marking.one_each in
      ext_get_or 0 new (fired_row n r old) (e ∙ each ∙ sym (row-fired-length n r old))
      (λ q b.
      let inside : q < n = omega arith in
      moved.done q (omega arith) ∙ sym (row-fired-at n r old q inside))
