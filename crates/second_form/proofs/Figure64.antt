-- The complemented net is figure 6.4's of source document 000: document 01's lines are its, over the integers, and stand at its pairs.
use Prim.Native.Nat.{ℕ, ◌+◌, ◌-◌, ◌≤◌, ◌<◌, max}
use mathlib.Core.Path.{◌≡◌, refl, sym, ◌∙◌, ap}
use mathlib.Core.Bool.{Bool, true, false, true≢false}
use mathlib.Core.List.{◌++◌}
use mathlib.Core.Logic.{⊎_elim}
use lib.ListN.{replicate}
use lib.IntN.{ℤ, pos, neg_ℤ, ◌+ℤ◌, ◌-ℤ◌, +ℤ_assoc, +ℤ_comm, +ℤ_idl, +ℤ_invr, neg_ℤ-+ℤ, neg_ℤ-neg_ℤ}
use lib.Signed.{lt_z}
use native.Mathlib.Omega.{arith}
use borrow.Author.Tests.{ltb-true, ltb-false}
use Rattle.model.specs.declared.CapacityRule.{CapacityRule}
use Rattle.model.specs.declared.CapacityRule.TheVariants.{Strong}
use Rattle.model.specs.Numbers.{ℕ∞, fin, ∞}
use Rattle.model.specs.Rows.{Entry}
use Rattle.model.specs.Nets.{pairs, K, row}
use Rattle.model.specs.Billington.{◌∩◌, IK}
use Rattle.second_form.specs.Dead.{is_dead}
use Rattle.second_form.specs.Complement.{complement_pair, reserve, complement_pre, complement_post, complement_entry, complement}
use Rattle.second_form.specs.Promises.{Beside, Figure64}
use Rattle.model.proofs.First.{below_or}
use Rattle.model.proofs.Numbers.{minus_is, minus-below}
use Rattle.movement.proofs.Integers.{pos_after}
use Rattle.second_form.proofs.Bounded.{bounded-number}
use Rattle.second_form.proofs.ComplementRow.{reserve-is, row-original, row-complement}
use Rattle.second_form.proofs.ComplementNet.{new-places, pairs-complement, rows-complement, first-corresponds}

-- a - (a - b) is b
minus-back : (a b : ℤ) → a -ℤ (a -ℤ b) ≡ b
minus-back a b =
    ap (λ x. a +ℤ x) (neg_ℤ-+ℤ a (neg_ℤ b)) ∙ sym (+ℤ_assoc a (neg_ℤ a) (neg_ℤ (neg_ℤ b))) ∙ ap (λ x. x +ℤ neg_ℤ (neg_ℤ b)) (+ℤ_invr a) ∙ +ℤ_idl (neg_ℤ (neg_ℤ b))
    ∙ neg_ℤ-neg_ℤ b

-- K - Post below I, and not below I
room-below : (k post i : ℕ) → lt_z (pos k -ℤ pos post) (pos i) ≡ true → k - i ≤ post
room-below k post i e =
    ⊎_elim (λ (l : k < post). omega arith) (λ (l : post ≤ k). omega (arith, ltb-true (k - post) i (rw (minus_is k post l) at e))) (below_or k post)

room-above : (k post i : ℕ) → lt_z (pos k -ℤ pos post) (pos i) ≡ false → i + post ≤ k
room-above k post i e =
    ⊎_elim (λ (l : k < post). absurd (true≢false (rw (minus-below k post l) at e)))
    (λ (l : post ≤ k). omega (arith, ltb-false (k - post) i (rw (minus_is k post l) at e)))
    (below_or k post)

larger-is : (k post : ℕ) (i : ℕ∞) → pos (max post (reserve k i)) ≡ pos k -ℤ ((pos k -ℤ pos post) ∩ i)
larger-is k post (fin i) = rw reserve-is (go (lt_z (pos k -ℤ pos post) (pos i)) refl)
  where
    go : (b : Bool) → lt_z (pos k -ℤ pos post) (pos i) ≡ b → pos (max post (k - i)) ≡ pos k -ℤ ((pos k -ℤ pos post) ∩ fin i)
    go true e = rw e (ap pos (omega (arith, room-below k post i e)) ∙ sym (minus-back (pos k) (pos post)))
    go false e = let h = room-above k post i e in rw e (ap pos (omega arith) ∙ sym (minus_is k i (omega arith)))
larger-is k post ∞ = ap pos (omega arith) ∙ sym (minus-back (pos k) (pos post))

-- document 01's lines at one complement pair
beside : (dead : Bool) (k : ℕ) (e : Entry) → Beside dead k e (complement_entry Strong dead (fin k) e)
beside dead k e =
    record {
      pre = larger-is k e.post e.inhibitor;
      post = λ alive.
          let order : complement_post Strong false k e ≡ complement_pre Strong k e - e.post + e.pre = omega arith in
          rw alive (ap pos order) ∙ pos_after (complement_pre Strong k e) e.post e.pre (omega arith)
          ∙ ap (λ x. x +ℤ (pos e.pre -ℤ pos e.post)) (larger-is k e.post e.inhibitor)
          ∙ +ℤ_comm (pos k -ℤ IK k e) (pos e.pre -ℤ pos e.post);
      post_of_dead = λ d. rw d;
      inhibitor = refl;
    }

beside-by : (rule : CapacityRule) → rule ≡ Strong → (dead : Bool) (k : ℕ) (e : Entry) → Beside dead k e (complement_entry rule dead (fin k) e)
beside-by rule strong dead k e = rw strong (beside dead k e)

pub figure_64 : Figure64
unfolding complement
figure_64 net =
    let n = pairs net in
    record {
      places = ap (λ new. net.colours ++ new) (new-places (K net) net.colours);
      same_modes = refl;
      unbounded = ap (λ n. replicate n ∞) (sym (pairs-complement net));
      start = first-corresponds net;
      originals = λ t p h l. rows-complement net t p h (omega arith) ∙ row-original net.rule (is_dead net t) n (K net) (row net t) p l;
      besides = λ strong t p k h l e.
          let pair = complement_pair n (K net) p in
          let is = rows-complement net t pair h (omega (arith, bounded-number (K net) n p k l e)) ∙ row-complement net.rule (is_dead net t) n (K net) (row net t) p k l e in
          rw is (beside-by net.rule strong (is_dead net t) k (row net t p));
    }
