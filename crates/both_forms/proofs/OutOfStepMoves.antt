-- Along a list an audit finds none, and a movement recorded as a mark shows.
use Prim.Native.Nat.{ℕ, zero, suc, ◌+◌, ◌<◌}
use mathlib.Core.Path.{◌≡◌, refl, sym, ◌∙◌, ap, ap₂}
use mathlib.Core.Bool.{Bool, true, false≢true, ◌&&◌, ◌||◌}
use mathlib.Core.List.{List}
use mathlib.Core.Option.{none}
use lib.Dec.{ltb}
use lib.IntN.{pos}
use borrow.Author.Tests.{lt-ltb}
use native.Mathlib.Omega.{arith}
use Rattle.model.specs.declared.Mode.{Mode}
use Rattle.model.specs.declared.Thing.{Thing}
use Rattle.model.specs.Numbers.{ℕ∞, fin, ∞}
use Rattle.model.specs.Nets.{PNet, pairs, K, count, row}
use Rattle.model.specs.Firing.{mode_refusal, fired}
use Rattle.second_form.specs.Complement.{finite, complement_pair, all_pairs, complement, refusal15, complement_refusal, Corresponds}
use Rattle.second_form.specs.DemandThree.{Complementable}
use Rattle.both_forms.specs.Audit.{strays, excess_of, count_beside, out_of_step, excess, AuditAlong, marked, takes, takes_beside, MarkShows}
use Rattle.model.proofs.First.{left-none}
use Rattle.model.proofs.Tables.{table_at}
use Rattle.model.proofs.Firing.{accepted-there, accepted-enough}
use Rattle.movement.proofs.Markings.{fired-at}
use Rattle.second_form.proofs.Bounded.{bounded-number}
use Rattle.second_form.proofs.ComplementNet.{pairs-complement}
use Rattle.second_form.proofs.Figure64.{figure_64}
use Rattle.second_form.proofs.CorrespondingMoves.{accepts, move_corresponds}
use Rattle.second_form.proofs.Demand3.{runs-alike}
use Rattle.both_forms.proofs.OutOfStep.{in_step_lem, audited_as, strays-by, excess_zero, excess-over, excess-both, difference-more}

-- 15 was not given
no15 : (net : PNet) (c : Complementable net) → refusal15 c.offset net ≡ none
unfolding complement_refusal
no15 net c = left-none (refusal15 c.offset net) _ c.accepted

pub audit-along : AuditAlong
audit-along net ok ts m m' c =
    in_step_lem net _ _ (runs-alike net ok.well_formed ok.offset (no15 net ok) ts m m' c).marking

-- a mark is what the movement gives, with what it takes on top
marked-over : (about : Thing) (net : PNet) (t : Mode) (m : List ℕ) → mode_refusal about net t m ≡ none → (p : ℕ) → p < pairs net
    → count (marked net t m) p ≡ count (fired net t m) p + takes net t p
marked-over about net t m e p h =
    rw (table_at (pairs net) (λ p. count m p + (row net t p).post) 0 p h, fired-at net t m p h) (omega (arith, accepted-enough about net t m e p h))

module _ (about : Thing) (net : PNet) (ok : Complementable net) (t : Mode) (m m' : List ℕ) (c : Corresponds net m m') (e : mode_refusal about net t m ≡ none) where
  moved : Corresponds net (fired net t m) (fired (complement net) t m')
  moved = move_corresponds net ok.well_formed ok.offset (no15 net ok) about t m m' c e

  accepted' : mode_refusal about (complement net) t m' ≡ none
  accepted' = accepts net ok.well_formed ok.offset (no15 net ok) about t m m' c e

  excess-marked : (p : ℕ) → p < pairs net → excess net (marked net t m) (fired (complement net) t m') p ≡ pos (takes net t p)
  excess-marked p h =
      excess-over _ _ _ (K net p) (count (fired net t m) p) (takes net t p) (marked-over about net t m e p h) (moved.equal p h) (λ j f. moved.add_up p j h f)

  -- an original pair, and the complement of a bounded pair, marked in the complement
  same-marked : (p : ℕ) → p < pairs net → count (marked (complement net) t m') p ≡ count (marked net t m) p
  same-marked p h =
      marked-over about (complement net) t m' accepted' p (rw pairs-complement (omega arith))
      ∙ ap₂ ◌+◌ (moved.equal p h) (ap (λ x. x.pre) ((figure_64 net).originals t p (accepted-there about net t m e) h))
      ∙ sym (marked-over about net t m e p h)

  beside-marked : (p k : ℕ) → p < pairs net → K net p ≡ fin k
      → count (marked net t m) p + count_beside net (marked net t m) (marked (complement net) t m') p ≡ k + (takes net t p + takes_beside net t p)
  beside-marked p k h f =
      let q = complement_pair (pairs net) (K net) p in
      let l : q < all_pairs net = omega (arith, bounded-number (K net) (pairs net) p k h f) in
      rw (marked-over about net t m e p h, marked-over about (complement net) t m' accepted' q (rw pairs-complement l)) (omega (arith, moved.add_up p k h f))

  abbrev both_at : ℕ → Bool
  both_at p = finite (K net p) && (ltb 0 (takes net t p) || ltb 0 (takes_beside net t p))

  shows_both : (p : ℕ) → p < pairs net
      → (out_of_step net (marked net t m) (marked (complement net) t m') p ≡ both_at p)
      × (both_at p ≡ true → excess net (marked net t m) (marked (complement net) t m') p ≡ pos (takes net t p + takes_beside net t p))
  shows_both p h = go (K net p) refl
    where
      n : ℕ
      n = count (marked net t m) p

      n' : ℕ
      n' = count (marked (complement net) t m') p

      b : ℕ
      b = count_beside net (marked net t m) (marked (complement net) t m') p

      either : (x y : ℕ) → ltb 0 (x + y) ≡ (ltb 0 x || ltb 0 y)
      either zero y = let z : 0 + y ≡ y = omega arith in rw z
      either (suc x) y = rw (lt-ltb 0 (suc x) (omega arith)) (lt-ltb 0 (suc x + y) (omega arith))

      go : (k : ℕ∞) → K net p ≡ k
          → (strays k n n' b ≡ (finite k && (ltb 0 (takes net t p) || ltb 0 (takes_beside net t p))))
          × ((finite k && (ltb 0 (takes net t p) || ltb 0 (takes_beside net t p))) ≡ true → excess_of k n n' b ≡ pos (takes net t p + takes_beside net t p))
      go (fin k) f =
          let is = excess-both n n' b k (takes net t p + takes_beside net t p) (same-marked p h) (beside-marked p k h f) in
          (strays-by n n' b (fin k) _ is ∙ either (takes net t p) (takes_beside net t p), λ _. is)
      go ∞ f = (excess_zero n n' b ∞ (difference-more n n' 0 (omega (arith, same-marked p h))), λ z. absurd (false≢true z))

pub mark_shows_lem : MarkShows
mark_shows_lem about net ok t m m' c e =
    record {
      in_net =
          audited_as net (marked net t m) (fired (complement net) t m') _ _
          (λ p h. strays-by _ _ _ (K net p) (takes net t p) (excess-marked about net ok t m m' c e p h))
          (λ p h _. excess-marked about net ok t m m' c e p h);
      in_both =
          audited_as net (marked net t m) (marked (complement net) t m') _ _
          (λ p h. (shows_both about net ok t m m' c e p h).0)
          (λ p h. (shows_both about net ok t m m' c e p h).1);
    }
