-- What the test of a marking accepts, and that a movement keeps it.
use Prim.Native.Nat.{ℕ, ◌+◌, ◌<◌}
use mathlib.Core.Path.{◌≡◌, sym, ◌∙◌}
use mathlib.Core.List.{List}
use mathlib.Core.Logic.{◌↔◌}
use mathlib.Core.Option.{none}
use lib.ListN.{length}
use lib.Seq.{ext_get_or}
use native.Mathlib.Omega.{arith}
use borrow.Author.Tests.{eqb-true, eq-eqb, not-false}
use Rattle.model.specs.declared.Mode.{Mode}
use Rattle.model.specs.Numbers.{fin, limit}
use Rattle.model.specs.Rows.{no_arc, Row}
use Rattle.model.specs.Allows.{Allows}
use Rattle.model.specs.Nets.{PNet, pairs, K, count, row}
use Rattle.model.specs.Markings.{marking_refusal, Marking}
use Rattle.model.specs.Firing.{after, rooms, fired_row, fired}
use Rattle.movement.specs.Promises.{ModeRule, MarkingAfter, WithoutArcs, MarkingTest, MarkingKept}
use Rattle.model.proofs.First.{left-none, right-none, none_then, first-each, first-all, only_if_none}
use Rattle.model.proofs.Numbers.{above_false, false_above, le_le∞}
use Rattle.movement.proofs.Rooms.{within-room, kept-within, allows_is}
use Rattle.movement.proofs.Nets.{entry-unwritten}
use Rattle.model.proofs.Tables.{table-length, table_at}
use Rattle.model.proofs.Firing.{after_follows, Conditions, passes_conditions, conditions_pass, accepted-there, accepted-passes, accepted-enough, passes-accepted}

accepted-marking : (net : PNet) (m : List ℕ) → marking_refusal net m ≡ none → Marking net m
unfolding marking_refusal
accepted-marking net m e =
    let each = first-each (pairs net) _ (right-none _ _ e) in
    record {
      one_each = eqb-true (length m) (pairs net) (not-false _ (only_if_none _ _ (left-none _ _ e)));
      in_range = λ p h. above_false (count m p) (fin limit) (only_if_none _ _ (left-none _ _ (each p h)));
      within = λ p h. above_false (count m p) (K net p) (only_if_none _ _ (right-none _ _ (each p h)));
    }

marking-accepted : (net : PNet) (m : List ℕ) → Marking net m → marking_refusal net m ≡ none
unfolding marking_refusal
marking-accepted net m h =
    none_then (rw (eq-eqb (length m) (pairs net) h.one_each))
    (first-all (pairs net) _
    (λ p l. none_then (rw (false_above (count m p) (fin limit) (h.in_range p l))) (rw (false_above (count m p) (K net p) (h.within p l)))))

pub marking-test : MarkingTest
marking-test net m = (accepted-marking net m, marking-accepted net m)

-- what firing writes, accepted or not
module _ (n : ℕ) (r : Row) (m : List ℕ) where
  pub row-fired-at : (p : ℕ) → p < n → count (fired_row n r m) p ≡ after (r p) (count m p)
  row-fired-at p h = table_at n _ 0 p h

  pub row-fired-length : length (fired_row n r m) ≡ n
  row-fired-length = table-length n _

module _ (net : PNet) (t : Mode) (m : List ℕ) where
  pub fired-at : (p : ℕ) → p < pairs net → count (fired net t m) p ≡ after (row net t p) (count m p)
  unfolding fired
  fired-at = row-fired-at (pairs net) (row net t) m

  pub fired-length : length (fired net t m) ≡ pairs net
  unfolding fired
  fired-length = row-fired-length (pairs net) (row net t) m

pub marking-after : MarkingAfter
marking-after about net t m e = (λ p h. rw (fired-at net t m p h) (after_follows (row net t p) (count m p) (accepted-enough about net t m e p h)), fired-length net t m)

pub mode-rule : ModeRule
mode-rule about net t m = (
  λ e. (accepted-there about net t m e, is.0 (passes_conditions (accepted-passes about net t m e)), λ p h. rw (fired-at net t m p h) ((accepted-passes about net t m e).small p h)),
  λ r. passes-accepted about net t m r.0 (conditions_pass (is.1 r.1) (λ p h. rw (fired-at net t m p h) at (r.2 p h))),
)
  where
    is : Conditions (pairs net) (rooms net (row net t)) (row net t) (count m) ↔ Allows net.rule (pairs net) (K net) (row net t) (count m)
    is = allows_is net.rule (pairs net) (K net) (row net t) (count m)

pub marking-kept : MarkingKept
marking-kept about net t m h e =
    record {
      one_each = fired-length net t m;
      in_range = λ p l. rw (fired-at net t m p l) ((accepted-passes about net t m e).small p l);
      within = λ p l.
          rw (fired-at net t m p l)
          (kept-within net.rule (K net p) (row net t p) (count m p) (accepted-enough about net t m e p l) ((accepted-passes about net t m e).room p l));
    }

-- nothing stands anywhere in the row of a mode without arcs
pub without-arcs : WithoutArcs
without-arcs about net t m there none-own h = (
  passes-accepted about net t m there
      (record {
        enough = λ p l. rw (bare p) (omega arith);
        room = λ p l. rw (bare p) (within-room net.rule (K net p) 0 (count m p + 0) (le_le∞ (count m p + 0) (count m p) (K net p) (omega arith) (h.within p l)));
        low = λ p l. rw (bare p) tt;
        small = λ p l. rw (bare p) (omega (arith, h.in_range p l));
      }),
  ext_get_or 0 (fired net t m) m (fired-length net t m ∙ sym h.one_each)
      (λ p l. fired-at net t m p (rw (fired-length net t m) at l) ∙ rw (bare p) (omega arith)),
)
  where
    bare : (p : ℕ) → row net t p ≡ no_arc
    bare p = entry-unwritten t p net.arcs (λ k l s. none-own k l s.0)
