-- The refusal table of firing, and Billington's rule.
use Prim.Native.Nat.{ℕ, ◌+◌, ◌-◌, ◌≤◌, ◌<◌}
use mathlib.Core.Path.{◌≡◌, refl, ◌∙◌, subst}
use mathlib.Core.List.{List}
use mathlib.Core.Logic.{◌↔◌, ◌⊎◌}
use mathlib.Core.Option.{none, some}
use lib.ListN.{length}
use native.Mathlib.Omega.{arith}
use borrow.Author.Tests.{leb-false, le-leb, lt-leb}
use Rattle.model.specs.declared.Mode.{Mode}
use Rattle.model.specs.declared.Thing.{Thing}
use Rattle.model.specs.declared.Thing.TheVariants.{Argument}
use Rattle.model.specs.declared.Why.{Why}
use Rattle.model.specs.declared.Why.TheVariants.{Lacking, OverCapacity, Inhibited, OverLimit}
use Rattle.model.specs.declared.Fault.TheVariants.{NotThere}
use Rattle.model.specs.declared.Refusal.{Refusal}
use Rattle.std.specs.Prelude.{Err}
use Rattle.model.specs.First.{◌▸◌, only_if, first, Lowest, NoneBelow}
use Rattle.model.specs.Refusals.{thing_number, carries_by, carried}
use Rattle.model.specs.RefusalTables.{Table, row as table_row, each, Reads, one_each_table, marking_table, missing_table, mode_table}
use Rattle.model.specs.Numbers.{ℕ∞, fin, ∞, Above, ◌≤∞◌, limit}
use Rattle.model.specs.Billington.{Enables}
use Rattle.model.specs.Rows.{Entry, Row, Capacities, Counts}
use Rattle.model.specs.Nets.{PNet, pairs, modes, K, count, row}
use Rattle.model.specs.Markings.{unequal, marking_refusal}
use Rattle.model.specs.Firing.{after, compared, stops, stopped_by, stopped, lowest_stop, rule_refusal, row_refusal, absent, rooms, mode_refusal}
use Rattle.model.specs.Promises.{RefusalTable, Rule}
use Rattle.model.proofs.First.{Decides, only_if_none, left-none, right-none, none_then, some_then, lowest-none, lowest-some, none-lowest, lowest_or_none}
use Rattle.model.proofs.Numbers.{above_true, true_above, not_above, le_not_above, le_as, le_room, room_le}
use Rattle.model.proofs.Decisions.{by_less, by-at-most, by_equal, by-above, by_not}
use Rattle.model.proofs.RefusalTables.{reads_plain, reads_then, reads-each, four}

-- one of 11 to 14 at one pair, where the mode has e, 12 compares with k and the count is m
abbrev pub Stops : Why → Entry → ℕ∞ → ℕ → Type 0
Stops why e k m = Above (compared why e k m).number (compared why e k m).bound

-- computed, before any law: 11 where 12 and 13 stop the mode too, and 14 where nothing else does
lacking-first : row_refusal Argument 1 (λ p. fin 1) (λ p. record { pre = 2; post = 1; inhibitor = fin 0 }) (λ p. 1) ≡ some (stopped Argument Lacking 0 1)
unfolding row_refusal rule_refusal ◌▸◌ first
lacking-first = refl

limit-last : row_refusal Argument 1 (λ p. ∞) (λ p. record { pre = 0; post = 1; inhibitor = ∞ }) (λ p. limit) ≡ some (stopped Argument OverLimit 0 1)
unfolding row_refusal rule_refusal ◌▸◌ first
limit-last = refl

-- M' = M - Pre(tr) + Post(tr), as `Follows` has it, at one pair
pub after_follows : (e : Entry) (m : ℕ) → e.pre ≤ m → after e m + e.pre ≡ m + e.post
after_follows e m enough = omega arith

after_is : (e : Entry) (m : ℕ) → after e m ≡ m - e.pre + e.post
after_is e m = omega arith

-- the three conditions at each pair, in document 01's words, where 12 compares with k
pub record Conditions (n : ℕ) (k : Capacities) (r : Row) (M : Counts) : Type 0 where
  pub enough : (p : ℕ) → p < n → (r p).pre ≤ M p
  pub room : (p : ℕ) → p < n → M p + (r p).post ≤∞ k p
  pub low : (p : ℕ) → p < n → M p ≤∞ (r p).inhibitor

-- an accepted row is four facts at each pair: with 14's
pub record Passes (n : ℕ) (k : Capacities) (r : Row) (M : Counts) : Type 0 where
  pub enough : (p : ℕ) → p < n → (r p).pre ≤ M p
  pub room : (p : ℕ) → p < n → M p + (r p).post ≤∞ k p
  pub low : (p : ℕ) → p < n → M p ≤∞ (r p).inhibitor
  pub small : (p : ℕ) → p < n → after (r p) (M p) ≤ limit

module _ {n : ℕ} {k : Capacities} {r : Row} {M : Counts} where
  pub conditions_enable : Conditions n k r M → Enables n k r M
  conditions_enable h =
      record {
        enough = h.enough;
        room = λ p l. le_room (M p) (r p).post (k p) (omega arith) (omega arith) (h.room p l);
        uninhibited = λ p l. le_as (r p).inhibitor (omega arith) (h.low p l);
      }

  pub enables_conditions : Enables n k r M → Conditions n k r M
  enables_conditions h =
      record {
        enough = h.enough;
        room = λ p l. room_le (M p) (r p).post (k p) (omega arith) (omega arith) (h.room p l);
        low = λ p l. le_as (r p).inhibitor (omega arith) (h.uninhibited p l);
      }

  pub passes_conditions : Passes n k r M → Conditions n k r M
  passes_conditions h = record { enough = h.enough; room = h.room; low = h.low }

  pub conditions_pass : Conditions n k r M → ((p : ℕ) → p < n → after (r p) (M p) ≤ limit) → Passes n k r M
  conditions_pass h small = record { enough = h.enough; room = h.room; low = h.low; small = small }

module _ (about : Thing) (n : ℕ) (k : Capacities) (r : Row) (M : Counts) where
  abbrev pub At : Why → ℕ → Type 0
  At why p = Stops why (r p) (k p) (M p)

  decides-stop : (why : Why) → Decides (λ p. stops why (r p) (k p) (M p)) (At why)
  decides-stop why =
      record {
        sound = λ p. above_true (compared why (r p) (k p) (M p)).number (compared why (r p) (k p) (M p)).bound;
        complete = λ p. true_above (compared why (r p) (k p) (M p)).number (compared why (r p) (k p) (M p)).bound;
      }

  -- what 11 to 14 say at one pair
  abbrev pub stop : Why → ℕ → Refusal
  stop why p = stopped about why p (stopped_by why (r p) (k p) (M p))

  pub none-stop : (why : Why) → NoneBelow n (At why) → lowest_stop about n k r M why ≡ none
  none-stop why = lowest-none (decides-stop why) (stop why) n

  pub lowest-stop : (why : Why) (p : ℕ) → Lowest n (At why) p → lowest_stop about n k r M why ≡ some (stop why p)
  lowest-stop why = lowest-some (decides-stop why) (stop why) n

  pub stop-none : (why : Why) → lowest_stop about n k r M why ≡ none → NoneBelow n (At why)
  stop-none why = none-lowest (decides-stop why) (stop why) n

  pub find-stop : (why : Why) → ((p : ℕ) × Lowest n (At why) p) ⊎ NoneBelow n (At why)
  find-stop why = lowest_or_none (decides-stop why) (stop why) n

  -- which of 11 to 14 a row is refused by
  abbrev pub No : Why → Type 0
  No why = NoneBelow n (At why)

  abbrev pub Low : Why → ℕ → Type 0
  Low why p = Lowest n (At why) p

  pub row11 : (p : ℕ) → Low Lacking p → row_refusal about n k r M ≡ some (stop Lacking p)
  unfolding row_refusal rule_refusal
  row11 p l = some_then _ (some_then _ (lowest-stop Lacking p l))

  pub row12 : (p : ℕ) → No Lacking → Low OverCapacity p → row_refusal about n k r M ≡ some (stop OverCapacity p)
  unfolding row_refusal rule_refusal
  row12 p a l = some_then _ (none_then (none-stop Lacking a) (some_then _ (lowest-stop OverCapacity p l)))

  pub row13 : (p : ℕ) → No Lacking → No OverCapacity → Low Inhibited p → row_refusal about n k r M ≡ some (stop Inhibited p)
  unfolding row_refusal rule_refusal
  row13 p a b l = some_then _ (none_then (none-stop Lacking a) (none_then (none-stop OverCapacity b) (lowest-stop Inhibited p l)))

  allowed : No Lacking → No OverCapacity → No Inhibited → rule_refusal about n k r M ≡ none
  unfolding rule_refusal
  allowed a b c = none_then (none-stop Lacking a) (none_then (none-stop OverCapacity b) (none-stop Inhibited c))

  pub row14 : (p : ℕ) → No Lacking → No OverCapacity → No Inhibited → Low OverLimit p → row_refusal about n k r M ≡ some (stop OverLimit p)
  unfolding row_refusal
  row14 p a b c l = none_then (allowed a b c) (lowest-stop OverLimit p l)

  pub row0 : No Lacking → No OverCapacity → No Inhibited → No OverLimit → row_refusal about n k r M ≡ none
  unfolding row_refusal
  row0 a b c d = none_then (allowed a b c) (none-stop OverLimit d)

  -- none of one number is found: at each pair, what it compares is not above its bound
  stays_within : (why : Why)
      → (lowest_stop about n k r M why ≡ none)
      ↔ ((p : ℕ) → p < n → (compared why (r p) (k p) (M p)).number ≤∞ (compared why (r p) (k p) (M p)).bound)
  stays_within why = (
    λ e p h. let c = compared why (r p) (k p) (M p) in le_not_above c.number c.bound (stop-none why e p h),
    λ f. none-stop why (λ p h. let c = compared why (r p) (k p) (M p) in not_above c.number c.bound (f p h)),
  )

  -- 14 aside
  pub row_conditions : (rule_refusal about n k r M ≡ none) ↔ Conditions n k r M
  unfolding rule_refusal
  row_conditions = (
    λ e.
        let over = right-none (lowest_stop about n k r M Lacking) _ e in
        record {
          enough = (stays_within Lacking).0 (left-none _ _ e);
          room = (stays_within OverCapacity).0 (left-none _ _ over);
          low = (stays_within Inhibited).0 (right-none _ _ over);
        },
    λ h.
        none_then ((stays_within Lacking).1 h.enough)
        (none_then ((stays_within OverCapacity).1 h.room) ((stays_within Inhibited).1 h.low)),
  )

  pub row-passes : (row_refusal about n k r M ≡ none) ↔ Passes n k r M
  unfolding row_refusal
  row-passes = (
    λ e. conditions_pass (row_conditions.0 (left-none _ _ e)) ((stays_within OverLimit).0 (right-none _ _ e)),
    λ h. none_then (row_conditions.1 (passes_conditions h)) ((stays_within OverLimit).1 h.small),
  )

-- 6: whether a mode is there
pub mode-there : (about : Thing) (n : ℕ) (t : Mode) → t.0 < n → absent about n t ≡ none
mode-there about n t h = rw (lt-leb n t.0 h)

pub mode-missing : (about : Thing) (n : ℕ) (t : Mode) → n ≤ t.0 → absent about n t ≡ some (record { thing = about; fault = NotThere })
mode-missing about n t h = rw (le-leb n t.0 h)

module _ (about : Thing) (net : PNet) (t : Mode) (m : List ℕ) where
  pub there : t.0 < modes net → mode_refusal about net t m ≡ row_refusal about (pairs net) (rooms net (row net t)) (row net t) (count m)
  unfolding mode_refusal
  there h = none_then (mode-there about (modes net) t h) refl

  pub missing : modes net ≤ t.0 → mode_refusal about net t m ≡ some (record { thing = about; fault = NotThere })
  unfolding mode_refusal
  missing h = some_then _ (mode-missing about (modes net) t h)

-- the tables of a marking and of a mode
pub one-each-reads : (net : PNet) (m : List ℕ) → Reads (one_each_table net m) (unequal net m)
one-each-reads net m = reads_plain _ (by_not (by_equal (length m) (pairs net)))

marking-reads : (net : PNet) (m : List ℕ) → Reads (marking_table net m) (marking_refusal net m)
unfolding marking_refusal
marking-reads net m =
    reads_then (one-each-reads net m)
    (reads-each (pairs net) (λ p l. reads_then (reads_plain _ (by_less limit (count m p))) (reads_plain _ (by-above (count m p) (K net p)))))

pub missing-reads : (about : Thing) (net : PNet) (t : Mode) → Reads (missing_table (thing_number about) net t) (absent about (modes net) t)
missing-reads about net t = reads_plain _ (by-at-most (modes net) t.0)

module _ (about : Thing) (net : PNet) (t : Mode) (m : List ℕ) where
  abbrev limit_row : ℕ → ℕ → Table
  limit_row p n = table_row (limit < n) (carries_by 14 (thing_number about) p (n - limit))

  abbrev limit_stop : ℕ → Refusal
  limit_stop = stop about (pairs net) (rooms net (row net t)) (row net t) (count m) OverLimit

  stop-reads : (why : Why)
      → Reads (each (pairs net) (λ p. table_row (Stops why (row net t p) (rooms net (row net t) p) (count m p)) (carried (Err (stop about (pairs net) (rooms net (row net t)) (row net t) (count m) why p)))))
      (lowest_stop about (pairs net) (rooms net (row net t)) (row net t) (count m) why)
  stop-reads why =
      reads-each (pairs net) (λ p l. let c = compared why (row net t p) (rooms net (row net t) p) (count m p) in reads_plain _ (by-above c.number c.bound))

  -- 14 reads the count after by its value, whatever its text
  limit-reads :
      Reads (each (pairs net) (λ p. limit_row p (count m p - (row net t p).pre + (row net t p).post)))
      (lowest_stop about (pairs net) (rooms net (row net t)) (row net t) (count m) OverLimit)
  limit-reads =
      reads-each (pairs net) (λ p l.
      subst (λ n. Reads (limit_row p n) (only_if (stops OverLimit (row net t p) (rooms net (row net t) p) (count m p)) (limit_stop p))) (after_is (row net t p) (count m p)) (reads_plain (limit_stop p) (by-above (after (row net t p) (count m p)) (fin limit))))

  mode-reads : Reads (mode_table (thing_number about) net t m) (mode_refusal about net t m)
  unfolding mode_refusal row_refusal rule_refusal
  mode-reads =
      reads_then (missing-reads about net t)
      (subst (Reads _) (four _ _ _ _)
      (reads_then (stop-reads Lacking) (reads_then (stop-reads OverCapacity) (reads_then (stop-reads Inhibited) limit-reads))))

pub refusal-table : RefusalTable
refusal-table = record { marking = marking-reads; mode = mode-reads }

pub rule : Rule
rule about n k r M = (λ e. conditions_enable ((row_conditions about n k r M).0 e), λ h. (row_conditions about n k r M).1 (enables_conditions h))

-- what an accepted movement shows at each pair
module _ (about : Thing) (net : PNet) (t : Mode) (m : List ℕ) (e : mode_refusal about net t m ≡ none) where
  pub accepted-there : t.0 < modes net
  unfolding mode_refusal
  accepted-there = leb-false (modes net) t.0 (only_if_none _ _ (left-none _ _ e))

  pub accepted-passes : Passes (pairs net) (rooms net (row net t)) (row net t) (count m)
  unfolding mode_refusal
  accepted-passes = (row-passes about (pairs net) _ (row net t) (count m)).0 (right-none _ _ e)

  pub accepted-enough : (p : ℕ) → p < pairs net → (row net t p).pre ≤ count m p
  accepted-enough = accepted-passes.enough

-- and what shows it accepted
pub passes-accepted : (about : Thing) (net : PNet) (t : Mode) (m : List ℕ) → t.0 < modes net
    → Passes (pairs net) (rooms net (row net t)) (row net t) (count m) → mode_refusal about net t m ≡ none
passes-accepted about net t m h passes = there about net t m h ∙ (row-passes about (pairs net) _ (row net t) (count m)).1 passes
