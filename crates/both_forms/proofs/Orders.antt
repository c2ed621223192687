-- Modes whose arcs share no pair: neighbours in a list change places, and so two lists interleave as they will.
use Prim.Native.Nat.{ℕ, ◌+◌, ◌<◌}
use mathlib.Core.Path.{◌≡◌, refl, sym, ◌∙◌}
use mathlib.Core.List.{List, [], ◌∷◌, ◌++◌, Memᴰ}
use mathlib.Core.Logic.{◌↔◌, ◌⊎◌, inl, inr, ⊎_elim}
use mathlib.Core.Option.{none}
use lib.Seq.{ext_get_or}
use native.Mathlib.Omega.{arith}
use Rattle.model.specs.declared.Mode.{Mode}
use Rattle.model.specs.declared.Thing.TheVariants.{Movements}
use Rattle.model.specs.Rows.{no_arc}
use Rattle.model.specs.Nets.{PNet, pairs, K, count, row}
use Rattle.model.specs.Markings.{Marking}
use Rattle.model.specs.Firing.{mode_refusal, fired}
use Rattle.movement.specs.Promises.{Leads, moves}
use Rattle.both_forms.specs.Orders.{Apart, EndAlike, Orders, Interleaved, ends, left, right, AllApart, Interleavings}
use Rattle.model.proofs.Numbers.{le_le∞}
use Rattle.movement.proofs.Rooms.{within-room}
use Rattle.model.proofs.Firing.{accepted-there, accepted-passes, passes-accepted}
use Rattle.movement.proofs.Markings.{fired-at, fired-length, marking-kept}
use Rattle.movement.proofs.Runs.{run-leads, leads-whole}
use Rattle.both_forms.proofs.ArcByArc.{arc_for, entry_in}

-- at each pair one of the two has no arc
abbrev RowsApart : PNet → Mode → Mode → Type 0
RowsApart net t u = (p : ℕ) → (row net t p ≡ no_arc) ⊎ (row net u p ≡ no_arc)

rows_apart : (net : PNet) (t u : Mode) → Apart net t u → RowsApart net t u
rows_apart net t u apart p =
    ⊎_elim inl
    (λ here. ⊎_elim inr (λ there. absurd (apart (arc_for t p (row net t p)) (arc_for u p (row net u p)) (here, omega arith) (there, omega arith) refl)) (entry_in net.arcs u p))
    (entry_in net.arcs t p)

turned : (net : PNet) (t u : Mode) → RowsApart net t u → RowsApart net u t
turned net t u apart p = ⊎_elim inr inl (apart p)

-- an accepted mode is accepted where only counts differ at which it has no arc
unmoved : (net : PNet) (u : Mode) (m m' : List ℕ) → mode_refusal Movements net u m ≡ none → Marking net m'
    → ((p : ℕ) → p < pairs net → (count m' p ≡ count m p) ⊎ (row net u p ≡ no_arc)) → mode_refusal Movements net u m' ≡ none
unmoved net u m m' f marking alike =
    let h = accepted-passes Movements net u m f in
    passes-accepted Movements net u m' (accepted-there Movements net u m f)
    (record {
      enough = λ p l. ⊎_elim (λ s. rw s (h.enough p l)) (λ n. rw n (omega arith)) (alike p l);
      room = λ p l.
          ⊎_elim (λ s. rw s (h.room p l))
          (λ n. rw n (within-room net.rule (K net p) 0 _ (le_le∞ (count m' p + 0) (count m' p) (K net p) (omega arith) (marking.within p l)))) (alike p l);
      low = λ p l. ⊎_elim (λ s. rw s (h.low p l)) (λ n. rw n tt) (alike p l);
      small = λ p l. ⊎_elim (λ s. rw s (h.small p l)) (λ n. rw n (omega (arith, marking.in_range p l))) (alike p l);
    })

-- t then u: each is accepted at m and after the other, and both orders give one marking
module _ (net : PNet) (t u : Mode) (apart : RowsApart net t u) (m : List ℕ) (marking : Marking net m) where
  same_or_none : (p : ℕ) → p < pairs net → (count (fired net t m) p ≡ count m p) ⊎ (row net u p ≡ no_arc)
  same_or_none p h = ⊎_elim (λ n. inl (fired-at net t m p h ∙ rw n (omega arith))) inr (apart p)

  after-before : mode_refusal Movements net u (fired net t m) ≡ none → mode_refusal Movements net u m ≡ none
  after-before f = unmoved net u (fired net t m) m f marking (λ p h. ⊎_elim (λ s. inl (sym s)) inr (same_or_none p h))

  before-after : mode_refusal Movements net t m ≡ none → mode_refusal Movements net u m ≡ none → mode_refusal Movements net u (fired net t m) ≡ none
  before-after e f = unmoved net u m (fired net t m) f (marking-kept Movements net t m marking e) same_or_none

  one-marking : fired net u (fired net t m) ≡ fired net t (fired net u m)
  one-marking =
      ext_get_or 0 _ _ (fired-length net u (fired net t m) ∙ sym (fired-length net t (fired net u m)))
      (λ p h.
      let l : p < pairs net = rw (fired-length net u (fired net t m)) at h in
      rw (fired-at net u (fired net t m) p l, fired-at net t (fired net u m) p l, fired-at net t m p l, fired-at net u m p l)
      (⊎_elim (λ n. rw n (omega arith)) (λ n. rw n (omega arith)) (apart p)))

-- two lists that lead alike from every marking
module _ (net : PNet) where
  abbrev LeadAlike : List Mode → List Mode → Type 0
  LeadAlike vs ws = (m : List ℕ) → Marking net m → (m' : List ℕ) → Leads net vs m m' ↔ Leads net ws m m'

  same : (vs : List Mode) → LeadAlike vs vs
  same vs m marking m' = (λ l. l, λ l. l)

  back : {vs ws : List Mode} → LeadAlike vs ws → LeadAlike ws vs
  back h m marking m' = ((h m marking m').1, (h m marking m').0)

  through : {vs ws xs : List Mode} → LeadAlike vs ws → LeadAlike ws xs → LeadAlike vs xs
  through h k m marking m' = (λ l. (k m marking m').0 ((h m marking m').0 l), λ l. (h m marking m').1 ((k m marking m').1 l))

  -- one movement before both
  onward : {t : Mode} {vs ws : List Mode} {m m' : List ℕ} → ((m : List ℕ) → Marking net m → (m' : List ℕ) → Leads net vs m m' → Leads net ws m m')
      → Marking net m → Leads net (t ∷ vs) m m' → Leads net (t ∷ ws) m m'
  onward {t} h marking (moves {m = m} e l) = moves e (h (fired net t m) (marking-kept Movements net t m marking e) _ l)

  next : (t : Mode) {vs ws : List Mode} → LeadAlike vs ws → LeadAlike (t ∷ vs) (t ∷ ws)
  next t h m marking m' = (onward (λ m k m'. (h m k m').0) marking, onward (λ m k m'. (h m k m').1) marking)

  -- neighbours change places
  swap : (t u : Mode) → RowsApart net t u → {ts : List Mode} {m m' : List ℕ} → Marking net m → Leads net (t ∷ u ∷ ts) m m' → Leads net (u ∷ t ∷ ts) m m'
  swap t u apart {m = m} marking (moves e (moves f l)) =
      let first = after-before net t u apart m marking f in
      moves first (moves (before-after net u t (turned net t u apart) m marking first e) (rw (one-marking net t u apart m marking) at l))

  swaps : (t u : Mode) (ts : List Mode) → RowsApart net t u → LeadAlike (t ∷ u ∷ ts) (u ∷ t ∷ ts)
  swaps t u ts apart m marking m' = (swap t u apart marking, swap u t (turned net t u apart) marking)

  -- u goes past a list that is apart from it
  past : (u : Mode) (ts us : List Mode) → ((t : Mode) → Memᴰ t ts → RowsApart net u t) → LeadAlike (u ∷ ts ++ us) (ts ++ u ∷ us)
  past u [] us clear = same (u ∷ us)
  past u (t ∷ ts) us clear = through (swaps u t (ts ++ us) (clear t (Memᴰ.head refl))) (next t (past u ts us (λ v h. clear v (Memᴰ.tail h))))

  -- an interleaving leads where the one list and then the other leads
  gathered : {ts us vs : List Mode} → AllApart net ts us → Interleaved ts us vs → LeadAlike vs (ts ++ us)
  gathered apart ends = same []
  gathered apart (left {t} i) = next t (gathered (λ v w h. apart v w (Memᴰ.tail h)) i)
  gathered apart (right {u} {ts} {us} i) =
      through (next u (gathered (λ v w h k. apart v w h (Memᴰ.tail k)) i))
      (past u ts us (λ v h. turned net v u (rows_apart net v u (apart v u h (Memᴰ.head refl)))))

  -- lists that lead alike end alike
  end-alike : (vs ws : List Mode) → LeadAlike vs ws → (m : List ℕ) → Marking net m → EndAlike net vs ws m
  end-alike vs ws h m marking =
      record {
        accepted = (λ e. (leads-whole ((h m marking _).0 (run-leads net vs m e))).0, λ e. (leads-whole ((h m marking _).1 (run-leads net ws m e))).0);
        marking = λ e. sym (leads-whole ((h m marking _).0 (run-leads net vs m e))).1;
      }

pub orders : Orders
orders net t u apart m marking = end-alike net _ _ (swaps net t u [] (rows_apart net t u apart)) m marking

pub interleavings : Interleavings
interleavings net ts us vs ws apart i j m marking = end-alike net vs ws (through net (gathered net apart i) (back net (gathered net apart j))) m marking
