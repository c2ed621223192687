-- 19 is not given exactly where each K and each I is unbounded; in a complement each is.
use Prim.Native.Nat.{ℕ}
use mathlib.Core.Path.{◌≡◌, refl, sym, ap}
use mathlib.Core.Bool.{Bool, true, false, false≢true, not}
use mathlib.Core.List.{List}
use mathlib.Core.Option.{none}
use lib.ListN.{length}
use Rattle.model.specs.declared.Mode.{Mode}
use Rattle.model.specs.declared.Thing.TheVariants.{Net}
use Rattle.model.specs.declared.Fault.TheVariants.{NotUnbounded}
use Rattle.model.specs.First.{only_if}
use Rattle.model.specs.Lists.{list_if}
use Rattle.model.specs.Numbers.{ℕ∞, fin, ∞}
use Rattle.model.specs.Rows.{Entry, Row}
use Rattle.model.specs.Nets.{NetArc, PNet, pairs, modes, pair_no, mode_no, K, row}
use Rattle.second_form.specs.Dead.{is_dead}
use Rattle.second_form.specs.Complement.{finite, blank, written, all_pairs, arcs_of, complement}
use Rattle.model.specs.Refusals.{wrong}
use Rattle.movement.proofs.Each.{Each, each-joined, each_at}
use Rattle.model.proofs.First.{left-none, right-none, none_then, first-each, first-all, only_if_none}
use Rattle.second_form.proofs.ComplementNet.{capacity-complement}
use Rattle.second_form.proofs.ComplementRow.{row-uninhibited}
use Rattle.sheets.specs.nets.Nets.{net_refusal}
use Rattle.sheets.specs.Whole.{whole_net}
use Rattle.sheets.specs.Decoded.{net_of}
use Rattle.sheets.proofs.Accepted.{well_formed_lem}
use Rattle.opened.specs.Shape.{inhibitor_offset}
use Rattle.pnml.specs.Pnml.{Exportable}
use Rattle.export.specs.Exports.{bounded_capacity, bounded_inhibitor, capacity_offset, refusal19}
use Rattle.export.specs.Bounds.{capacity_refusal, inhibitor_refusal}
use Rattle.export.specs.Promises.{ExportsExactly, ComplementsExportable}

unbounded : (x : ℕ∞) → finite x ≡ false → x ≡ ∞
unbounded (fin k) e = absurd (false≢true (sym e))
unbounded ∞ e = refl

only-unbounded : (s : List ℕ) → whole_net s ≡ none → refusal19 s ≡ none → Exportable (net_of s)
unfolding whole_net refusal19 bounded_capacity bounded_inhibitor
only-unbounded s whole e =
    record {
      well_formed = well_formed_lem s (left-none (net_refusal s) _ whole);
      capacities = λ p h. unbounded _ (only_if_none _ _ (first-each (pairs (net_of s)) (capacity_refusal s) (left-none _ _ e) p h));
      inhibitors = λ k h. unbounded _ (only_if_none _ _ (first-each (length (net_of s).arcs) (inhibitor_refusal s) (right-none _ _ e) k h));
    }

all-unbounded : (s : List ℕ) → Exportable (net_of s) → refusal19 s ≡ none
unfolding refusal19 bounded_capacity bounded_inhibitor
all-unbounded s x =
    none_then
    (first-all (pairs (net_of s)) (capacity_refusal s) (λ p h. ap (λ k. only_if (finite k) (wrong Net (NotUnbounded (capacity_offset s p)))) (x.capacities p h)))
    (first-all (length (net_of s).arcs) (inhibitor_refusal s) (λ k h. ap (λ i. only_if (finite i) (wrong Net (NotUnbounded (inhibitor_offset s k)))) (x.inhibitors k h)))

pub exports-exactly : ExportsExactly
exports-exactly = record { only = only-unbounded; all = all-unbounded }

-- each arc of a complement, written from its rows
abbrev Uninhibited : NetArc → Type 0
Uninhibited a = a.entry.inhibitor ≡ ∞

written-uninhibited : (t : Mode) (p : ℕ) (e : Entry) → e.inhibitor ≡ ∞ → Each Uninhibited (written t p e)
written-uninhibited t p e h = go (not (blank e))
  where
    go : (b : Bool) → Each Uninhibited (list_if b (record { mode = t; pair = pair_no p; entry = e }))
    go true = (h, tt)
    go false = tt

rows-uninhibited : (modes pairs : ℕ) (rows : Mode → Row) → ((t : Mode) (p : ℕ) → (rows t p).inhibitor ≡ ∞) → Each Uninhibited (arcs_of modes pairs rows)
unfolding arcs_of
rows-uninhibited modes pairs rows h =
    each-joined Uninhibited modes _ (λ t l. each-joined Uninhibited pairs _ (λ p m. written-uninhibited (mode_no t) p (rows (mode_no t) p) (h (mode_no t) p)))

arcs-uninhibited : (net : PNet) → Each Uninhibited (complement net).arcs
unfolding complement
arcs-uninhibited net = rows-uninhibited (modes net) (all_pairs net) _ (λ t p. row-uninhibited net.rule (is_dead net t) (pairs net) (K net) (row net t) p)

pub complements-exportable : ComplementsExportable
complements-exportable net well =
    record {
      well_formed = well;
      capacities = λ p h. capacity-complement net p;
      inhibitors = each_at Uninhibited _ (complement net).arcs (arcs-uninhibited net);
    }
