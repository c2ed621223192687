-- The sums of a step, in three tables of 32-bit numbers with an entry for each pair: what the private functions of this crate speak of.
-- A reader of the promises may skip this file.
use Rattle.std.specs.Prelude.{ℕ, ◌+◌, ◌*◌, ◌≤◌, ◌<◌, ◌≡◌, List, ◌≢◌, get_or, take}
use Rattle.std.proofs.Math.Option.{Option}
use Rattle.model.specs.declared.Arc.{Arc}
use Rattle.model.specs.declared.Mode.{Mode}
use Rattle.model.specs.declared.Thing.TheVariants.{Argument}
use Rattle.model.specs.declared.Why.{Why}
use Rattle.model.specs.declared.Refusal.{Refusal}
use Rattle.model.specs.First.{only_if}
use Rattle.model.specs.Numbers.{limit}
use Rattle.model.specs.Rows.{Row}
use Rattle.model.specs.Nets.{NetArc, PNet, pairs, pair_no, count}
use Rattle.model.specs.Firing.{stops, stopped_by, stopped, lowest_stop, row_refusal, rooms}
use Rattle.both_forms.specs.Steps.{beside, together}
use Rattle.fields.specs.Numbers.{bound}
use Rattle.sheets.specs.Decoded.{net_arc}
use Rattle.fire.specs.declared.step.tables.Sums.{Sums}

-- what the tables say of each pair: Pre and Post summed, and the least I
abbrev pub sums_at : Sums → Row
sums_at s p = record { pre = get_or s.pre p 0; post = get_or s.post p 0; inhibitor = bound (get_or s.low p 0) }

-- over n pairs, sums of at most so many numbers of a sheet
pub record Below (many n : ℕ) (r : Row) : Type 0 where
  pub each : (p : ℕ) → p < n → ((r p).pre ≤ many * limit) × ((r p).post ≤ many * limit)

-- an arc that can be added to them
pub record Addable (a : Arc) (r : Row) : Type 0 where
  pub inside : a.pair.0 < 256
  pub pre : (r a.pair.0).pre + a.pre ≤ 64 * limit
  pub post : (r a.pair.0).post + a.post ≤ 64 * limit

-- one arc added; a mode's row added over n pairs; the first i members of a step added up
pub record Added (a : NetArc) (old new : Row) : Type 0 where
  pub at : new a.pair.0 ≡ beside (old a.pair.0) a.entry
  pub other : (p : ℕ) → p ≢ a.pair.0 → new p ≡ old p

pub record AddedRow (n : ℕ) (r old new : Row) : Type 0 where
  pub each : (p : ℕ) → p < n → new p ≡ beside (old p) (r p)

pub record SumsAre (net : PNet) (ts : List Mode) (i : ℕ) (r : Row) : Type 0 where
  pub each : (p : ℕ) → p < pairs net → r p ≡ together net (take i ts) p

-- the sums at one pair, as an arc
pub record SumIs (r : Row) (p : ℕ) (a : Arc) : Type 0 where
  pub pair : a.pair ≡ pair_no p
  pub entry : (net_arc a).entry ≡ r p

-- one of 11 to 14 at pair p, its lowest pair, and the first of the four
unfoldable pub stop_at : Why → PNet → Row → List ℕ → ℕ → Option Refusal
stop_at why net r m p =
    only_if (stops why (r p) (rooms net r p) (count m p)) (stopped Argument why p (stopped_by why (r p) (rooms net r p) (count m p)))

unfoldable pub stop_of : Why → PNet → Row → List ℕ → Option Refusal
stop_of why net r m = lowest_stop Argument (pairs net) (rooms net r) r (count m) why

unfoldable pub refusal_of : PNet → Row → List ℕ → Option Refusal
refusal_of net r m = row_refusal Argument (pairs net) (rooms net r) r (count m)
