-- A P-net of document 01: places with colours, transitions with modes, K and the first marking of each pair, and the arcs; and document 02's rule.
use Rattle.std.specs.Prelude.{ℕ, ◌+◌, Bool, cond, ◌&&◌, List, [], ◌∷◌, eqb, take, get_or}
use Rattle.model.specs.declared.Pair.{Pair}
use Rattle.model.specs.declared.Mode.{Mode}
use Rattle.model.specs.declared.CapacityRule.{CapacityRule}
use Rattle.model.specs.declared.CapacityRule.TheVariants.{Strong, Weak}
use Rattle.model.specs.Numbers.{ℕ∞, ∞}
use Rattle.model.specs.Rows.{Entry, no_arc, Row, Capacities, Counts}

pub record NetArc : Type 0 where
  pub mode : Mode
  pub pair : Pair
  pub entry : Entry

pub record PNet : Type 0 where
  -- "a rule byte .. follows the version" (document 02, P9): which capacity rule (P10)
  pub rule : CapacityRule
  pub colours : List ℕ
  pub modes_of : List ℕ
  pub capacity : List ℕ∞
  pub start : List ℕ
  pub arcs : List NetArc

-- the byte that names a rule: "Rule byte 1 in version 2 means M + Post ≤ K + Pre"
unfoldable pub rule_number : CapacityRule → ℕ
rule_number Strong = 0
rule_number Weak = 1

-- how many in all
abbrev pub total : List ℕ → ℕ
total [] = 0
total (c ∷ cs) = c + total cs

abbrev pub pairs : PNet → ℕ
pairs net = total net.colours

abbrev pub modes : PNet → ℕ
modes net = total net.modes_of

-- pairs "are numbered from 0 across the whole net, place by place": the first of a place, whose colours follow; modes likewise
abbrev pub first_pair_of : PNet → ℕ → ℕ
first_pair_of net place = total (take place net.colours)

abbrev pub pair_no : ℕ → Pair
pair_no p = record { 0 = p }

abbrev pub mode_no : ℕ → Mode
mode_no t = record { 0 = t }

abbrev pub K : PNet → Capacities
K net p = get_or net.capacity p ∞

abbrev pub count : List ℕ → Counts
count marking p = get_or marking p 0

-- the k-th arc
abbrev pub arc_no : List NetArc → ℕ → NetArc
arc_no arcs k = get_or arcs k (record { mode = mode_no 0; pair = pair_no 0; entry = no_arc })

-- "At each mode and pair stand Pre, Post and an inhibitor I": what the arcs write there, or no arc
abbrev pub stands : NetArc → Mode → ℕ → Bool
stands a t p = eqb a.mode.0 t.0 && eqb a.pair.0 p

unfoldable pub entry_at : List NetArc → Mode → Row
entry_at [] t p = no_arc
entry_at (a ∷ arcs) t p = cond (stands a t p) a.entry (entry_at arcs t p)

abbrev pub row : PNet → Mode → Row
row net t = entry_at net.arcs t
