-- The complemented net (document 01, "The complemented net"; document 02, P4 and P10; source document 000, section 6.2.3 and figure 6.4).
use Rattle.std.specs.Prelude.{ℕ, ◌+◌, ◌-◌, ◌<◌, max, ◌≡◌, Bool, true, false, cond, not, ◌&&◌, List, [], ◌∷◌, ◌++◌, map, leb, ltb, eqb, length, get_or, replicate}
use Rattle.std.proofs.Math.Option.{Option}
use Rattle.model.specs.declared.CapacityRule.{CapacityRule}
use Rattle.model.specs.declared.CapacityRule.TheVariants.{Strong, Weak}
use Rattle.model.specs.declared.Mode.{Mode}
use Rattle.model.specs.declared.Thing.TheVariants.{Net}
use Rattle.model.specs.declared.Fault.TheVariants.{InhibitedUnbounded, NoRoom}
use Rattle.model.specs.declared.Refusal.{Refusal}
use Rattle.model.specs.Refusals.{wrong}
use Rattle.model.specs.First.{◌▸◌, only_if, lowest}
use Rattle.model.specs.Lists.{joined, list_if}
use Rattle.model.specs.Numbers.{ℕ∞, fin, ∞}
use Rattle.model.specs.Rows.{Entry, no_arc, Row, Capacities}
use Rattle.model.specs.Nets.{NetArc, PNet, pairs, modes, pair_no, mode_no, K, count, arc_no, row}
use Rattle.second_form.specs.Dead.{is_dead}

abbrev pub finite : ℕ∞ → Bool
finite (fin k) = true
finite ∞ = false

-- the pairs of finite K below n, in rising order
unfoldable pub bounded : Capacities → ℕ → List ℕ
bounded K n = joined n (λ p. list_if (finite (K p)) p)

abbrev pub bounded_below : Capacities → ℕ → ℕ
bounded_below K p = length (bounded K p)

-- "Each pair of finite K gets a complement pair, numbered after all originals in rising order."
abbrev pub complement_pair : ℕ → Capacities → ℕ → ℕ
complement_pair n K p = n + bounded_below K p

-- the pair that the complement pair p complements; asked only of complement pairs, and an unbounded pair has none
abbrev pub complemented : ℕ → Capacities → ℕ → ℕ
complemented n K p = get_or (bounded K n) (p - n) 0

-- "K less I, or 0 where I ≥ K or unbounded"
abbrev pub reserve : ℕ → ℕ∞ → ℕ
reserve k (fin i) = cond (leb k i) 0 (k - i)
reserve k ∞ = 0

-- "Pre: the larger of Post and (K less I ..)"; by the weak rule "the larger of (Post less Pre, or 0) and (K less I, or 0)"
abbrev pub claim : CapacityRule → Entry → ℕ
claim Strong e = e.post
claim Weak e = e.post - e.pre

abbrev pub complement_pre : CapacityRule → ℕ → Entry → ℕ
complement_pre rule k e = max (claim rule e) (reserve k e.inhibitor)

-- "Post: that number plus the original Pre less the original Post"; "For a locally dead mode .. each complement Post equal to its complement Pre"
abbrev pub complement_post : CapacityRule → Bool → ℕ → Entry → ℕ
complement_post rule dead k e = cond dead (complement_pre rule k e) (complement_pre rule k e + e.pre - e.post)

-- "All K and I become unbounded. Original Pre, Post and first marking stay."
abbrev pub original : Entry → Entry
original e = record { pre = e.pre; post = e.post; inhibitor = ∞ }

-- what a mode, dead or not, has at the complement pair where at the original it has e and the capacity is k; an unbounded pair has none
abbrev pub complement_entry : CapacityRule → Bool → ℕ∞ → Entry → Entry
complement_entry rule dead (fin k) e = record { pre = complement_pre rule k e; post = complement_post rule dead k e; inhibitor = ∞ }
complement_entry rule dead ∞ e = no_arc

-- a row over the n originals, then over their complement pairs; beyond those it is never asked
unfoldable pub complement_row : CapacityRule → Bool → ℕ → Capacities → Row → Row
complement_row rule dead n K row p = cond (ltb p n) (original (row p)) (complement_entry rule dead (K (complemented n K p)) (row (complemented n K p)))

-- "one for each place with a finite pair, with as many colours as it has finite pairs"
unfoldable pub new_places : Capacities → List ℕ → List ℕ
new_places K [] = []
new_places K (c ∷ cs) = list_if (ltb 0 (bounded_below K c)) (bounded_below K c) ++ new_places (λ p. K (c + p)) cs

-- "first marking: K less the original's"
abbrev pub less : ℕ∞ → ℕ → ℕ
less (fin k) m = k - m
less ∞ m = 0

abbrev pub blank : Entry → Bool
blank e = eqb e.pre 0 && eqb e.post 0 && not (finite e.inhibitor)

-- "Blank arcs are left out."
abbrev pub written : Mode → ℕ → Entry → List NetArc
written t p e = list_if (not (blank e)) (record { mode = t; pair = pair_no p; entry = e })

-- the arcs that write these rows, by mode, then pair
unfoldable pub arcs_of : ℕ → ℕ → (Mode → Row) → List NetArc
arcs_of modes pairs rows = joined modes (λ t. joined pairs (λ p. written (mode_no t) p (rows (mode_no t) p)))

abbrev pub bounded_pairs : PNet → List ℕ
bounded_pairs net = bounded (K net) (pairs net)

-- the originals and their complement pairs
abbrev pub all_pairs : PNet → ℕ
all_pairs net = pairs net + length (bounded_pairs net)

unfoldable pub complement : PNet → PNet
complement net =
    record {
      rule = net.rule;
      colours = net.colours ++ new_places (K net) net.colours;
      modes_of = net.modes_of;
      capacity = replicate (all_pairs net) ∞;
      start = net.start ++ map (λ p. less (K net p) (count net.start p)) (bounded_pairs net);
      arcs = arcs_of (modes net) (all_pairs net) (λ t. complement_row net.rule (is_dead net t) (pairs net) (K net) (row net t));
    }

-- Refusals of complementing: "net, 15, 16, 10, each at its first arc in order"; 16 "no longer occurs".
-- "finite I at a pair of unbounded K"
abbrev pub inhibits_unbounded : PNet → NetArc → Bool
inhibits_unbounded net a = finite a.entry.inhibitor && not (finite (K net a.pair.0))

-- `offset k` is where the k-th arc stands in the sheet
unfoldable pub refusal15 : (ℕ → ℕ) → PNet → Option Refusal
refusal15 offset net =
    lowest (length net.arcs) (λ k. inhibits_unbounded net (arc_no net.arcs k)) (λ k. wrong Net (InhibitedUnbounded (offset k)))

-- "complement exceeds the sheet's limits": what is written is counted
unfoldable pub sheet_limits : PNet → Bool
sheet_limits net =
    leb (length (complement net).colours) 64 && leb (pairs (complement net)) 256 && leb (length (complement net).arcs) 2048

-- An output slice that is too short is refused by 10 too, after these.
unfoldable pub complement_refusal : (ℕ → ℕ) → PNet → Option Refusal
complement_refusal offset net = refusal15 offset net ▸ only_if (not (sheet_limits net)) (wrong Net NoRoom)

-- Corresponding markings of a net and of its complement (source document 000, equation 6.7): equal on the original pairs,
-- and each bounded pair and its complement add up to its capacity.
pub record Corresponds (net : PNet) (m m' : List ℕ) : Type 0 where
  pub one_each : length m ≡ pairs net
  pub one_each' : length m' ≡ pairs (complement net)
  pub equal : (p : ℕ) → p < pairs net → count m' p ≡ count m p
  pub add_up : (p k : ℕ) → p < pairs net → K net p ≡ fin k → count m p + count m' (complement_pair (pairs net) (K net) p) ≡ k
