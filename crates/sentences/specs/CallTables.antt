-- The exact refusal table of each call, row by row in document 01's words and order. A row is given, with its number, thing, position and amount, exactly
-- when its proposition holds and no earlier row's does.
use Rattle.model.specs.declared.Refusal.{Refusal}
use Rattle.std.specs.Prelude.{ℕ, ◌+◌, ◌-◌, ◌≤◌, ◌<◌, ◌≡◌, List, [], ◌∷◌, map, ◌↔◌, ◌⊎◌, ◌≢◌, ℤ, pos, ◌+ℤ◌, length, take, get_or, Result}
use Rattle.model.specs.declared.Pair.{Pair}
use Rattle.model.specs.declared.Mode.{Mode}
use Rattle.model.specs.declared.CapacityRule.TheVariants.{Weak}
use Rattle.model.specs.declared.Version.{Version}
use Rattle.model.specs.declared.Version.TheVariants.{One, Two}
use Rattle.model.specs.declared.Thing.{Thing}
use Rattle.model.specs.Refusals.{Carried, carries_by, carries, carried, thing_number}
use Rattle.model.specs.Replies.{yields}
use Rattle.model.specs.Markings.{marking_refusal}
use Rattle.model.specs.RefusalTables.{Table, row, ◌then◌, each, Silent, Gives, Reads, one_each_table, marking_table, missing_table, mode_table}
use Rattle.model.specs.Numbers.{ℕ∞, fin, ∞, Above, above_by, least_of_all, limit}
use Rattle.model.specs.Nets.{NetArc, PNet, total, pairs, modes, mode_no, K, count, arc_no, row as mode_row}
use Rattle.model.specs.Firing.{room_for, fired, mode_refusal}
use Rattle.movement.specs.Runs.{certificate_refusal}
use Rattle.second_form.specs.Complement.{complement, complement_refusal}
use Rattle.both_forms.specs.Steps.{step_refusal}
use Rattle.movement.specs.Figures.{figure, change}
use Rattle.heads.specs.Layout.{body_length, sheet_end, version}
use Rattle.sheets.specs.Decoded.{net_of, weights_of, movements_of}
use Rattle.sheets.specs.nets.Nets.{net_refusal}
use Rattle.sheets.specs.lists.Weights.{weights_refusal}
use Rattle.sheets.specs.lists.Movements.{movements_refusal}
use Rattle.sheets.specs.Whole.{whole_net, whole_weights, whole_movements}
use Rattle.sheets.specs.RefusalTables.{head_table, net_table, weight_table, movement_table}
use Rattle.opened.specs.Shape.{arc_offset, inhibitor_offset}
use Rattle.sheets.specs.written.Written.{version_number}
use Rattle.run.specs.declared.Ran.{Ran}
use Rattle.run.specs.Allowed.{RunAllows}
use Rattle.fire.specs.step.Calls.{step_modes}
use Rattle.ships.specs.declared.Fleet.{Fleet}
use Rattle.ships.specs.Ships.{Ship, ship, ship_added, ship_removed}
use Rattle.ships.specs.Entered.{Past, InBounds}
use Rattle.complement.specs.Complemented.{complement_sheet}
use Rattle.convert.specs.Converted.{converted_sheet}
use Rattle.bare.specs.Strip.{bound_of}
use Rattle.convert.specs.strip.Stripped.{stripped_net, stripped_sheet}
use Rattle.export.specs.Exports.{capacity_offset, export_text}
use Rattle.import.specs.RefusalTable.{import_table}
use Rattle.damaged.specs.Damaged.{modes_in}
use Rattle.run.specs.declared.salvage.Report.{Report}
use Rattle.run.specs.salvage.Salvaged.{fresh_sheet}
use Rattle.run.specs.salvage.Salvaged as salvaging
use Rattle.run.specs.salvage.Allowed.{SalvageAllows}
use Rattle.sentences.specs.Call.{Call, on₂, on₃, on₄}
use Rattle.sentences.specs.Calls.{Public, call, for_c}
use Rattle.sentences.specs.EveryCall.{Alone, alone}
use Rattle.sentences.specs.Outcomes.{Begins, movement_no}

-- "A call that takes one sheet as an argument refuses left-over bytes by 3.": the sheet's own table, then the first byte after it
abbrev pub bytes_left : ℕ → List ℕ → Table
bytes_left thing s = row (sheet_end s < length s) (carries 3 thing (sheet_end s))

abbrev pub whole_net_table : List ℕ → Table
whole_net_table s = net_table s then bytes_left 0 s

abbrev pub whole_weight_table : ℕ → List ℕ → Table
whole_weight_table pairs s = weight_table pairs s then bytes_left 1 s

abbrev pub whole_movement_table : List ℕ → Table
whole_movement_table s = movement_table s then bytes_left 2 s

-- the marking that movements give, each fired where the ones before lead
unfoldable pub marking_after : PNet → List Mode → List ℕ → List ℕ
marking_after net [] m = m
marking_after net (t ∷ ts) m = marking_after net ts (fired net t m)

-- "Running stops at the first refused movement": the table of each movement, at the marking that those before it gave
abbrev pub moves_table : PNet → List Mode → List ℕ → Table
moves_table net ts m = each (length ts) (λ k. mode_table 2 net (get_or ts k (mode_no 0)) (marking_after net (take k ts) m))

-- "Certificate: net, movements, 17 for the claim, the run (6, 11 to 14), 18. The claim's counts are compared and not range-checked."
abbrev pub certificate_table : PNet → List Mode → List ℕ → Table
certificate_table net ts claim =
    one_each_table net claim
    then moves_table net ts net.start
    -- 18: "certificate ends at another marking", "lowest differing pair"
    then each (pairs net) (λ p. row (count (marking_after net ts net.start) p ≢ count claim p) (carries 18 3 p))

-- "4 for an empty or too long step, then 6, 11, 12, 13, 14 over the sums", a step being "a list of 1 to 64 modes"; the amounts are over the sums too
module _ (net : PNet) (ts : List Mode) (m : List ℕ) where
  abbrev member : ℕ → Mode
  member i = get_or ts i (mode_no 0)

  abbrev summed_pre : ℕ → ℕ
  summed_pre p = total (map (λ t. (mode_row net t p).pre) ts)

  abbrev summed_post : ℕ → ℕ
  summed_post p = total (map (λ t. (mode_row net t p).post) ts)

  -- "P1's steps take the rule with summed Pre and Post"
  abbrev room : ℕ → ℕ∞
  room p = room_for net.rule (K net p) (summed_pre p)

  abbrev least_inhibitor : ℕ → ℕ∞
  least_inhibitor p = least_of_all (map (λ t. (mode_row net t p).inhibitor) ts)

  abbrev pub step_table : Table
  step_table =
      row ((length ts ≡ 0) ⊎ (64 < length ts)) (carries 4 3 0)
      then each (length ts) (λ i. missing_table 3 net (member i))
      -- "summed Pre ≤ M, M + summed Post ≤ K, and M ≤ the least I of its members"; "12 reads by the rule in force"
      then each (pairs net) (λ p. row (count m p < summed_pre p) (carries_by 11 3 p (summed_pre p - count m p)))
      then each (pairs net) (λ p.
      row (Above (count m p + summed_post p) (room p)) (carries_by 12 3 p (above_by (count m p + summed_post p) (room p))))
      then each (pairs net) (λ p.
      row ((i : ℕ) × (i < length ts) × Above (count m p) (mode_row net (member i) p).inhibitor)
      (carries_by 13 3 p (above_by (count m p) (least_inhibitor p))))
      then each (pairs net) (λ p.
      row (limit < count m p - summed_pre p + summed_post p) (carries_by 14 3 p (count m p - summed_pre p + summed_post p - limit)))

-- "then 21 with the first unbalanced mode, then 22 when the figures are equal"
abbrev pub claim_table : PNet → List ℤ → List ℕ → Table
claim_table net weights claim =
    each (modes net) (λ t. row (change net weights (mode_no t) ≢ pos 0) (carries 21 0 t))
    then row (figure net weights claim ≡ figure net weights net.start) (carries 22 0 0)

-- 10: "or the output slice is shorter than it"
abbrev pub short_table : List ℕ → ℕ → Table
short_table bytes room = row (room < length bytes) (carries 10 0 0)

-- "Complementing: net, 15, 16, 10, each at its first arc in order."; 16 "no longer occurs". The k-th arc stands at `offset k` in its sheet.
module _ (offset : ℕ → ℕ) (net : PNet) where
  abbrev arc : ℕ → NetArc
  arc k = arc_no net.arcs k

  abbrev pub complement_table : Table
  complement_table =
      -- 15: "finite I at a pair of unbounded K"
      each (length net.arcs) (λ k.
      row (((i : ℕ) × ((arc k).entry.inhibitor ≡ fin i)) × (K net (arc k).pair.0 ≡ ∞)) (carries 15 0 (offset k)))
      -- 10: "complement exceeds the sheet's limits"
      then row ((64 < length (complement net).colours) ⊎ (256 < pairs (complement net)) ⊎ (2048 < length (complement net).arcs)) (carries 10 0 0)

module _ (net : List ℕ) where
  -- a conversion: "2 to a sheet of its target version", before the fields, where any call has 2; then what any call refuses of the net; "Converting a rule-1 sheet to
  -- version 1 is always refused by 23, before 10."; "10 to a short output"
  abbrev pub convert_table : Version → Version → ℕ → Table
  convert_table source target room =
      head_table 0 net (version net ≢ version_number source)
      then whole_net_table net
      then row ((target ≡ One) × ((net_of net).rule ≡ Weak)) (carries 23 0 0)
      then short_table (converted_sheet target net) room

  -- stripping: "the net's, 6 for the pair, 15 for unbounded K, 10 where K is above 63, another limit is passed or the output is short"
  abbrev pub strip_table : Pair → ℕ → Table
  strip_table p room =
      whole_net_table net
      then (row (pairs (net_of net) ≤ p.0) (carries 6 3 0)
      then row (K (net_of net) p.0 ≡ ∞) (carries 15 0 0)
      then row
      ((63 < bound_of (K (net_of net) p.0))
      ⊎ (64 < length (stripped_net net p).modes_of)
      ⊎ (256 < modes (stripped_net net p))
      ⊎ (2048 < length (stripped_net net p).arcs))
      (carries 10 0 0))
      then short_table (stripped_sheet net p) room

  -- an export: "the net's, 19 at the first finite K or I, 10 for a short output"; all K first, then the I of the arcs as they stand
  abbrev pub export_table : ℕ → Table
  export_table room =
      whole_net_table net
      then each (pairs (net_of net)) (λ p. row ((k : ℕ) × (K (net_of net) p ≡ fin k)) (carries 19 0 (capacity_offset net p)))
      then each (length (net_of net).arcs) (λ k.
      row ((i : ℕ) × ((arc_no (net_of net).arcs k).entry.inhibitor ≡ fin i)) (carries 19 0 (inhibitor_offset net k)))
      then short_table (export_text net) room

  -- a salvage: "1 for fewer than 5 bytes, 3 for L = 0, 2, 10 for a short output"
  abbrev pub salvage_table : List ℕ → ℕ → Table
  salvage_table damaged room =
      whole_net_table net
      then row (length damaged < 5) (carries 1 2 0)
      then row (body_length damaged ≡ 0) (carries 3 2 0)
      then row (version damaged ≢ 1) (carries 2 2 4)
      then short_table (fresh_sheet net damaged) room

-- a ship into a lent record (document 02, P13): "25 for a lent record with ships or a refusal count above 1,000, movements above 8,192,000, or a figure below
-- 0 or above 10^18; 4 for ship 1,001; those of the sheets; then 24 where a figure would pass 10^18"
abbrev pub add_ship_table : Fleet → Ship → Table
add_ship_table found s =
    row (¬ InBounds found) (carries 25 0 0)
    then row (1000 < found.ships + 1) (carries 4 3 0)
    then whole_net_table s.net
    then whole_weight_table (pairs (net_of s.net)) s.weights
    then whole_movement_table s.movements
    then row (Past (found.added +ℤ pos (ship_added s)) ⊎ Past (found.removed +ℤ pos (ship_removed s))) (carries 24 0 0)

-- A call's table, things in their order: "net, weights, movements, then the marking .., then the mode"
abbrev pub table_of : (c : Public) → (call c).Given → Table
table_of Public.read_net = net_table
table_of Public.read_weights = on₂ (λ s pairs. weight_table pairs s)
table_of Public.read_movements = movement_table
table_of Public.begin = on₂ (λ net marking. whole_net_table net then one_each_table (net_of net) marking)
table_of Public.test = on₃ (λ net marking t. whole_net_table net then marking_table (net_of net) marking then mode_table 3 (net_of net) t marking)
table_of Public.fire = on₃ (λ net marking t. whole_net_table net then marking_table (net_of net) marking then mode_table 3 (net_of net) t marking)
table_of Public.test_step =
    on₃ (λ net marking steps. whole_net_table net then marking_table (net_of net) marking then step_table (net_of net) (step_modes steps) marking)
table_of Public.fire_step =
    on₃ (λ net marking steps. whole_net_table net then marking_table (net_of net) marking then step_table (net_of net) (step_modes steps) marking)
table_of Public.run =
    on₃ (λ net movements marking.
    whole_net_table net then whole_movement_table movements then marking_table (net_of net) marking then moves_table (net_of net) (movements_of movements) marking)
table_of Public.certify =
    on₃ (λ net movements claim. whole_net_table net then whole_movement_table movements then certificate_table (net_of net) (movements_of movements) claim)
table_of Public.figure =
    on₃ (λ net weights marking. whole_net_table net then whole_weight_table (pairs (net_of net)) weights then marking_table (net_of net) marking)
table_of Public.change = on₃ (λ net weights t. whole_net_table net then whole_weight_table (pairs (net_of net)) weights then missing_table 3 (net_of net) t)
table_of Public.fleet_add = on₄ (λ found net weights movements. add_ship_table found (ship net weights movements))
table_of Public.exclude =
    on₃ (λ net weights claim.
    whole_net_table net
    then whole_weight_table (pairs (net_of net)) weights
    then marking_table (net_of net) claim
    then claim_table (net_of net) (weights_of weights) claim)
table_of Public.is_dead = on₂ (λ net t. whole_net_table net then missing_table 3 (net_of net) t)
table_of Public.first_dead = whole_net_table
table_of Public.size = whole_net_table
table_of Public.complement =
    on₂ (λ net out. whole_net_table net then complement_table (arc_offset net) (net_of net) then short_table (complement_sheet net) (length out))
table_of Public.to_version2 = on₂ (λ net out. convert_table net One Two (length out))
table_of Public.to_version1 = on₂ (λ net out. convert_table net Two One (length out))
table_of Public.strip = on₃ (λ net p out. strip_table net p (length out))
table_of Public.export_pnml = on₂ (λ net out. export_table net (length out))
table_of Public.import_pnml = on₂ (λ text out. import_table text (length out))
-- ours: what complementing refuses of the net, then 17 for the marking and 17 for the complement's marking
table_of Public.audit =
    on₃ (λ net marking beside.
    whole_net_table net
    then complement_table (arc_offset net) (net_of net)
    then one_each_table (net_of net) marking
    then one_each_table (complement (net_of net)) beside)
table_of Public.salvage = on₃ (λ net damaged out. salvage_table net damaged (length out))
-- 10: "the output slice is shorter than it"; no text is longer (`longest` of demand 2)
table_of Public.statement = on₂ (λ input out. row (length out < 262144) (carries 10 0 0))

-- what an answer carries: 0 exactly where the table is silent; this number, thing, position and amount exactly where the table gives them
pub record Carries (table : Table) (answer : Carried) : Type 0 where
  pub accepted : (answer.number ≡ 0) ↔ Silent table
  pub refused : (given : Carried) → ((answer.number ≢ 0) × (answer ≡ given)) ↔ Gives table given

abbrev pub Tabled : (c : Call) → (c.Given → Table) → Type 0
Tabled c table = (g : c.Given) (a : c.Answers) (l : c.Lent) → c.Allows g a l → Carries (table g) (c.carried a)

-- a call's table, of the library's and of that for C
abbrev pub HasTable : Public → Type 0
HasTable c = Tabled (call c) (table_of c) × Tabled (for_c c) (table_of c)

-- every call's answer carries what its table gives, for all that it may be given
pub record CallTables : Type 0 where
  pub each : (c : Public) → Tabled (call c) (table_of c)
  pub each_for_c : (c : Public) → Tabled (for_c c) (table_of c)
  pub whole_net : Tabled (alone Alone.whole_net) whole_net_table
  pub whole_weights : Tabled (alone Alone.whole_weights) (on₂ (λ s pairs. whole_weight_table pairs s))
  pub whole_movements : Tabled (alone Alone.whole_movements) whole_movement_table
  -- the movement at which a run stops is the one after those that it accepted, refused at the marking that it leaves
  pub run_stops : (net movements marking left : List ℕ) (r : Ran) → RunAllows net movements marking (r, left) → Begins net movements marking
      → r.accepted < length (movements_of movements) → Carries (mode_table 2 (net_of net) (movement_no movements r.accepted) left) (carried r.answer)
  -- and "the first refusal" that a salvage reports is that of the first of its modes that is refused
  pub salvage_stops : (net damaged out left : List ℕ) (o : Result Report Refusal) (report : Report) → SalvageAllows net damaged out (o, left)
      → salvaging.told o ≡ yields report
      → Carries (moves_table (net_of net) (modes_in damaged) (net_of net).start) (carried report.stop)

-- What is tested of one thing reads as its table, whatever call tests it. Where a statement says `whole_net s ≡ none`, it says that no row of that table holds.
pub record Tests : Type 0 where
  pub net : (s : List ℕ) → Reads (net_table s) (net_refusal s)
  pub weights : (pairs : ℕ) (s : List ℕ) → Reads (weight_table pairs s) (weights_refusal pairs s)
  pub movements : (s : List ℕ) → Reads (movement_table s) (movements_refusal s)
  pub net_argument : (s : List ℕ) → Reads (whole_net_table s) (whole_net s)
  pub weight_argument : (pairs : ℕ) (s : List ℕ) → Reads (whole_weight_table pairs s) (whole_weights pairs s)
  pub movement_argument : (s : List ℕ) → Reads (whole_movement_table s) (whole_movements s)
  pub marking : (net : PNet) (m : List ℕ) → Reads (marking_table net m) (marking_refusal net m)
  pub mode : (about : Thing) (net : PNet) (t : Mode) (m : List ℕ) → Reads (mode_table (thing_number about) net t m) (mode_refusal about net t m)
  pub step : (net : PNet) (ts : List Mode) (m : List ℕ) → Reads (step_table net ts m) (step_refusal net ts m)
  pub certificate : (net : PNet) (ts : List Mode) (claim : List ℕ) → Reads (certificate_table net ts claim) (certificate_refusal net ts claim)
  pub complement : (offset : ℕ → ℕ) (net : PNet) → Reads (complement_table offset net) (complement_refusal offset net)
