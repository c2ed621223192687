-- The exact refusal table of each call, row by row in document 01's words and order. A row is given, with its number, thing, position and amount, exactly
-- when its proposition holds and no earlier row's does.
use Rattle.std.specs.Prelude.{ℕ, ◌+◌, ◌-◌, ◌≤◌, ◌<◌, ◌≡◌, List, [], ◌∷◌, map, ◌⊎◌, ◌≢◌, ℤ, pos, ◌+ℤ◌, length, take, get_or}
use Rattle.std.proofs.Math.Option.{none}
use Rattle.model.specs.declared.Pair.{Pair}
use Rattle.model.specs.declared.Mode.{Mode}
use Rattle.model.specs.declared.CapacityRule.TheVariants.{Weak}
use Rattle.model.specs.declared.Version.{Version}
use Rattle.model.specs.declared.Version.TheVariants.{One, Two}
use Rattle.model.specs.Refusals.{carries_by, carries}
use Rattle.model.specs.RefusalTables.{Table, row, ◌then◌, each, Reads, one_each_table, marking_table, missing_table, mode_table}
use Rattle.model.specs.Numbers.{ℕ∞, fin, ∞, Above, above_by, least_of_all, limit}
use Rattle.model.specs.Nets.{NetArc, PNet, total, pairs, modes, mode_no, K, count, arc_no, row as mode_row}
use Rattle.model.specs.Firing.{room_for, fired}
use Rattle.second_form.specs.Complement.{complement}
use Rattle.movement.specs.Figures.{figure, change}
use Rattle.heads.specs.Layout.{body_length, sheet_end, version}
use Rattle.sheets.specs.Whole.{whole_net, whole_weights, whole_movements}
use Rattle.sheets.specs.Decoded.{net_of, weights_of, movements_of}
use Rattle.sheets.specs.RefusalTables.{head_table, net_table, weight_table, movement_table, SheetTables}
use Rattle.opened.specs.Shape.{arc_offset, inhibitor_offset}
use Rattle.sheets.specs.written.Written.{version_number}
use Rattle.fire.specs.Calls.{begin_refusal, test_refusal}
use Rattle.run.specs.Calls.{before_run, run_of, certify_refusal}
use Rattle.fire.specs.step.Calls.{step_modes, test_step_refusal}
use Rattle.statement.specs.weigh.Calls.{figure_refusal, change_refusal}
use Rattle.ships.specs.declared.Fleet.{Fleet}
use Rattle.ships.specs.Ships.{Ship, ship_added, ship_removed}
use Rattle.ships.specs.Entered.{Past, InBounds, ship_refusal}
use Rattle.statement.specs.exclude.Calls.{exclude_refusal}
use Rattle.opened.specs.dead.IsDead.{dead_refusal}
use Rattle.complement.specs.Complemented.{complement_sheet, complementing_refusal}
use Rattle.convert.specs.Converted.{converted_sheet, convert_refusal}
use Rattle.bare.specs.Strip.{bound_of}
use Rattle.convert.specs.strip.Stripped.{stripped_net, stripped_sheet, stripping_refusal}
use Rattle.export.specs.Exports.{capacity_offset, export_text, export_refusal}
use Rattle.import.specs.RefusalTable.{ImportTable}
use Rattle.complement.specs.audit.Audits.{auditing_refusal}
use Rattle.damaged.specs.Damaged.{modes_in}
use Rattle.run.specs.salvage.Salvaged.{fresh_sheet, trial, salvage_refusal}
use Rattle.statement.specs.Replay.{statement_refusal}

-- "A call that takes one sheet as an argument refuses left-over bytes by 3.": the sheet's own table, then the first byte after it
abbrev pub bytes_left : ℕ → List ℕ → Table
bytes_left thing s = row (sheet_end s < length s) (carries 3 thing (sheet_end s))

abbrev pub whole_net_table : List ℕ → Table
whole_net_table s = net_table s then bytes_left 0 s

abbrev pub whole_weight_table : ℕ → List ℕ → Table
whole_weight_table pairs s = weight_table pairs s then bytes_left 1 s

abbrev pub whole_movement_table : List ℕ → Table
whole_movement_table s = movement_table s then bytes_left 2 s

-- the marking that movements give, each fired where the ones before lead
unfoldable pub marking_after : PNet → List Mode → List ℕ → List ℕ
marking_after net [] m = m
marking_after net (t ∷ ts) m = marking_after net ts (fired net t m)

-- "Running stops at the first refused movement": the table of each movement, at the marking that those before it gave
abbrev pub moves_table : PNet → List Mode → List ℕ → Table
moves_table net ts m = each (length ts) (λ k. mode_table 2 net (get_or ts k (mode_no 0)) (marking_after net (take k ts) m))

-- "Certificate: net, movements, 17 for the claim, the run (6, 11 to 14), 18."
abbrev pub certificate_table : PNet → List Mode → List ℕ → Table
certificate_table net ts claim =
    one_each_table net claim
    then moves_table net ts net.start
    -- 18: "certificate ends at another marking", "lowest differing pair"
    then each (pairs net) (λ p. row (count (marking_after net ts net.start) p ≢ count claim p) (carries 18 3 p))

-- "4 for an empty or too long step, then 6, 11, 12, 13, 14 over the sums", a step being "a list of 1 to 64 modes"; the amounts are over the sums too
module _ (net : PNet) (ts : List Mode) (m : List ℕ) where
  abbrev member : ℕ → Mode
  member i = get_or ts i (mode_no 0)

  abbrev summed_pre : ℕ → ℕ
  summed_pre p = total (map (λ t. (mode_row net t p).pre) ts)

  abbrev summed_post : ℕ → ℕ
  summed_post p = total (map (λ t. (mode_row net t p).post) ts)

  -- "P1's steps take the rule with summed Pre and Post"
  abbrev room : ℕ → ℕ∞
  room p = room_for net.rule (K net p) (summed_pre p)

  abbrev least_inhibitor : ℕ → ℕ∞
  least_inhibitor p = least_of_all (map (λ t. (mode_row net t p).inhibitor) ts)

  abbrev pub step_table : Table
  step_table =
      row ((length ts ≡ 0) ⊎ (64 < length ts)) (carries 4 3 0)
      then each (length ts) (λ i. missing_table 3 net (member i))
      -- "summed Pre ≤ M, M + summed Post ≤ K, and M ≤ the least I of its members"; "12 reads by the rule in force"
      then each (pairs net) (λ p. row (count m p < summed_pre p) (carries_by 11 3 p (summed_pre p - count m p)))
      then each (pairs net) (λ p.
      row (Above (count m p + summed_post p) (room p)) (carries_by 12 3 p (above_by (count m p + summed_post p) (room p))))
      then each (pairs net) (λ p.
      row ((i : ℕ) × (i < length ts) × Above (count m p) (mode_row net (member i) p).inhibitor)
      (carries_by 13 3 p (above_by (count m p) (least_inhibitor p))))
      then each (pairs net) (λ p.
      row (limit < count m p - summed_pre p + summed_post p) (carries_by 14 3 p (count m p - summed_pre p + summed_post p - limit)))

-- "then 21 with the first unbalanced mode, then 22 when the figures are equal"
abbrev pub claim_table : PNet → List ℤ → List ℕ → Table
claim_table net weights claim =
    each (modes net) (λ t. row (change net weights (mode_no t) ≢ pos 0) (carries 21 0 t))
    then row (figure net weights claim ≡ figure net weights net.start) (carries 22 0 0)

-- "Complementing: net, 15, 16, 10, each at its first arc in order."; 16 "no longer occurs"
module _ (s : List ℕ) (room : ℕ) where
  abbrev net : PNet
  net = net_of s

  abbrev arc : ℕ → NetArc
  arc k = arc_no net.arcs k

  abbrev pub room_table : Table
  room_table =
      -- 15: "finite I at a pair of unbounded K"
      each (length net.arcs) (λ k.
      row (((i : ℕ) × ((arc k).entry.inhibitor ≡ fin i)) × (K net (arc k).pair.0 ≡ ∞)) (carries 15 0 (arc_offset s k)))
      -- 10: "complement exceeds the sheet's limits, or the output slice is shorter than it"
      then row
      (((64 < length (complement net).colours) ⊎ (256 < pairs (complement net)) ⊎ (2048 < length (complement net).arcs))
      ⊎ (room < length (complement_sheet s)))
      (carries 10 0 0)

-- A call's table, things in their order: "net, weights, movements, then the marking .., then the mode"
module _ (net : List ℕ) where
  abbrev pub begin_table : List ℕ → Table
  begin_table marking = whole_net_table net then one_each_table (net_of net) marking

  abbrev pub test_table : List ℕ → Mode → Table
  test_table marking t = whole_net_table net then marking_table (net_of net) marking then mode_table 3 (net_of net) t marking

  abbrev pub test_step_table : List ℕ → List ℕ → Table
  test_step_table marking modes = whole_net_table net then marking_table (net_of net) marking then step_table (net_of net) (step_modes modes) marking

  abbrev pub run_table : List ℕ → List ℕ → Table
  run_table movements marking =
      whole_net_table net
      then whole_movement_table movements
      then marking_table (net_of net) marking
      then moves_table (net_of net) (movements_of movements) marking

  abbrev pub certify_table : List ℕ → List ℕ → Table
  certify_table movements claim =
      whole_net_table net then whole_movement_table movements then certificate_table (net_of net) (movements_of movements) claim

  abbrev pub figure_table : List ℕ → List ℕ → Table
  figure_table weights marking = whole_net_table net then whole_weight_table (pairs (net_of net)) weights then marking_table (net_of net) marking

  abbrev pub change_table : List ℕ → Mode → Table
  change_table weights t = whole_net_table net then whole_weight_table (pairs (net_of net)) weights then missing_table 3 (net_of net) t

  abbrev pub exclude_table : List ℕ → List ℕ → Table
  exclude_table weights claim =
      whole_net_table net
      then whole_weight_table (pairs (net_of net)) weights
      then marking_table (net_of net) claim
      then claim_table (net_of net) (weights_of weights) claim

  abbrev pub is_dead_table : Mode → Table
  is_dead_table t = whole_net_table net then missing_table 3 (net_of net) t

  abbrev pub complement_table : ℕ → Table
  complement_table room = whole_net_table net then room_table net room

  -- a conversion: "2 to a sheet of its target version", before the fields, where any call has 2; then what any call refuses of the net; "Converting a rule-1 sheet to
  -- version 1 is always refused by 23, before 10."; "10 to a short output"
  abbrev pub convert_table : Version → Version → ℕ → Table
  convert_table source target room =
      head_table 0 net (version net ≢ version_number source)
      then whole_net_table net
      then row ((target ≡ One) × ((net_of net).rule ≡ Weak)) (carries 23 0 0)
      then row (room < length (converted_sheet target net)) (carries 10 0 0)

  -- stripping: "the net's, 6 for the pair, 15 for unbounded K, 10 where K is above 63, another limit is passed or the output is short"
  abbrev pub strip_table : Pair → ℕ → Table
  strip_table p room =
      whole_net_table net
      then row (pairs (net_of net) ≤ p.0) (carries 6 3 0)
      then row (K (net_of net) p.0 ≡ ∞) (carries 15 0 0)
      then row
      (((63 < bound_of (K (net_of net) p.0))
      ⊎ (64 < length (stripped_net net p).modes_of)
      ⊎ (256 < modes (stripped_net net p))
      ⊎ (2048 < length (stripped_net net p).arcs))
      ⊎ (room < length (stripped_sheet net p)))
      (carries 10 0 0)

  -- an export: "the net's, 19 at the first finite K or I, 10 for a short output"; all K first, then the I of the arcs as they stand
  abbrev pub export_table : ℕ → Table
  export_table room =
      whole_net_table net
      then each (pairs (net_of net)) (λ p. row ((k : ℕ) × (K (net_of net) p ≡ fin k)) (carries 19 0 (capacity_offset net p)))
      then each (length (net_of net).arcs) (λ k.
      row ((i : ℕ) × ((arc_no (net_of net).arcs k).entry.inhibitor ≡ fin i)) (carries 19 0 (inhibitor_offset net k)))
      then row (room < length (export_text net)) (carries 10 0 0)

  -- an audit: what complementing refuses where there is room for its sheet, "then 17 for the marking and 17 for the complement's marking"
  abbrev pub audit_table : List ℕ → List ℕ → Table
  audit_table marking beside =
      complement_table (length (complement_sheet net))
      then one_each_table (net_of net) marking
      then one_each_table (complement (net_of net)) beside

  -- a salvage: "1 for fewer than 5 bytes, 3 for L = 0, 2, 10 for a short output"
  abbrev pub salvage_table : List ℕ → ℕ → Table
  salvage_table damaged room =
      whole_net_table net
      then row (length damaged < 5) (carries 1 2 0)
      then row (body_length damaged ≡ 0) (carries 3 2 0)
      then row (version damaged ≢ 1) (carries 2 2 4)
      then row (room < length (fresh_sheet net damaged)) (carries 10 0 0)

-- a ship into a lent record (document 02, P13): "25 for a lent record with ships or a refusal count above 1,000, movements above 8,192,000, or a figure below
-- 0 or above 10^18; 4 for ship 1,001; those of the sheets; then 24 where a figure would pass 10^18"
abbrev pub add_ship_table : Fleet → Ship → Table
add_ship_table found s =
    row (¬ InBounds found) (carries 25 0 0)
    then row (1000 < found.ships + 1) (carries 4 3 0)
    then whole_net_table s.net
    then whole_weight_table (pairs (net_of s.net)) s.weights
    then whole_movement_table s.movements
    then row (Past (found.added +ℤ pos (ship_added s)) ⊎ Past (found.removed +ℤ pos (ship_removed s))) (carries 24 0 0)

-- the movement at which a run stops is the one after those that it accepted, refused at the marking that it leaves
module _ (net movements marking : List ℕ) where
  abbrev stop : Mode
  stop = get_or (movements_of movements) (run_of net movements marking).accepted (mode_no 0)

  pub record RunReads : Type 0 where
    pub refusal : Reads (run_table net movements marking) (run_of net movements marking).refusal
    pub stops_at : before_run net movements marking ≡ none → (run_of net movements marking).accepted < length (movements_of movements)
        → Reads (mode_table 2 (net_of net) stop (run_of net movements marking).marking) (run_of net movements marking).refusal

-- and "the first refusal" that a salvage reports is that of the first of its modes that is refused
pub record SalvageReads (net damaged : List ℕ) : Type 0 where
  pub refusal : (room : ℕ) → Reads (salvage_table net damaged room) (salvage_refusal net damaged room)
  pub stop : Reads (moves_table (net_of net) (modes_in damaged) (net_of net).start) (trial net damaged).refusal

-- a field for each public call that answers: its first refusal is the one that its table gives, for all that it may be given
pub record CallTables : Type 0 where
  -- read net, read weights and read movements
  pub sheets : SheetTables
  -- a whole net sheet, first dead and size
  pub whole_net : (s : List ℕ) → Reads (whole_net_table s) (whole_net s)
  pub whole_weights : (pairs : ℕ) (s : List ℕ) → Reads (whole_weight_table pairs s) (whole_weights pairs s)
  pub whole_movements : (s : List ℕ) → Reads (whole_movement_table s) (whole_movements s)
  pub begin : (net marking : List ℕ) → Reads (begin_table net marking) (begin_refusal net marking)
  -- test and fire
  pub test : (net marking : List ℕ) (t : Mode) → Reads (test_table net marking t) (test_refusal net marking t)
  -- test step and fire step
  pub test_step : (net marking modes : List ℕ) → Reads (test_step_table net marking modes) (test_step_refusal net marking modes)
  pub run : (net movements marking : List ℕ) → RunReads net movements marking
  pub certify : (net movements claim : List ℕ) → Reads (certify_table net movements claim) (certify_refusal net movements claim)
  pub figure : (net weights marking : List ℕ) → Reads (figure_table net weights marking) (figure_refusal net weights marking)
  pub change : (net weights : List ℕ) (t : Mode) → Reads (change_table net weights t) (change_refusal net weights t)
  pub add_ship : (found : Fleet) (s : Ship) → Reads (add_ship_table found s) (ship_refusal found s)
  pub exclude : (net weights claim : List ℕ) → Reads (exclude_table net weights claim) (exclude_refusal net weights claim)
  pub is_dead : (net : List ℕ) (t : Mode) → Reads (is_dead_table net t) (dead_refusal net t)
  pub complement : (net : List ℕ) (room : ℕ) → Reads (complement_table net room) (complementing_refusal net room)
  pub to_version2 : (net : List ℕ) (room : ℕ) → Reads (convert_table net One Two room) (convert_refusal One Two net room)
  pub to_version1 : (net : List ℕ) (room : ℕ) → Reads (convert_table net Two One room) (convert_refusal Two One net room)
  pub strip : (net : List ℕ) (p : Pair) (room : ℕ) → Reads (strip_table net p room) (stripping_refusal net p room)
  pub export_pnml : (net : List ℕ) (room : ℕ) → Reads (export_table net room) (export_refusal net room)
  -- the text is whatever an import is given: its refusal is that of any outcome that the contract allows
  pub import_pnml : ImportTable
  pub audit : (net marking beside : List ℕ) → Reads (audit_table net marking beside) (auditing_refusal net marking beside)
  pub salvage : (net damaged : List ℕ) → SalvageReads net damaged
  -- 10: "the output slice is shorter than it"; no text is longer (TextRoom)
  pub statement : (room : ℕ) → Reads (row (room < 262144) (carries 10 0 0)) (statement_refusal room)
