-- The complement's arcs of a mode are those that it has of that mode: both versions of its sheet, told by rows.
use Prim.Native.Nat.{ℕ, zero, suc, ◌*◌, ◌≤◌, ◌<◌}
use mathlib.Core.Path.{◌≡◌, refl, sym, ◌∙◌, ap}
use mathlib.Core.Bool.{Bool, true, false, not}
use mathlib.Core.List.{List, ◌++◌}
use lib.ListN.{length, get_or, length-append}
use native.Mathlib.Omega.{arith}
use native.Mathlib.Numerals.{add-one}
use Rattle.model.specs.declared.Version.{Version}
use Rattle.model.specs.Rows.{Entry}
use Rattle.model.specs.Nets.{NetArc, PNet, pairs, modes, pair_no, mode_no, K, row}
use Rattle.model.specs.WellFormed.{WellFormed}
use Rattle.second_form.specs.Dead.{is_dead}
use Rattle.second_form.specs.Complement.{blank, complement_row, all_pairs, complement}
use Rattle.model.specs.Lists.{joined, list_if}
use Rattle.movement.proofs.Joined.{joined_ext}
use Rattle.second_form.proofs.Bounded.{below-at-most}
use Rattle.movement.proofs.Each.{Each, each-joined}
use Rattle.opened.specs.Starts.{StartsAre}
use Rattle.opened.proofs.Segments.{in_turn, mode-arcs}
use Rattle.sheets.specs.written.Written.{of_mode, total_bytes, group_bytes, section_bytes}
use Rattle.sheets.proofs.written.SheetLength.{ByMode, section_by-mode}
use Rattle.sheets.proofs.written.ByMode.{of-joined}
use Rattle.complement.specs.sections.Arcs.{row_arcs, row_bytes}
use Rattle.complement.proofs.sections.ModeHalves.{joined-few, one_if, mode-few, complement-arcs}

each_if : (P : NetArc → Type 0) (b : Bool) (a : NetArc) → P a → Each P (list_if b a)
each_if P true a h = (h, tt)
each_if P false a h = tt

module _ (net : PNet) where
  -- what mode t has at pair p in the complement
  abbrev entry_at : ℕ → ℕ → Entry
  entry_at t p = complement_row net.rule (is_dead net (mode_no t)) (pairs net) (K net) (row net (mode_no t)) p

  abbrev arc_at : ℕ → ℕ → NetArc
  arc_at t p = record { mode = mode_no t; pair = pair_no p; entry = entry_at t p }

  row-own : (t : ℕ) → Each (λ a. a.mode.0 ≡ t) (row_arcs net t)
  unfolding row_arcs
  row-own t = each-joined (λ a. a.mode.0 ≡ t) (all_pairs net) _ (λ p h. each_if (λ a. a.mode.0 ≡ t) (not (blank (entry_at t p))) (arc_at t p) refl)

  -- at most one at each pair
  pub row-few : (t : ℕ) → length (row_arcs net t) ≤ 2 * pairs net
  unfolding row_arcs
  row-few t =
      omega (arith, below-at-most (K net) (pairs net), joined-few (all_pairs net) (λ p. list_if (not (blank (entry_at t p))) (arc_at t p)) (λ p. one_if (not (blank (entry_at t p))) (arc_at t p)))

  rows : (t : ℕ) → t < modes net → of_mode (complement net).arcs t ≡ row_arcs net t
  rows t l = ap (λ arcs. of_mode arcs t) (complement-arcs net) ∙ of-joined (row_arcs net) row-own (modes net) t l

  modes-kept : modes (complement net) ≡ modes net
  unfolding complement
  modes-kept = refl

  pub by_mode : ByMode (complement net)
  by_mode = record { is = rw modes-kept (joined_ext (modes net) _ _ rows ∙ sym (complement-arcs net)) }

  pub section_rows : (v : Version) → section_bytes v (complement net) ≡ total_bytes v (length (complement net).arcs) ++ joined (modes net) (row_bytes net v)
  section_rows v =
      section_by-mode v (complement net) by_mode
      ∙ rw modes-kept (ap (λ bytes. total_bytes v (length (complement net).arcs) ++ bytes) (joined_ext (modes net) _ _ (λ t l. ap (group_bytes v) (rows t l))))

-- and at most two for each arc of the modes so far
module _ (net : PNet) (wf : WellFormed net) {starts : List ℕ} (are : StartsAre net.arcs starts) where
  rows_few : (t : ℕ) → t ≤ 256 → length (joined t (row_arcs net)) ≤ 2 * get_or starts t 0
  unfolding joined
  rows_few zero h = omega arith
  rows_few (suc t) h =
      let first = are.each t (omega arith) in
      let next = rw (← add-one t) at (are.each (suc t) (omega arith)) in
      let few = mode-few net wf t _ _ (mode-arcs net.arcs (mode_no t) _ _ first next) in
      rw (← add-one t) (omega (arith, length-append (joined t (row_arcs net)) (row_arcs net t), rows_few t (omega arith), few, in_turn net.arcs (mode_no t) _ _ first next))

  pub arcs-few : (t : ℕ) → t ≤ 256 → length (joined t (row_arcs net)) ≤ 2 * length net.arcs
  arcs-few t h = omega (arith, rows_few t h, (are.each t (omega arith)).inside)
