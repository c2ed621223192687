-- The sheet of a net with a transition appended, in three parts: head and counts, what each place, transition and pair has, and the arcs.
-- A reader of the promises may skip this file.
use Rattle.std.specs.Prelude.{ℕ, ◌+◌, ◌≤◌, ◌≡◌, Bool, not, ◌&&◌, leb, ltb, length}
use mathlib.Core.List.{List, [], ◌∷◌, ◌++◌, flat_map}
use Rattle.std.proofs.Math.Option.{Option, none}
use Rattle.model.specs.declared.Pair.{Pair}
use Rattle.model.specs.declared.Version.{Version}
use Rattle.model.specs.declared.Thing.TheVariants.{Net}
use Rattle.model.specs.declared.Fault.TheVariants.{NoRoom}
use Rattle.model.specs.declared.Refusal.{Refusal}
use Rattle.model.specs.First.{◌▸◌, only_if}
use Rattle.model.specs.Numbers.{fin}
use Rattle.model.specs.Nets.{PNet, rule_number, mode_no, K}
use Rattle.model.specs.Refusals.{wrong}
use Rattle.sheets.specs.Decoded.{net_of}
use Rattle.opened.specs.declared.shape.NetShape.{NetShape}
use Rattle.opened.specs.Shape.{Open}
use Rattle.sheets.specs.written.Written.{bytes16, head_bytes, pairs_bytes, length_of, group_bytes}
use Rattle.sheets.specs.written.Puts.{sheet_size}
use Rattle.bare.specs.Strip.{strip_entry, strip_refusal}

module _ (net : PNet) where
  -- "a 4-byte length L .., a version byte ..; Place count ..; transition count"
  unfoldable pub counts_bytes : Version → List ℕ
  counts_bytes v = head_bytes v (rule_number net.rule) (length_of v net) ++ (bytes16 (length net.colours) ++ bytes16 (length net.modes_of))

  -- "colours of each place ..; modes of each transition .."
  unfoldable pub numbers_bytes : List ℕ
  numbers_bytes = flat_map bytes16 net.colours ++ flat_map bytes16 net.modes_of

-- the same with the new transition's modes, and "for each pair K and the first marking"
unfoldable pub records_bytes : PNet → ℕ → List ℕ
records_bytes net k = numbers_bytes net ++ (bytes16 (k + 1) ++ pairs_bytes net)

-- a new mode's one arc, with its count where the version has it; `before` modes stand before the new ones
unfoldable pub new_group : Version → ℕ → Pair → ℕ → List ℕ
new_group v before p n = group_bytes v (record { mode = mode_no (before + n); pair = p; entry = strip_entry n } ∷ [])

-- 10 by the numbers of a net's shape
abbrev pub in_limits : NetShape → ℕ → Bool
in_limits net k = leb k 63 && leb (net.transitions + 1) 64 && leb (net.modes + (k + 1)) 256 && leb (net.arcs + (k + 1)) 2048

-- the numbers that the new sheet has, and its length
pub record Numbers (net : NetShape) (k : ℕ) : Type 0 where
  pub deep : k ≤ 63
  pub places : net.places ≤ 64
  pub transitions : net.transitions + 1 ≤ 64
  pub pairs : net.pairs ≤ 256
  pub modes : net.modes + (k + 1) ≤ 256
  pub arcs : net.arcs + (k + 1) ≤ 2048

abbrev pub new_size : NetShape → ℕ → ℕ
new_size net k = sheet_size net.version net.places (net.transitions + 1) net.pairs (net.modes + (k + 1)) (net.arcs + (k + 1))

unfoldable pub sizes_refusal : NetShape → ℕ → ℕ → Option Refusal
sizes_refusal net k room =
    only_if (not (in_limits net k)) (wrong Net NoRoom) ▸ only_if (ltb room (new_size net k)) (wrong Net NoRoom)

-- a net that was read, and a pair of it that is not refused; k is its K
pub record Strips (s : List ℕ) (net : NetShape) (p : Pair) (k : ℕ) : Type 0 where
  pub opened : Open s net
  pub accepted : strip_refusal (net_of s) p ≡ none
  pub bound : K (net_of s) p.0 ≡ fin k
