-- The first field of the arc, below 256.
use Prim.Native.Nat.{◌+◌, ◌*◌, ◌≤◌, ◌<◌}
use mathlib.Core.Path.{◌≡◌, sym, ◌∙◌}
use lib.ListN.{length}
use native.Mathlib.Omega.{arith}
use Rattle.model.specs.Nets.{arc_no}
use Rattle.heads.specs.Bytes.{u16_at}
use Rattle.sheets.specs.Decoded.{net_of}
use Rattle.opened.proofs.Shapes.{shaped, sizes}
use Rattle.opened.proofs.Versions.{mode-there, mode-read}
use Rattle.opened.proofs.starts.arc_mode.Goals as goal

pub overflow_add-net : goal.overflow_add-net
overflow_add-net c = let there : let a = c.args in a.net.now.shape.arcs_at + 2 + 16 * a.k + 2 ≤ length a.net.now.sheet.now = let o = c.args.net.now.is_open in
    rw (shaped o).arcs_offset (mode-there _ o.accepted (sym (shaped o).version ∙ c.requires.version_value) _ (rw (← (shaped o).arcs) c.requires.k_lt_arcs)) in
    omega (arith, there)

pub overflow_mul-k : goal.overflow_mul-k
overflow_mul-k c = let there : let a = c.args in a.net.now.shape.arcs_at + 2 + 16 * a.k + 2 ≤ length a.net.now.sheet.now = let o = c.args.net.now.is_open in
    rw (shaped o).arcs_offset (mode-there _ o.accepted (sym (shaped o).version ∙ c.requires.version_value) _ (rw (← (shaped o).arcs) c.requires.k_lt_arcs)) in
    omega (arith, there)

pub overflow_add-net-2 : goal.overflow_add-net-2
overflow_add-net-2 c = let there : let a = c.args in a.net.now.shape.arcs_at + 2 + 16 * a.k + 2 ≤ length a.net.now.sheet.now = let o = c.args.net.now.is_open in
    rw (shaped o).arcs_offset (mode-there _ o.accepted (sym (shaped o).version ∙ c.requires.version_value) _ (rw (← (shaped o).arcs) c.requires.k_lt_arcs)) in
    omega (arith, there)

pub small_at-requires : goal.small_at-requires
small_at-requires c = let there : let a = c.args in a.net.now.shape.arcs_at + 2 + 16 * a.k + 2 ≤ length a.net.now.sheet.now = let o = c.args.net.now.is_open in
    rw (shaped o).arcs_offset (mode-there _ o.accepted (sym (shaped o).version ∙ c.requires.version_value) _ (rw (← (shaped o).arcs) c.requires.k_lt_arcs)) in let read : let a = c.args in u16_at a.net.now.sheet.now (a.net.now.shape.arcs_at + 2 + 16 * a.k) ≡ (arc_no (net_of a.net.now.sheet.now).arcs a.k).mode.0 = let o = c.args.net.now.is_open in
    rw (shaped o).arcs_offset (mode-read _ o.accepted (sym (shaped o).version ∙ c.requires.version_value) _ (rw (← (shaped o).arcs) c.requires.k_lt_arcs)) in let small : let a = c.args in u16_at a.net.now.sheet.now (a.net.now.shape.arcs_at + 2 + 16 * a.k) < 256 = let z = sizes c.args.net.now.is_open in
    omega (arith, read, (z.well_formed.each_arc c.args.k (rw (← z.arcs) c.requires.k_lt_arcs)).mode) in record { at_in_bounds = there; at_bound = small }

pub returns : goal.returns
returns c = let read : let a = c.args in u16_at a.net.now.sheet.now (a.net.now.shape.arcs_at + 2 + 16 * a.k) ≡ (arc_no (net_of a.net.now.sheet.now).arcs a.k).mode.0 = let o = c.args.net.now.is_open in
    rw (shaped o).arcs_offset (mode-read _ o.accepted (sym (shaped o).version ∙ c.requires.version_value) _ (rw (← (shaped o).arcs) c.requires.k_lt_arcs)) in
    c.small_at.ensures ∙ read
