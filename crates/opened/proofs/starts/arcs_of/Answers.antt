-- From the table's entry of the mode to the next.
use Prim.Native.Nat.{◌+◌, ◌<◌}
use lib.ListN.{get_or}
use native.Mathlib.Omega.{arith}
use Rattle.sheets.specs.Decoded.{net_of}
use Rattle.opened.specs.Starts.{FirstFrom}
use Rattle.opened.proofs.Shapes.{sizes}
use Rattle.opened.proofs.Segments.{in_turn, segment-of}
use Rattle.opened.proofs.starts.arcs_of.Goals as goal

pub returns : goal.returns
returns c = let there : c.args.mode.0 < 256 = omega (arith, sizes c.args.net.now.is_open) in let starts : let a = c.args in FirstFrom (net_of a.net.now.sheet.now).arcs a.mode.0 (get_or a.starts.now a.mode.0 0) = c.requires.starts_are.each _ (omega (arith, there)) in let ends : let a = c.args in FirstFrom (net_of a.net.now.sheet.now).arcs (a.mode.0 + 1) (get_or a.starts.now (a.mode.0 + 1) 0) = c.requires.starts_are.each _ (omega (arith, there)) in
    segment-of _ _ _ _ starts ends

pub bounds-starts-t : goal.bounds-starts-t
bounds-starts-t c = let there : c.args.mode.0 < 256 = omega (arith, sizes c.args.net.now.is_open) in
    omega (arith, there)

pub overflow_cast-start : goal.overflow_cast-start
overflow_cast-start c = let there : c.args.mode.0 < 256 = omega (arith, sizes c.args.net.now.is_open) in let starts : let a = c.args in FirstFrom (net_of a.net.now.sheet.now).arcs a.mode.0 (get_or a.starts.now a.mode.0 0) = c.requires.starts_are.each _ (omega (arith, there)) in
    omega (arith, starts, sizes c.args.net.now.is_open)

pub bounds-starts-t-2 : goal.bounds-starts-t-2
bounds-starts-t-2 c = let there : c.args.mode.0 < 256 = omega (arith, sizes c.args.net.now.is_open) in
    omega (arith, there)

pub overflow_cast-end : goal.overflow_cast-end
overflow_cast-end c = let there : c.args.mode.0 < 256 = omega (arith, sizes c.args.net.now.is_open) in let ends : let a = c.args in FirstFrom (net_of a.net.now.sheet.now).arcs (a.mode.0 + 1) (get_or a.starts.now (a.mode.0 + 1) 0) = c.requires.starts_are.each _ (omega (arith, there)) in
    omega (arith, ends, sizes c.args.net.now.is_open)

pub overflow_sub-result : goal.overflow_sub-result
overflow_sub-result c = let there : c.args.mode.0 < 256 = omega (arith, sizes c.args.net.now.is_open) in let starts : let a = c.args in FirstFrom (net_of a.net.now.sheet.now).arcs a.mode.0 (get_or a.starts.now a.mode.0 0) = c.requires.starts_are.each _ (omega (arith, there)) in let ends : let a = c.args in FirstFrom (net_of a.net.now.sheet.now).arcs (a.mode.0 + 1) (get_or a.starts.now (a.mode.0 + 1) 0) = c.requires.starts_are.each _ (omega (arith, there)) in
    in_turn _ c.args.mode _ _ starts ends
