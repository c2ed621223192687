-- The entries up to p are right, and count is the last of them.
use mathlib.Core.Path.{◌≡◌}
use lib.ListN.{length}
use Rattle.model.specs.Nets.{K}
use Rattle.second_form.specs.Complement.{bounded_below}
use Rattle.sheets.specs.Decoded.{net_of}
use Rattle.halves.proofs.Below.{UpTo}
use Rattle.complement.proofs.sections.bounded.bounded_below.Given as goal

abbrev pub invariant-loop-p : goal.invariant-loop-p
invariant-loop-p l =
    (length l.below ≡ 257) × (l.count ≡ bounded_below (K (net_of l.net.sheet.now)) l.p) × UpTo (K (net_of l.net.sheet.now)) l.below l.p
