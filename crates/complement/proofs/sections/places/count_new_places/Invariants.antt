-- The places passed have become so many, and the next one's pairs start at `first`.
use Prim.Native.Nat.{◌≤◌}
use mathlib.Core.Path.{◌≡◌}
use lib.ListN.{length}
use Rattle.model.specs.Lists.{joined}
use Rattle.sheets.specs.Decoded.{net_of}
use Rattle.halves.specs.declared.half.Half.TheVariants.{Complement}
use Rattle.complement.specs.sections.Places.{half_place}
use Rattle.model.specs.Nets.{first_pair_of}
use Rattle.complement.proofs.sections.places.count_new_places.Given as goal

abbrev pub invariant-loop-place : goal.invariant-loop-place
invariant-loop-place l =
    (l.first ≡ first_pair_of (net_of l.bounded.net.now.sheet.now) l.place) × (l.count ≡ length (joined l.place (half_place (net_of l.bounded.net.now.sheet.now) Complement))) × (l.count ≤ l.place)
