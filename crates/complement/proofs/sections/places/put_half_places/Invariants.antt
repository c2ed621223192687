-- The bytes of the places passed are put, and the next one's pairs start at `first`.
use mathlib.Core.Path.{◌≡◌}
use Rattle.model.specs.Lists.{joined}
use Rattle.sheets.specs.Decoded.{net_of}
use Rattle.complement.specs.sections.Places.{place_bytes}
use Rattle.model.specs.Nets.{first_pair_of}
use Rattle.sheets.specs.written.Puts.{Puts}
use Rattle.complement.proofs.sections.places.put_half_places.Given as goal

abbrev pub invariant-loop-place : goal.invariant-loop-place
invariant-loop-place l =
    (l.first ≡ first_pair_of (net_of l.bounded.net.now.sheet.now) l.place) × Puts l.initial.out l.at (joined l.place (place_bytes (net_of l.bounded.net.now.sheet.now) l.half)) l.out l.next
