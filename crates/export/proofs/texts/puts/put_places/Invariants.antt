-- The places passed are put.
use Rattle.model.specs.Lists.{joined}
use Rattle.sheets.specs.Decoded.{net_of}
use Rattle.sheets.specs.written.Puts.{Puts}
use Rattle.export.specs.texts.Parts.{place_of}
use Rattle.export.proofs.texts.puts.put_places.Given as goal

abbrev pub invariant-loop-p : goal.invariant-loop-p
invariant-loop-p l = Puts l.initial.out l.at (joined l.p (place_of (net_of l.net.sheet.now))) l.out l.next
