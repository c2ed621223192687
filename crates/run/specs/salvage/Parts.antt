-- What the private functions of this crate speak of. A reader of the promises may skip this file.
use Rattle.std.specs.Prelude.{ℕ, List}
use Rattle.both_forms.specs.Visits.{visited}
use Rattle.sheets.specs.Decoded.{net_of}
use Rattle.run.specs.declared.Ran.{Ran}
use Rattle.run.specs.Calls.{ran_of}
use Rattle.damaged.specs.Damaged.{modes_in}
use Rattle.run.specs.salvage.Salvaged.{trial}

-- what the run of the modes considered tells
abbrev pub ran_on : List ℕ → List ℕ → Ran
ran_on net damaged = ran_of (trial net damaged) (visited (net_of net) (modes_in damaged) (net_of net).start)
