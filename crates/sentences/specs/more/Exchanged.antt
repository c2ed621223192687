-- Exchange with PNML tools (document 02, P5): what comes back by import moves as what was exported did. That import accepts it, and that its text is the same,
-- is in promises/specs/P5.antt.
use Rattle.std.specs.Prelude.{ℕ, List}
use Rattle.sentences.specs.Calls.{Public, call}
use Rattle.sentences.specs.P9.{Within, with_net}
use Rattle.sentences.specs.Demand3.{RunAlike}
use Rattle.sentences.specs.Wrote.{ComplementWrote, ExportWrote, ImportWrote}

-- 1. A net sheet and the one that came back of it, whose places and transitions are others, and whose rule may be, to every call that asks of a net what its
-- pairs and modes do; a contract allows one outcome (`Uniqueness`), so that it holds both ways.
abbrev pub MovesAlike : List ℕ → List ℕ → Type 0
MovesAlike sheet back = (c : Public) (i : (call c).Given) → Within (call c) (with_net c sheet i) (with_net c back i)

abbrev pub MovesAsBefore : Type 0
MovesAsBefore = (sheet text back : List ℕ) → ExportWrote sheet text → ImportWrote text back → MovesAlike sheet back

-- 2. Demand 3 over the exchange: a net runs alike with its complement as it came back.
abbrev pub ComplementComesBack : Type 0
ComplementComesBack = (net sheet text back : List ℕ) → ComplementWrote net sheet → ExportWrote sheet text → ImportWrote text back → RunAlike net back
