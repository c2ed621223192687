-- begin, test and fire over a net sheet and a lent marking: what each answers, and what it leaves in the marking.
-- "Across things: net, weights, movements, then the marking (17, then pair by pair 5 before 9), then the mode (6, 11 over all pairs, 12, 13, 14)."
use Rattle.std.specs.Prelude.{ℕ, List}
use Rattle.std.proofs.Math.Option.{Option}
use Rattle.model.specs.declared.Mode.{Mode}
use Rattle.model.specs.declared.Thing.TheVariants.{Argument}
use Rattle.model.specs.declared.Refusal.{Refusal}
use Rattle.model.specs.First.{◌▸◌}
use Rattle.model.specs.Nets.{PNet}
use Rattle.model.specs.Markings.{unequal, marking_refusal}
use Rattle.model.specs.Firing.{mode_refusal, fired}
use Rattle.sheets.specs.Whole.{whole_net}
use Rattle.sheets.specs.Decoded.{net_of}
use Rattle.leaving.specs.Leaving.{written}

-- begin: net, then 17; it writes the net's first marking
unfoldable pub begin_refusal : List ℕ → List ℕ → Option Refusal
begin_refusal net marking = whole_net net ▸ unequal (net_of net) marking

abbrev pub begun : List ℕ → List ℕ → List ℕ
begun net marking = written (begin_refusal net marking) (net_of net).start marking

-- the marking, then the mode, of a call that takes both
abbrev pub argument_refusal : PNet → List ℕ → Mode → Option Refusal
argument_refusal net m t = marking_refusal net m ▸ mode_refusal Argument net t m

-- test and fire
unfoldable pub test_refusal : List ℕ → List ℕ → Mode → Option Refusal
test_refusal net marking t = whole_net net ▸ argument_refusal (net_of net) marking t

abbrev pub fired_by : List ℕ → List ℕ → Mode → List ℕ
fired_by net marking t = written (test_refusal net marking t) (fired (net_of net) t marking) marking
