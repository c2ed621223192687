-- The figure of a marking and a mode's weight change: what each call answers.
-- "Across things: net, weights, movements, then the marking (17, then pair by pair 5 before 9), then the mode (6, ..)."
use Rattle.std.specs.Prelude.{ℕ, List, ℤ, Result, Ok, Err}
use Rattle.std.proofs.Math.Option.{Option, none, some}
use Rattle.model.specs.declared.Mode.{Mode}
use Rattle.model.specs.declared.Thing.TheVariants.{Argument}
use Rattle.model.specs.declared.Refusal.{Refusal}
use Rattle.model.specs.First.{◌▸◌}
use Rattle.model.specs.Replies.{Reply, yields, refuses}
use Rattle.model.specs.Nets.{pairs, modes}
use Rattle.model.specs.Markings.{marking_refusal}
use Rattle.model.specs.Firing.{absent}
use Rattle.movement.specs.Figures.{figure, change}
use Rattle.sheets.specs.Whole.{whole_net, whole_weights}
use Rattle.sheets.specs.Decoded.{net_of, weights_of}

-- the first refusal, if there is one, or the value
unfoldable pub figured : Option Refusal → ℤ → Result ℤ Refusal
figured none value = Ok value
figured (some r) value = Err r

-- the number, thing, position and value of each answer
abbrev pub told : Result ℤ Refusal → Reply ℤ
told (Ok value) = yields value
told (Err r) = refuses r

unfoldable pub figure_refusal : List ℕ → List ℕ → List ℕ → Option Refusal
figure_refusal net weights marking = whole_net net ▸ whole_weights (pairs (net_of net)) weights ▸ marking_refusal (net_of net) marking

unfoldable pub change_refusal : List ℕ → List ℕ → Mode → Option Refusal
change_refusal net weights t = whole_net net ▸ whole_weights (pairs (net_of net)) weights ▸ absent Argument (modes (net_of net)) t

abbrev pub figure_of : List ℕ → List ℕ → List ℕ → Result ℤ Refusal
figure_of net weights marking = figured (figure_refusal net weights marking) (figure (net_of net) (weights_of weights) marking)

abbrev pub change_of : List ℕ → List ℕ → Mode → Result ℤ Refusal
change_of net weights t = figured (change_refusal net weights t) (change (net_of net) (weights_of weights) t)
