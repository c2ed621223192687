-- Is this mode locally dead: "One call takes a net and a mode (the net's refusals, then 6) and gives yes or no."
use Rattle.std.specs.Prelude.{ℕ, Bool, List, Result, Ok, Err}
use Rattle.std.proofs.Math.Option.{Option, none, some}
use Rattle.model.specs.declared.Mode.{Mode}
use Rattle.model.specs.declared.Thing.TheVariants.{Argument}
use Rattle.model.specs.declared.Refusal.{Refusal}
use Rattle.model.specs.First.{◌▸◌}
use Rattle.model.specs.Replies.{Reply, yields, refuses}
use Rattle.model.specs.Nets.{modes}
use Rattle.model.specs.Firing.{absent}
use Rattle.second_form.specs.Dead.{is_dead}
use Rattle.sheets.specs.Whole.{whole_net}
use Rattle.sheets.specs.Decoded.{net_of}

-- the first refusal, if there is one, or yes or no
abbrev pub deadness : Option Refusal → Bool → Result Bool Refusal
deadness none dead = Ok dead
deadness (some r) dead = Err r

-- the number, thing, position and value of each answer
abbrev pub told : Result Bool Refusal → Reply Bool
told (Ok dead) = yields dead
told (Err r) = refuses r

unfoldable pub dead_refusal : List ℕ → Mode → Option Refusal
dead_refusal net t = whole_net net ▸ absent Argument (modes (net_of net)) t

abbrev pub deadness_of : List ℕ → Mode → Result Bool Refusal
deadness_of net t = deadness (dead_refusal net t) (is_dead (net_of net) t)
