-- The first dead mode: "Another takes a net and gives its lowest locally dead mode with the lowest pair that makes it so, or none".
use Rattle.std.specs.Prelude.{ℕ, List, Result, Ok, Err, Some, None, Option as Perhaps}
use Rattle.std.proofs.Math.Option.{Option, none, some}
use Rattle.model.specs.declared.Mode.{Mode}
use Rattle.model.specs.declared.Pair.{Pair}
use Rattle.model.specs.declared.Refusal.{Refusal}
use Rattle.model.specs.Replies.{Reply, yields, refuses}
use Rattle.second_form.specs.Dead.{DeadMode, first_dead}
use Rattle.sheets.specs.Whole.{whole_net}
use Rattle.sheets.specs.Decoded.{net_of}

-- a mode and a pair, or none
abbrev pub name : Option DeadMode → Perhaps (Mode × Pair)
name none = None
name (some d) = Some (d.mode, d.pair)

-- the first refusal, if there is one, or what the search names
abbrev pub named : Option Refusal → Option DeadMode → Result (Perhaps (Mode × Pair)) Refusal
named none found = Ok (name found)
named (some r) found = Err r

-- the number, thing, position and value of each answer
abbrev pub told : Result (Perhaps (Mode × Pair)) Refusal → Reply (Option DeadMode)
told (Ok (Some (t, p))) = yields (some (record { mode = t; pair = p }))
told (Ok None) = yields none
told (Err r) = refuses r

abbrev pub first_dead_of : List ℕ → Result (Perhaps (Mode × Pair)) Refusal
first_dead_of net = named (whole_net net) (first_dead (net_of net))
