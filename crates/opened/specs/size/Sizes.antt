-- How large a net is (ours): the net's refusals, then how many pairs, modes and arcs it has.
use Rattle.std.specs.Prelude.{ℕ, List, length, Result, Ok, Err}
use Rattle.std.proofs.Math.Option.{Option, none, some}
use Rattle.model.specs.declared.Refusal.{Refusal}
use Rattle.model.specs.Replies.{Reply, yields, refuses}
use Rattle.model.specs.Nets.{PNet, pairs, modes}
use Rattle.sheets.specs.Whole.{whole_net}
use Rattle.sheets.specs.Decoded.{net_of}
use Rattle.opened.specs.declared.size.NetSize.{NetSize}

abbrev pub size_of : PNet → NetSize
size_of net = record { pairs = pairs net; modes = modes net; arcs = length net.arcs }

-- the first refusal, if there is one, or the size
abbrev pub measured : Option Refusal → NetSize → Result NetSize Refusal
measured none size = Ok size
measured (some r) size = Err r

-- the number, thing, position and value of each answer
abbrev pub told : Result NetSize Refusal → Reply NetSize
told (Ok size) = yields size
told (Err r) = refuses r

abbrev pub measured_of : List ℕ → Result NetSize Refusal
measured_of net = measured (whole_net net) (size_of (net_of net))
