-- What an arc as a sheet writes it stands for.
use Rattle.model.specs.declared.Arc.{Arc}
use Rattle.model.specs.Nets.{NetArc}
use Rattle.fields.specs.Numbers.{bound}

abbrev pub net_arc : Arc → NetArc
net_arc a =
    record { mode = a.mode; pair = a.pair; entry = record { pre = a.pre; post = a.post; inhibitor = bound a.inhibitor } }
