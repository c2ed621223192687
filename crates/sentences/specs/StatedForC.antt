-- What crate abi's source states of the calls for C, and `ForC`, are the same: so what is proved of `ForC` holds of them.
use Rattle.std.specs.Prelude.{◌↔◌}
use Rattle.abi.specs.Allowed as abi
use Rattle.sentences.specs.Calls.{Public, call, told, ForC}

-- the contract of each call for C, as its source states it
abbrev pub stated : (c : Public) → (call c).Given → (told c).Told → (call c).Lent → Type 0
stated Public.read_net g d l = abi.ReadNetAllows g d
stated Public.read_weights g d l = abi.ReadWeightsAllows g.0 g.1 d
stated Public.read_movements g d l = abi.ReadMovementsAllows g d
stated Public.begin g d l = abi.BeginAllows g.0 g.1 (d, l)
stated Public.test g d l = abi.TestAllows g.0 g.1 g.2 d
stated Public.fire g d l = abi.FireAllows g.0 g.1 g.2 (d, l)
stated Public.test_step g d l = abi.TestStepAllows g.0 g.1 g.2 d
stated Public.fire_step g d l = abi.FireStepAllows g.0 g.1 g.2 (d, l)
stated Public.run g d l = abi.RunAllows g.0 g.1 g.2 (d, l)
stated Public.certify g d l = abi.CertifyAllows g.0 g.1 g.2 d
stated Public.figure g d l = abi.FigureAllows g.0 g.1 g.2 d
stated Public.change g d l = abi.ChangeAllows g.0 g.1 g.2 d
stated Public.fleet_add g d l = abi.FleetAddAllows g.0 g.1 g.2 g.3 (d, l)
stated Public.exclude g d l = abi.ExcludeAllows g.0 g.1 g.2 d
stated Public.is_dead g d l = abi.IsDeadAllows g.0 g.1 d
stated Public.first_dead g d l = abi.FirstDeadAllows g d
stated Public.size g d l = abi.SizeAllows g d
stated Public.audit g d l = abi.AuditAllows g.0 g.1 g.2 d
stated Public.complement g d l = abi.ComplementAllows g.0 g.1 (d, l)
stated Public.to_version2 g d l = abi.ToVersion2Allows g.0 g.1 (d, l)
stated Public.to_version1 g d l = abi.ToVersion1Allows g.0 g.1 (d, l)
stated Public.strip g d l = abi.StripAllows g.0 g.1 g.2 (d, l)
stated Public.export_pnml g d l = abi.ExportPnmlAllows g.0 g.1 (d, l)
stated Public.import_pnml g d l = abi.ImportPnmlAllows g.0 g.1 (d, l)
stated Public.salvage g d l = abi.SalvageAllows g.0 g.1 g.2 (d, l)
stated Public.statement g d l = abi.StatementAllows g.0 g.1 (d, l)

abbrev pub StatedForC : Type 0
StatedForC = (c : Public) (g : (call c).Given) (d : (told c).Told) (left : (call c).Lent) → stated c g d left ↔ ForC c g d left
