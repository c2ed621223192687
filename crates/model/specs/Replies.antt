-- What a call that yields a value says: what its answer carries, and the value, which a refused call does not have.
use Rattle.std.proofs.Math.Option.{Option, none, some}
use Rattle.model.specs.declared.Refusal.{Refusal}
use Rattle.std.specs.Prelude.{Ok, Err}
use Rattle.model.specs.Refusals.{Carried, carried}

pub record Reply (A : Type 0) : Type 0 where
  pub carried : Carried
  pub value : Option A

module _ {A : Type 0} where
  abbrev pub yields : A → Reply A
  yields a = record { carried = carried (Ok tt); value = some a }

  abbrev pub refuses : Refusal → Reply A
  refuses r = record { carried = carried (Err r); value = none }
