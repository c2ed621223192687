-- The promises about locally dead modes.
use mathlib.Core.Path.{◌≡◌, sym, ◌∙◌, ap}
use mathlib.Core.Bool.{Bool, true, false}
use mathlib.Core.Option.{Option, none, some}
use Rattle.model.specs.declared.Refusal.{Refusal}
use Rattle.second_form.specs.Dead.{is_dead, DeadMode, first_dead}
use Rattle.second_form.proofs.Dead.{dead-modes, first-dead, none-dead}
use Rattle.sheets.specs.Decoded.{net_of}
use Rattle.opened.specs.dead.IsDead.{deadness}
use Rattle.opened.specs.dead.IsDead as one
use Rattle.opened.specs.dead.FirstDead.{named}
use Rattle.opened.specs.dead.FirstDead as first
use Rattle.opened.specs.dead.Promises.{SaysDead, NamesFirst}

-- an accepted call has its value
pub value-is : {o : Option Refusal} (dead : Bool) → o ≡ none → (one.told (deadness o dead)).value ≡ some dead
value-is true e = rw e
value-is false e = rw e

value-named : {o : Option Refusal} (found : Option DeadMode) → o ≡ none → (first.told (named o found)).value ≡ some found
value-named none e = rw e
value-named (some d) e = rw e

pub says-dead : SaysDead
says-dead net t e = (
  λ h. (dead-modes (net_of net) t).0 (let g : some (is_dead (net_of net) t) ≡ some true = sym (value-is _ e) ∙ h in cc),
  λ d. value-is _ e ∙ ap some ((dead-modes (net_of net) t).1 d),
)

pub names_first_lem : NamesFirst
names_first_lem net e =
    let is = value-named (first_dead (net_of net)) e in
    record {
      at = λ t p. (
        λ h. (first-dead (net_of net) t p).0 (let g : some (first_dead (net_of net)) ≡ some (some _) = sym is ∙ h in cc),
        λ l. is ∙ ap some ((first-dead (net_of net) t p).1 l),
      );
      nowhere = (
        λ h. (none-dead (net_of net)).0 (let g : some (first_dead (net_of net)) ≡ some none = sym is ∙ h in cc),
        λ no. is ∙ ap some ((none-dead (net_of net)).1 no),
      );
    }
