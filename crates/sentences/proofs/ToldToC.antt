-- What C is told carries what the answer carries.
use mathlib.Core.Path.{◌≡◌, refl, ◌∙◌, ap}
use mathlib.Core.Option.{Option, none, some}
use Rattle.model.specs.Replies.{Reply}
use Rattle.second_form.specs.Dead.{DeadMode}
use Rattle.both_forms.specs.Audit.{Finding}
use Rattle.opened.specs.dead.FirstDead as first
use Rattle.complement.specs.audit.Audits as auditing
use Rattle.answers.specs.declared.Answered.{Answered}
use Rattle.answers.specs.Told.{telling, value_or, naming, finding}
use Rattle.sentences.specs.Calls.{Public, carried_to_c, call, told}
use Rattle.sentences.specs.Contract.{ToldToC, ForCToo}

naming-carried : (a : Answered) (found : Option DeadMode) → carried_to_c (naming a found).answer ≡ carried_to_c a
naming-carried a none = refl
naming-carried a (some d) = refl

finding-carried : (a : Answered) (found : Option Finding) → carried_to_c (finding a found).answer ≡ carried_to_c a
finding-carried a none = refl
finding-carried a (some f) = refl

pub carried-told : (c : Public) (g : (call c).Given) (a : (call c).Answers) → (told c).carried ((told c).tell g a) ≡ (call c).carried a
carried-told Public.read_net g a = refl
carried-told Public.read_weights g a = refl
carried-told Public.read_movements g a = refl
carried-told Public.begin g a = refl
carried-told Public.test g a = refl
carried-told Public.fire g a = refl
carried-told Public.test_step g a = refl
carried-told Public.fire_step g a = refl
carried-told Public.run g a = refl
carried-told Public.certify g a = refl
carried-told Public.figure g a = refl
carried-told Public.change g a = refl
carried-told Public.fleet_add g a = refl
carried-told Public.exclude g a = refl
carried-told Public.is_dead g a = refl
carried-told Public.first_dead g a = let r : Reply (Option DeadMode) = first.told a in naming-carried (telling r.carried) (value_or none r.value)
carried-told Public.size g a = refl
carried-told Public.complement g a = refl
carried-told Public.to_version2 g a = refl
carried-told Public.to_version1 g a = refl
carried-told Public.strip g a = refl
carried-told Public.export_pnml g a = refl
carried-told Public.import_pnml g a = refl
carried-told Public.audit g a = let r : Reply (Option Finding) = auditing.told a in finding-carried (telling r.carried) (value_or none r.value)
carried-told Public.salvage g a = refl
carried-told Public.statement g a = refl

pub told-to-c : ToldToC
told-to-c c g d left h = (h.0, h.1, ap (told c).carried h.2 ∙ carried-told c g h.0)

pub for-c-too : ForCToo
for-c-too c i j Holds holds d d' l l' h h' = (h.0, h'.0, holds h.0 h'.0 l l' h.1 h'.1, h.2, h'.2)
