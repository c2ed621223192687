-- The calls for C: their source's contracts and `ForC`.
use Rattle.std.specs.Prelude.{ℕ, Result}
use Rattle.model.specs.declared.Refusal.{Refusal}
use mathlib.Core.Path.{◌≡◌, refl, ◌∙◌, ap}
use mathlib.Core.Logic.{◌↔◌}
use Rattle.sheets.specs.Emitted as emitting
use Rattle.opened.specs.dead.IsDead as one
use Rattle.opened.specs.dead.FirstDead as first
use Rattle.opened.specs.size.Sizes as sizes
use Rattle.complement.specs.audit.Audits as audits
use Rattle.run.specs.salvage.Salvaged as salvages
use Rattle.statement.specs.weigh.Calls as figuring
use Rattle.answers.specs.declared.Counted.{Counted}
use Rattle.answers.specs.Told.{answered, counted, weighed, decided, named, sized, audited, reported}
use Rattle.abi.specs.Told.{ran, taken}
use Rattle.sentences.specs.Calls.{Public}
use Rattle.sentences.specs.StatedForC.{StatedForC}

module _ {A D : Type 0} (tell : A → D) (x : A) (d : D) where
  answers : (d ≡ tell x) ↔ ((a : A) × (a ≡ x) × (d ≡ tell a))
  answers = (λ h. (x, refl, h), λ h. h.2 ∙ ap tell h.1)

  leaves : {L : Type 0} (y l : L) → ((d ≡ tell x) × (l ≡ y)) ↔ ((a : A) × ((a ≡ x) × (l ≡ y)) × (d ≡ tell a))
  leaves y l = (λ h. (x, (refl, h.1), h.0), λ h. (h.2 ∙ ap tell h.1.0, h.1.1))

abbrev emits : Result ℕ Refusal → Counted
emits e = counted (emitting.told e)

pub stated-for-c : StatedForC
stated-for-c Public.read_net g d l = answers (taken g) _ d
stated-for-c Public.read_weights g d l = answers (taken g.0) _ d
stated-for-c Public.read_movements g d l = answers (taken g) _ d
stated-for-c Public.begin g d l = leaves answered _ d _ l
stated-for-c Public.test g d l = answers answered _ d
stated-for-c Public.fire g d l = leaves answered _ d _ l
stated-for-c Public.test_step g d l = answers answered _ d
stated-for-c Public.fire_step g d l = leaves answered _ d _ l
stated-for-c Public.run g d l = leaves ran _ d _ l
stated-for-c Public.certify g d l = answers answered _ d
stated-for-c Public.figure g d l = answers (λ f. weighed (figuring.told f)) _ d
stated-for-c Public.change g d l = answers (λ f. weighed (figuring.told f)) _ d
stated-for-c Public.fleet_add g d l = leaves answered _ d _ l
stated-for-c Public.exclude g d l = answers answered _ d
stated-for-c Public.is_dead g d l = answers (λ a. decided (one.told a)) _ d
stated-for-c Public.first_dead g d l = answers (λ a. named (first.told a)) _ d
stated-for-c Public.size g d l = answers (λ a. sized (sizes.told a)) _ d
stated-for-c Public.audit g d l = answers (λ a. audited (audits.told a)) _ d
stated-for-c Public.complement g d l = leaves emits _ d _ l
stated-for-c Public.to_version2 g d l = leaves emits _ d _ l
stated-for-c Public.to_version1 g d l = leaves emits _ d _ l
stated-for-c Public.strip g d l = leaves emits _ d _ l
stated-for-c Public.export_pnml g d l = leaves emits _ d _ l
stated-for-c Public.import_pnml g d l = (λ h. h, λ h. h)
stated-for-c Public.salvage g d l = leaves (λ a. reported (salvages.told a)) _ d _ l
stated-for-c Public.statement g d l = leaves emits _ d _ l
