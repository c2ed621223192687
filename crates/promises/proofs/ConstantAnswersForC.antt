-- A call for C tells the number of an answer that the library's contract allows, so that it varies where that does.
use Prim.Native.Nat.{ℕ}
use mathlib.Core.Path.{◌≡◌, refl, sym, ◌∙◌, ap}
use mathlib.Core.Option.{Option, none, some}
use Rattle.model.specs.Replies.{Reply}
use Rattle.second_form.specs.Dead.{DeadMode}
use Rattle.both_forms.specs.Audit.{Finding}
use Rattle.opened.specs.dead.FirstDead as first
use Rattle.complement.specs.audit.Audits as auditing
use Rattle.answers.specs.declared.Answered.{Answered}
use Rattle.answers.specs.Told.{telling, value_or, naming, named, finding, audited}
use Rattle.promises.specs.ConstantAnswers.{Varies}
use Rattle.promises.specs.ConstantAnswersForC.{ConstantAnswersForC}
use Rattle.promises.proofs.ConstantAnswers.{accepts_and_refuses, constant-answers}

-- the library's contract and C's
module _ {I O P : Type 0} {Allows : I → O → Type 0} {number : O → ℕ} {Tells : I → P → Type 0} {told : P → ℕ} where
  pub tells : Varies Allows number → ((i : I) (p : P) → Tells i p → (o : O) × Allows i o × (told p ≡ number o)) → Varies Tells told
  tells v from =
      accepts_and_refuses _ _ v.not_all_refused.0 v.not_all_accepted.0
      (λ p a. let h = from _ p a in h.2 ∙ v.not_all_refused.1 h.0 h.1)
      (λ p a e. let h = from _ p a in v.not_all_accepted.1 h.0 h.1 (sym h.2 ∙ e))

naming-number : (a : Answered) (found : Option DeadMode) → (naming a found).answer.number ≡ a.number
naming-number a none = refl
naming-number a (some d) = refl

named-number : (r : Reply (Option DeadMode)) → (named r).answer.number ≡ r.carried.number
named-number r = naming-number (telling r.carried) (value_or none r.value)

finding-number : (a : Answered) (found : Option Finding) → (finding a found).answer.number ≡ a.number
finding-number a none = refl
finding-number a (some f) = refl

audited-number : (r : Reply (Option Finding)) → (audited r).answer.number ≡ r.carried.number
audited-number r = finding-number (telling r.carried) (value_or none r.value)

pub constant-answers_for_c : ConstantAnswersForC
constant-answers_for_c =
    let library = constant-answers in
    record {
      read_net = tells library.read_net (λ i p a. (_, refl, ap (λ r. r.answer.number) a));
      read_weights = tells library.read_weights (λ i p a. (_, refl, ap (λ r. r.answer.number) a));
      read_movements = tells library.read_movements (λ i p a. (_, refl, ap (λ r. r.answer.number) a));
      begin = tells library.begin (λ i p a. ((_, p.1), (refl, a.1), ap (λ r. r.number) a.0));
      test = tells library.test (λ i p a. (_, refl, ap (λ r. r.number) a));
      fire = tells library.fire (λ i p a. ((_, p.1), (refl, a.1), ap (λ r. r.number) a.0));
      test_step = tells library.test_step (λ i p a. (_, refl, ap (λ r. r.number) a));
      fire_step = tells library.fire_step (λ i p a. ((_, p.1), (refl, a.1), ap (λ r. r.number) a.0));
      run = tells library.run (λ i p a. ((_, p.1), (refl, a.1), ap (λ r. r.answer.number) a.0));
      certify = tells library.certify (λ i p a. (_, refl, ap (λ r. r.number) a));
      figure = tells library.figure (λ i p a. (_, refl, ap (λ r. r.answer.number) a));
      change = tells library.change (λ i p a. (_, refl, ap (λ r. r.answer.number) a));
      fleet_add = tells library.add_ship (λ i p a. ((_, p.1), (refl, a.1), ap (λ r. r.number) a.0));
      exclude = tells library.exclude (λ i p a. (_, refl, ap (λ r. r.number) a));
      is_dead = tells library.is_dead (λ i p a. (_, refl, ap (λ r. r.answer.number) a));
      first_dead =
          tells library.first_dead (λ i p a. (_, refl, ap (λ r. r.answer.number) a ∙ named-number (first.told (first.first_dead_of i))));
      size = tells library.size (λ i p a. (_, refl, ap (λ r. r.answer.number) a));
      complement = tells library.complement (λ i p a. ((_, p.1), (refl, a.1), ap (λ r. r.answer.number) a.0));
      to_version2 = tells library.to_version2 (λ i p a. ((_, p.1), (refl, a.1), ap (λ r. r.answer.number) a.0));
      to_version1 = tells library.to_version1 (λ i p a. ((_, p.1), (refl, a.1), ap (λ r. r.answer.number) a.0));
      strip = tells library.strip (λ i p a. ((_, p.1), (refl, a.1), ap (λ r. r.answer.number) a.0));
      export_pnml = tells library.export_pnml (λ i p a. ((_, p.1), (refl, a.1), ap (λ r. r.answer.number) a.0));
      import_pnml = tells library.import_pnml (λ i p a. ((a.0, p.1), a.1, ap (λ r. r.answer.number) a.2));
      audit = tells library.audit (λ i p a. (_, refl, ap (λ r. r.answer.number) a ∙ audited-number (auditing.told (auditing.audited_of i.0 i.1 i.2))));
      salvage = tells library.salvage (λ i p a. ((_, p.1), (refl, a.1), ap (λ r. r.answer.number) a.0));
      statement = tells library.statement (λ i p a. ((_, p.1), (refl, a.1), ap (λ r. r.answer.number) a.0));
    }
