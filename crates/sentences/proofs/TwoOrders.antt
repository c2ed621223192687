-- Two runs of one net sheet and marking, with two movement sheets: both are refused before the first movement, or they are two runs of the model.
use Rattle.run.specs.Allowed.{RunAllows}
use Rattle.movement.specs.Runs.{Outcome}
use mathlib.Core.Logic.{◌↔◌}
use Rattle.model.specs.declared.Mode.{Mode}
use Rattle.run.specs.declared.Ran.{Ran}
use Prim.Native.Nat.{ℕ}
use mathlib.Core.Path.{◌≡◌, refl, ap, ◌∙◌, sym}
use mathlib.Core.List.{List}
use mathlib.Core.Option.{Option, none, some}
use Rattle.model.specs.declared.Refusal.{Refusal}
use Rattle.model.specs.First.{◌▸◌}
use Rattle.model.specs.Markings.{marking_refusal, Marking}
use Rattle.both_forms.specs.Orders.{EndAlike, Apart}
use Rattle.model.proofs.First.{right-none, none_then, then-under}
use Rattle.movement.proofs.Markings.{marking-test}
use Rattle.both_forms.proofs.Orders.{orders, interleavings}
use Rattle.both_forms.proofs.ApartInBoth.{orders_in_both_lem}
use Rattle.sheets.specs.Whole.{whole_net, whole_movements}
use Rattle.sheets.specs.Decoded.{net_of, movements_of}
use Rattle.run.specs.Calls.{before_run, run_of}
use Rattle.sentences.specs.Wrote.{ComplementWrote}
use Rattle.sentences.specs.P12.{EitherOrder, TwoOrders}
use Rattle.sentences.specs.more.TwoLists.{TwoLists}
use Rattle.sentences.proofs.Outcomes.{accepted-none, none-accepted}
use Rattle.sentences.proofs.Written.{can-complement, sheet-same}

module _ (net marking one other : List ℕ) where
  abbrev ran : List ℕ → Outcome
  ran movements = run_of net movements marking

  -- "one order is accepted whole exactly when the other is, and both end at one marking"
  pub record RunsEndAlike : Type 0 where
    pub accepted : ((ran one).refusal ≡ none) ↔ ((ran other).refusal ≡ none)
    pub end : (ran one).refusal ≡ none → (ran one).marking ≡ (ran other).marking

before-is : (net movements marking : List ℕ) → whole_movements movements ≡ none
    → before_run net movements marking ≡ whole_net net ▸ marking_refusal (net_of net) marking
unfolding before_run
before-is net movements marking w = then-under (whole_net net) (λ _. none_then w refl)

module _ (net marking one other : List ℕ) (w : (whole_movements one ≡ none) × (whole_movements other ≡ none))
    (alike : Marking (net_of net) marking → EndAlike (net_of net) (movements_of one) (movements_of other) marking) where
  end-alike : RunsEndAlike net marking one other
  unfolding run_of
  end-alike = go (whole_net net ▸ marking_refusal (net_of net) marking) refl
    where
      go : (o : Option Refusal) → whole_net net ▸ marking_refusal (net_of net) marking ≡ o → RunsEndAlike net marking one other
      go none e =
          let h = alike ((marking-test (net_of net) marking).0 (right-none (whole_net net) _ e)) in
          record {
            accepted = rw (before-is net one marking w.0, before-is net other marking w.1, e) h.accepted;
            end = rw (before-is net one marking w.0, before-is net other marking w.1, e) h.marking;
          }
      go (some r) e =
          record {
            accepted = rw (before-is net one marking w.0, before-is net other marking w.1, e) (λ q. q, λ q. q);
            end = rw (before-is net one marking w.0, before-is net other marking w.1, e) (λ q. refl);
          }

-- what the two calls tell and leave
module _ (net marking one other : List ℕ) (alike : RunsEndAlike net marking one other) (r r' : Ran) (left left' : List ℕ)
    (h : RunAllows net one marking (r, left)) (h' : RunAllows net other marking (r', left')) where
  pub either_order : EitherOrder r r' left left'
  either_order =
      let told = ap (λ r. r.answer) h.0 in
      let told' = ap (λ r. r.answer) h'.0 in
      record {
        accepted = (
          λ z. none-accepted told' (alike.accepted.0 (accepted-none told z)),
          λ z. none-accepted told (alike.accepted.1 (accepted-none told' z)),
        );
        marking = λ z. h.1 ∙ alike.end (accepted-none told z) ∙ sym h'.1;
      }

pub two-orders : TwoOrders
two-orders net marking one other t u s apart =
    either_order net marking one other
    (end-alike net marking one other s.is_sheet (λ m. rw (s.one_lists, s.other_lists) (orders (net_of net) t u apart marking m)))

pub two-lists : TwoLists
two-lists net marking one other ts us s apart =
    either_order net marking one other
    (end-alike net marking one other s.is_sheet (interleavings (net_of net) ts us _ _ apart s.one_lists s.other_lists marking))

pub apart-in-complement : (net sheet : List ℕ) → ComplementWrote net sheet → (t u : Mode) → Apart (net_of net) t u → Apart (net_of sheet) t u
apart-in-complement net sheet w t u apart =
    rw (sheet-same net sheet w) ((orders_in_both_lem (net_of net) (can-complement net sheet w).well_formed t u).carries_over apart)
