-- Two runs of one net sheet and marking, with two movement sheets: both are refused before the first movement, or they are two runs of the model.
use Prim.Native.Nat.{ℕ}
use mathlib.Core.Path.{◌≡◌, refl}
use mathlib.Core.List.{List}
use mathlib.Core.Option.{Option, none, some}
use lib.ListN.{length}
use Rattle.model.specs.declared.Refusal.{Refusal}
use Rattle.model.specs.First.{◌▸◌}
use Rattle.model.specs.Markings.{marking_refusal, Marking}
use Rattle.both_forms.specs.Orders.{EndAlike}
use Rattle.model.proofs.First.{right-none, none_then, then-under}
use Rattle.movement.proofs.Markings.{marking-test}
use Rattle.both_forms.proofs.Orders.{orders, interleavings}
use Rattle.both_forms.proofs.ApartInBoth.{orders_in_both_lem}
use Rattle.sheets.specs.Whole.{whole_net, whole_movements}
use Rattle.sheets.specs.Decoded.{net_of, movements_of}
use Rattle.run.specs.Calls.{before_run, run_of}
use Rattle.complement.specs.Complemented.{complementing_refusal}
use Rattle.promises.specs.TwoOrders.{RunsEndAlike, TwoOrders}
use Rattle.promises.proofs.DemandThree.{complementable}
use Rattle.promises.proofs.TwoRuns.{length-accepted, written}

before-is : (net movements marking : List ℕ) → whole_movements movements ≡ none
    → before_run net movements marking ≡ whole_net net ▸ marking_refusal (net_of net) marking
unfolding before_run
before-is net movements marking w = then-under (whole_net net) (λ _. none_then w refl)

module _ (net marking one other : List ℕ) (w : (whole_movements one ≡ none) × (whole_movements other ≡ none))
    (alike : Marking (net_of net) marking → EndAlike (net_of net) (movements_of one) (movements_of other) marking) where
  end-alike : RunsEndAlike net marking one other
  unfolding run_of
  end-alike = go (whole_net net ▸ marking_refusal (net_of net) marking) refl
    where
      go : (o : Option Refusal) → whole_net net ▸ marking_refusal (net_of net) marking ≡ o → RunsEndAlike net marking one other
      go none e =
          let h = alike ((marking-test (net_of net) marking).0 (right-none (whole_net net) _ e)) in
          record {
            accepted = rw (before-is net one marking w.0, before-is net other marking w.1, e) h.accepted;
            end = rw (before-is net one marking w.0, before-is net other marking w.1, e) h.marking;
          }
      go (some r) e =
          record {
            accepted = rw (before-is net one marking w.0, before-is net other marking w.1, e) (λ q. q, λ q. q);
            end = rw (before-is net one marking w.0, before-is net other marking w.1, e) (λ q. refl);
          }

pub two-orders : TwoOrders
two-orders =
    record {
      two_modes = λ net marking one other t u s apart.
          end-alike net marking one other s.is_sheet (λ m. rw (s.one_lists, s.other_lists) (orders (net_of net) t u apart marking m));
      two_lists = λ net marking one other ts us s apart.
          end-alike net marking one other s.is_sheet (interleavings (net_of net) ts us _ _ apart s.one_lists s.other_lists marking);
      in_complement = λ net out n e t u apart.
          let q = length-accepted (complementing_refusal net (length out)) _ e in
          rw (written net out q e).same ((orders_in_both_lem (net_of net) (complementable net (length out) q).well_formed t u).carries_over apart);
    }
