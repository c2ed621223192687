-- The promises, from what the model proves of firing.
use Prim.Native.Nat.{ℕ}
use mathlib.Core.Path.{◌≡◌, refl}
use mathlib.Core.List.{List}
use mathlib.Core.Logic.{◌↔◌}
use mathlib.Core.Option.{Option, none, some}
use Rattle.model.specs.declared.Mode.{Mode}
use Rattle.model.specs.declared.Thing.TheVariants.{Argument}
use Rattle.model.specs.declared.Refusal.{Refusal}
use Rattle.model.specs.Markings.{Marking, marking_refusal}
use Rattle.model.specs.Firing.{mode_refusal, fired}
use Rattle.model.proofs.First.{left-none, right-none, none_then}
use Rattle.movement.proofs.Markings.{mode-rule, marking-after, marking-test, marking-kept}
use Rattle.sheets.specs.nets.Nets.{net_refusal}
use Rattle.sheets.specs.Whole.{whole_net}
use Rattle.sheets.specs.Decoded.{net_of}
use Rattle.sheets.proofs.Accepted.{well_formed_lem}
use Rattle.fire.specs.Calls.{begin_refusal, begun, test_refusal, fired_by}
use Rattle.fire.specs.Promises.{Fires, AcceptedBegin, AcceptedFire, MarkingStays}

pub accepted-begin : AcceptedBegin
accepted-begin net marking e = rw e

-- what an accepted test shows of the mode
pub mode-accepted : (net marking : List ℕ) (t : Mode) → test_refusal net marking t ≡ none → mode_refusal Argument (net_of net) t marking ≡ none
unfolding test_refusal
mode-accepted net marking t e = right-none _ _ (right-none (whole_net net) _ e)

accepts-exactly : (net marking : List ℕ) (t : Mode) → (test_refusal net marking t ≡ none) ↔ Fires net marking t
unfolding test_refusal
accepts-exactly net marking t =
    let n = net_of net in
    let rule = mode-rule Argument n t marking in (
      λ e.
          let after = right-none (whole_net net) _ e in
          let fires = rule.0 (right-none _ _ after) in
          record {
            sheet = left-none (whole_net net) _ e;
            marked = (marking-test n marking).0 (left-none _ _ after);
            there = fires.0;
            enabled = fires.1;
            within = fires.2;
          },
      λ f. none_then f.sheet (none_then ((marking-test n marking).1 f.marked) (rule.1 (f.there, f.enabled, f.within))),
    )

pub accepted-fire : AcceptedFire
accepted-fire =
    record {
      exactly = accepts-exactly;
      leaves = λ net marking t e. rw e (marking-after Argument (net_of net) t marking (mode-accepted net marking t e));
    }

-- an accepted net sheet's first marking
pub start-marks : (net : List ℕ) → whole_net net ≡ none → Marking (net_of net) (net_of net).start
unfolding whole_net
start-marks net e = (well_formed_lem net (left-none (net_refusal net) _ e)).start

begins : (net marking : List ℕ) → begin_refusal net marking ≡ none → marking_refusal (net_of net) (begun net marking) ≡ none
unfolding begin_refusal
begins net marking e = rw e ((marking-test (net_of net) (net_of net).start).1 (start-marks net (left-none _ _ e)))

fires : (net marking : List ℕ) (t : Mode) → marking_refusal (net_of net) marking ≡ none → marking_refusal (net_of net) (fired_by net marking t) ≡ none
fires net marking t h = go (test_refusal net marking t) refl
  where
    go : (o : Option Refusal) → test_refusal net marking t ≡ o → marking_refusal (net_of net) (fired_by net marking t) ≡ none
    go none e =
        rw e
        ((marking-test (net_of net) (fired (net_of net) t marking)).1
        (marking-kept Argument (net_of net) t marking ((marking-test (net_of net) marking).0 h) (mode-accepted net marking t e)))
    go (some r) e = rw e h

pub marking-stays : MarkingStays
marking-stays = record { begins = begins; fires = fires }
