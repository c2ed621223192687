-- A net that complementing accepts, and the sheet that is written of it.
use Prim.Native.Nat.{ℕ}
use mathlib.Core.Path.{◌≡◌, refl}
use mathlib.Core.List.{List}
use mathlib.Core.Option.{none}
use Rattle.model.specs.Nets.{PNet}
use Rattle.second_form.specs.Complement.{complement}
use Rattle.second_form.specs.DemandThree.{Complementable}
use Rattle.model.proofs.First.{left-none, right-none}
use Rattle.second_form.proofs.Demand3.{demand3}
use Rattle.heads.specs.Version.{version_of}
use Rattle.sheets.specs.nets.Nets.{net_refusal}
use Rattle.sheets.specs.Whole.{whole_net}
use Rattle.sheets.specs.Decoded.{net_of}
use Rattle.opened.specs.Shape.{arc_offset}
use Rattle.sheets.proofs.Accepted.{well_formed_lem}
use Rattle.sheets.specs.written.Promises.{HasSheet, ReadBack}
use Rattle.sheets.proofs.written.RoundTrip.{written-then-read, own-sheet}
use Rattle.complement.specs.Complemented.{room_refusal, complementing_refusal}

module _ (net : List ℕ) (room : ℕ) (e : complementing_refusal net room ≡ none) where
  pub net-accepted : whole_net net ≡ none
  unfolding complementing_refusal
  net-accepted = left-none _ _ e

  pub complementable : Complementable (net_of net)
  unfolding complementing_refusal room_refusal whole_net
  complementable =
      record {
        well_formed = well_formed_lem net (left-none (net_refusal net) _ (left-none _ _ e));
        offset = arc_offset net;
        accepted = left-none _ _ (right-none _ _ e);
      }

-- the complement has its net's rule, and so a sheet of its version
pub complement-sheet : (net : List ℕ) → HasSheet (version_of net) (complement (net_of net))
unfolding complement
complement-sheet net = own-sheet net

pub rule-stays : (net : PNet) → (complement net).rule ≡ net.rule
unfolding complement
rule-stays net = refl

pub reads-back : (net : List ℕ) → Complementable (net_of net) → ReadBack (version_of net) (complement (net_of net))
reads-back net c = written-then-read (version_of net) (complement (net_of net)) (demand3 (net_of net) c).is_net (complement-sheet net)
