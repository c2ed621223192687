-- Demand 3 over bytes: demand 3 of the nets that the sheets mean, and both directions of a sheet.
use Prim.Native.Nat.{ℕ}
use mathlib.Core.Path.{◌≡◌, refl}
use mathlib.Core.List.{List}
use mathlib.Core.Option.{none}
use lib.ListN.{length, take}
use lib.Seq.{take-append_seam, drop-append_seam}
use Rattle.model.specs.Nets.{PNet}
use Rattle.second_form.specs.Complement.{complement}
use Rattle.second_form.specs.DemandThree.{Complementable}
use Rattle.model.proofs.First.{left-none, right-none}
use Rattle.second_form.proofs.Demand3.{demand3}
use Rattle.heads.specs.Version.{version_of}
use Rattle.sheets.specs.nets.Nets.{net_refusal}
use Rattle.sheets.specs.Whole.{whole_net}
use Rattle.sheets.specs.Decoded.{net_of}
use Rattle.opened.specs.Shape.{arc_offset}
use Rattle.sheets.proofs.Accepted.{well_formed_lem}
use Rattle.sheets.specs.written.Promises.{HasSheet}
use Rattle.sheets.proofs.written.RoundTrip.{written-then-read, own-sheet}
use Rattle.complement.specs.Complemented.{complement_sheet, room_refusal, complementing_refusal, output_of}
use Rattle.promises.specs.DemandThree.{OverBytes}

pub complementable : (net : List ℕ) (room : ℕ) → complementing_refusal net room ≡ none → Complementable (net_of net)
unfolding complementing_refusal room_refusal whole_net
complementable net room e =
    record {
      well_formed = well_formed_lem net (left-none (net_refusal net) _ (left-none _ _ e));
      offset = arc_offset net;
      accepted = left-none _ _ (right-none _ _ e);
    }

-- the complement has its net's rule, and so a sheet of its version
pub complement-sheet : (net : List ℕ) → HasSheet (version_of net) (complement (net_of net))
unfolding complement
complement-sheet net = own-sheet net

rule-stays : (net : PNet) → (complement net).rule ≡ net.rule
unfolding complement
rule-stays net = refl

pub over_bytes_lem : OverBytes
over_bytes_lem net out e =
    let three = demand3 (net_of net) (complementable net (length out) e) in
    let back = written-then-read (version_of net) (complement (net_of net)) three.is_net (complement-sheet net) in
    let sheet = complement_sheet net in
    let taken : take (length sheet) (output_of net out) ≡ sheet = rw e (take-append_seam sheet _) in (
      length sheet,
      record {
        answered = rw e;
        untouched = rw e (drop-append_seam sheet _);
        reads_back = rw taken back.accepted;
        same = rw taken back.same;
        version = rw taken back.version;
        rule = rw (taken, back.same) (rule-stays (net_of net));
        runs = three.runs;
      },
    )
