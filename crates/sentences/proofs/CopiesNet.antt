-- A net with a bounded pair has fewer places than its complement, so that its own sheet is not the complement's.
use Prim.Native.Nat.{ℕ, ◌+◌, ◌≤◌, ◌<◌}
use mathlib.Core.Path.{◌≡◌, refl, sym, ◌∙◌, ap}
use mathlib.Core.List.{List, [], ◌∷◌, ◌++◌, append-nil}
use mathlib.Core.Option.{none}
use lib.ListN.{length, take, length-append}
use lib.Seq.{get_or-take}
use native.Mathlib.Omega.{arith}
use Rattle.model.specs.Numbers.{fin}
use Rattle.model.specs.Nets.{PNet, pairs, K}
use Rattle.second_form.specs.Complement.{new_places, complement}
use Rattle.model.proofs.First.{left-none}
use Rattle.second_form.proofs.Bounded.{bounded-number}
use Rattle.second_form.proofs.ComplementNet.{pairs-complement}
use Rattle.second_form.proofs.Demand3.{demand3}
use Rattle.heads.specs.Bytes.{byte_at, u16_at}
use Rattle.heads.specs.Layout.{fields_at, place_count, transition_count}
use Rattle.heads.specs.Version.{version_of}
use Rattle.sheets.specs.nets.Nets.{net_refusal}
use Rattle.sheets.specs.Whole.{whole_net}
use Rattle.sheets.specs.Decoded.{net_of}
use Rattle.sheets.proofs.Meaning.{counts-length, colours-are}
use Rattle.sheets.proofs.nets.Valid.{counts_hold}
use Rattle.sheets.proofs.written.RoundTrip.{written-then-read}
use Rattle.sheets.specs.Emitted.{emitted, told}
use Rattle.complement.specs.Complemented.{complement_sheet, complementing_refusal, output_of}
use Rattle.sentences.specs.Frauds.{CopiesNet}
use Rattle.sentences.proofs.Accepting.{unrefused}
use Rattle.sentences.proofs.DemandThree.{complementable, complement-sheet}

more-places : (net : PNet) (p k : ℕ) → p < pairs net → K net p ≡ fin k → length net.colours < length (complement net).colours
unfolding complement
more-places net p k h e = go (new_places (K net) net.colours) refl
  where
    go : (new : List ℕ) → new_places (K net) net.colours ≡ new → length net.colours < length (net.colours ++ new_places (K net) net.colours)
    go [] q =
        let same : pairs (complement net) ≡ pairs net = rw (q, append-nil net.colours) in
        absurd (omega (arith, same, pairs-complement net, bounded-number (K net) (pairs net) p k h e))
    go (c ∷ new) q = rw (q, length-append) (omega arith)

-- the place count stands in the first nine bytes, which an accepted sheet has
places-are : (s : List ℕ) → place_count s ≡ length (net_of s).colours
places-are s = sym (ap length (colours-are s) ∙ counts-length s _ _)

-- a run that begins with a net sheet's bytes has its version, and as many places
module _ (net s : List ℕ) (accepted : net_refusal net ≡ none) (same : take (length net) s ≡ net) where
  sized : fields_at net + 4 ≤ length net
  sized = let c = counts_hold net accepted in omega (arith, c.sized.there, c.sized.head.there)

  byte : (i : ℕ) → i < length net → byte_at s i ≡ byte_at net i
  byte i h = sym (get_or-take (length net) s i 0 h) ∙ ap (λ l. byte_at l i) same

  same-fields : fields_at s ≡ fields_at net
  unfolding fields_at version_of
  same-fields = rw (byte 4 (omega (arith, (counts_hold net accepted).sized.head)))

  same-places : place_count s ≡ place_count net
  unfolding u16_at
  same-places = rw (same-fields, byte (fields_at net) (omega (arith, sized)), byte (fields_at net + 1) (omega (arith, sized)))

  pub same-transitions : transition_count s ≡ transition_count net
  unfolding u16_at
  same-transitions = rw (same-fields, byte (fields_at net + 2) (omega (arith, sized)), byte (fields_at net + 2 + 1) (omega (arith, sized)))

net-accepted : (net : List ℕ) (room : ℕ) → complementing_refusal net room ≡ none → net_refusal net ≡ none
unfolding complementing_refusal whole_net
net-accepted net room e = left-none (net_refusal net) _ (left-none _ _ e)

written-places : (net out : List ℕ) → complementing_refusal net (length out) ≡ none → place_count (output_of net out) ≡ length (complement (net_of net)).colours
written-places net out e =
    let back = written-then-read (version_of net) (complement (net_of net)) (demand3 (net_of net) (complementable net (length out) e)).is_net (complement-sheet net) in
    rw e (places-are _ ∙ ap (λ n. length n.colours) (back.same_first _))

pub copies_net : CopiesNet
copies_net =
    record {
      excluded = λ net out p k h e o a n same.
          let q = unrefused (λ o. told (emitted o (length (complement_sheet net)))) (length (complement_sheet net)) refl (λ r. refl) (complementing_refusal net (length out)) (sym (ap (λ c. (told c).carried.number) a.0) ∙ n) in
          omega (
            arith,
            written-places net out q,
            same-places net (output_of net out) (net-accepted net (length out) q) (ap (take (length net)) (sym a.1) ∙ same),
            places-are net,
            more-places (net_of net) p k h e,
          );
      no_sum = λ net m m' each p k h e c. omega (arith, c.one_each', pairs-complement net, bounded-number (K net) (pairs net) p k h e);
    }
