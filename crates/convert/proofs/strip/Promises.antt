-- What is written is read back as the net with the transition appended.
use Prim.Native.Nat.{ℕ}
use mathlib.Core.Path.{◌≡◌, refl, ◌∙◌, ap}
use mathlib.Core.List.{List}
use borrow.Author.Tests.{leb-false, not-false}
use Rattle.model.specs.declared.Pair.{Pair}
use Rattle.model.specs.Nets.{PNet, K}
use Rattle.model.proofs.First.{left-none, right-none, only_if_none}
use Rattle.sheets.specs.Whole.{whole_net}
use Rattle.sheets.specs.Decoded.{net_of}
use Rattle.sheets.proofs.Accepted.{well_formed_lem}
use Rattle.heads.specs.Version.{version_of}
use Rattle.sheets.specs.written.Promises.{HasSheet, ReadBack}
use Rattle.sheets.proofs.written.RoundTrip.{own-sheet, written-then-read}
use Rattle.bare.specs.Strip.{strip, bound_of, strip_refusal}
use Rattle.bare.proofs.StripWellFormed.{few, well_formed_strip}
use Rattle.convert.specs.strip.Stripped.{stripped_net}
use Rattle.convert.specs.strip.Promises.{StrippedReads}

same-rule : (net : PNet) (p : Pair) (k : ℕ) → (strip net p k).rule ≡ net.rule
unfolding strip
same-rule net p k = refl

pub has_sheet : (s : List ℕ) (p : Pair) → HasSheet (version_of s) (stripped_net s p)
has_sheet s p e = same-rule (net_of s) p (bound_of (K (net_of s) p.0)) ∙ own-sheet s e

pub stripped_reads_lem : StrippedReads
unfolding whole_net strip_refusal
stripped_reads_lem s p whole e =
    let well = well_formed_lem s (left-none _ _ whole) in
    let k = bound_of (K (net_of s) p.0) in
    let there = leb-false _ _ (only_if_none _ _ (left-none _ _ e)) in
    let within = few (net_of s) p k (not-false _ (only_if_none _ _ (right-none _ _ (right-none _ _ e)))) in
    let back : ReadBack (version_of s) (stripped_net s p) = written-then-read (version_of s) (stripped_net s p) (well_formed_strip (net_of s) p k well there within) (has_sheet s p) in
    record {
      version = back.version;
      accepted = back.accepted;
      same = back.same;
      rule = ap (λ net. net.rule) back.same ∙ same-rule (net_of s) p k;
    }
