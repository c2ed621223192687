-- The net that stripping writes has a transition more.
use Prim.Native.Nat.{ℕ, ◌+◌}
use mathlib.Core.Path.{◌≡◌, refl, sym, ◌∙◌, ap, subst}
use mathlib.Core.List.{List}
use mathlib.Core.Logic.{◌≢◌}
use lib.ListN.{length, take, drop}
use native.Mathlib.Omega.{arith}
use Rattle.model.specs.declared.Pair.{Pair}
use Rattle.model.specs.Nets.{K}
use Rattle.model.specs.WellFormed.{WellFormed}
use Rattle.model.specs.Replies.{yields}
use Rattle.model.proofs.First.{left-none}
use Rattle.heads.specs.Layout.{transition_count}
use Rattle.heads.specs.Version.{version_of}
use Rattle.sheets.specs.nets.Nets.{net_refusal}
use Rattle.sheets.specs.Whole.{whole_net}
use Rattle.sheets.specs.Decoded.{net_of}
use Rattle.sheets.proofs.Accepted.{well_formed_lem}
use Rattle.sheets.proofs.written.NetStands.{transitions-of}
use Rattle.sheets.proofs.written.RoundTrip.{written-then-read}
use Rattle.sheets.specs.Emitted.{emitted, told}
use Rattle.bare.specs.Strip.{bound_of}
use Rattle.bare.proofs.Arcs.{transitions-many}
use Rattle.convert.specs.strip.Stripped.{stripped_net, stripped_sheet, stripping_refusal, stripped_of, output_of}
use Rattle.convert.proofs.strip.Promises.{has_sheet}
use Rattle.sentences.specs.Frauds.{StripFrauds}
use Rattle.sentences.proofs.Accepting.{unrefused}
use Rattle.sentences.proofs.CopiesNet.{same-transitions}
use Rattle.sentences.proofs.StripWritten.{whole_before, output-is, sheet-there, sheet-reads}

module _ (net : List ℕ) (p : Pair) (out : List ℕ) (n : ℕ) (e : told (stripped_of net p out) ≡ yields n) where
  one_more_lem : length (stripped_net net p).modes_of ≡ length (net_of net).modes_of + 1
  one_more_lem = transitions-many (net_of net) p (bound_of (K (net_of net) p.0))

  another-net : net_of (take n (output_of net p out)) ≢ net_of net
  another-net q =
      let same : stripped_net net p ≡ net_of net = sym (sheet-reads net p out n e).same ∙ ap net_of (sym (sheet-there net p out n e)) ∙ q in
      omega (arith, one_more_lem, ap (λ m. length m.modes_of) same)

  -- the output begins with the sheet, which is read first
  written-transitions : transition_count (output_of net p out) ≡ length (net_of net).modes_of + 1
  unfolding whole_net
  written-transitions =
      let r = sheet-reads net p out n e in
      let well : WellFormed (stripped_net net p) = subst WellFormed r.same (well_formed_lem (stripped_sheet net p) (left-none (net_refusal (stripped_sheet net p)) _ r.accepted)) in
      let read = (written-then-read (version_of net) (stripped_net net p) well (has_sheet net p)).same_first (drop (length (stripped_sheet net p)) out) in
      sym (transitions-of (output_of net p out)) ∙ ap (λ s. length (net_of s).modes_of) (output-is net p out n e) ∙ ap (λ m. length m.modes_of) read ∙ one_more_lem

  not_copied : take (length net) (output_of net p out) ≢ net
  unfolding whole_net
  not_copied q =
      let accepted = left-none (net_refusal net) _ (whole_before net p out n e) in
      omega (arith, written-transitions, same-transitions net (output_of net p out) accepted q, transitions-of net)

pub strip-frauds : StripFrauds
strip-frauds =
    record {
      copied = λ net p out o allows accepted q.
          let l = length (stripped_sheet net p) in
          let e = unrefused (λ o. told (emitted o l)) l refl (λ r. refl) (stripping_refusal net p (length out)) (sym (ap (λ c. (told c).carried.number) allows.0) ∙ accepted) in
          not_copied net p out l (ap (λ o. told (emitted o l)) e) (ap (take (length net)) (sym allows.1) ∙ q);
      same_net = λ net p out o n allows e q. another-net net p out n (sym (ap told allows.0) ∙ e) (ap (λ left. net_of (take n left)) (sym allows.1) ∙ q);
    }
