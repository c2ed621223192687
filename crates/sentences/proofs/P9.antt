-- Conversions there and back by what the calls wrote (document 02, P9).
use Rattle.std.specs.Prelude.{Ok}
use Prim.Native.Nat.{ℕ}
use mathlib.Core.Path.{◌≡◌, sym, ◌∙◌, ap, subst}
use mathlib.Core.List.{List}
use mathlib.Core.Option.{none}
use lib.ListN.{length}
use Rattle.model.specs.declared.Version.{Version}
use Rattle.model.proofs.First.{left-none, right-none}
use Rattle.sheets.specs.Decoded.{net_of}
use Rattle.sheets.specs.Emitted.{told}
use Rattle.convert.specs.Converted.{of_version, converted_sheet, lost_rule, open_refusal, convert_refusal, conversion_of, output_of}
use Rattle.convert.proofs.Promises.{converted_reads_lem, there_and_back_lem}
use Rattle.sentences.specs.Bytes.{Bytes}
use Rattle.sentences.specs.Wrote.{Writing, CallWrote}
use Rattle.sentences.specs.P9.{Converted, Converts}
use Rattle.sentences.proofs.Outcomes.{length-accepted, writes-length, wrote-is}
use Rattle.sentences.proofs.Exchange.{length-told}

abbrev Converting : Version → Version → List ℕ → Writing
Converting source target s out o = (o.0 ≡ conversion_of source target s out) × (o.1 ≡ output_of source target s out)

is-converted : (source target : Version) (s sheet : List ℕ) → CallWrote (Converting source target s) sheet → sheet ≡ converted_sheet target s
is-converted source target s =
    wrote-is (Converting source target s) (λ out. convert_refusal source target s (length out)) (converted_sheet target s) (λ out o h. h)

module _ (source target : Version) (s sheet : List ℕ) (w : CallWrote (Converting source target s) sheet) where
  accepts : convert_refusal source target s (length w.out) ≡ none
  accepts = length-accepted (convert_refusal source target s (length w.out)) _ (sym (ap told w.allowed.0) ∙ w.answered)

  sheet-is : sheet ≡ converted_sheet target s
  sheet-is = is-converted source target s sheet w

  of-source : of_version source s ≡ none
  unfolding convert_refusal
  of-source = left-none _ _ accepts

  rule-kept : lost_rule target (net_of s).rule ≡ none
  unfolding convert_refusal open_refusal
  rule-kept = left-none _ _ (right-none _ _ accepts)

  converted : Bytes s → Converted target (Converting source target) (Converting target source) s sheet
  converted bytes =
      let reads = converted_reads_lem source target s of-source rule-kept in
      let back = there_and_back_lem source target s bytes of-source in
      record {
        accepted = rw sheet-is reads.accepted;
        version = rw sheet-is reads.version;
        same = rw sheet-is reads.same;
        back = λ old b. is-converted target source sheet old b ∙ rw sheet-is (back.sheet rule-kept);
        room = λ out left e h l.
            let told-first = sym (length-told w.outcome.0 w.answered) ∙ w.allowed.0 in
            let again = (back.calls w.out out w.outcome.1 (length sheet) l told-first w.allowed.1).0 in
            ap told (h.0 ∙ sym (subst (λ t. Ok (length s) ≡ conversion_of target source t out) w.written again));
      }

pub converts : (source target : Version) (s : List ℕ) → Converts target (Converting source target) (Converting target source) s
converts source target s = (
  writes-length (Converting source target s) (λ out. convert_refusal source target s (length out)) (converted_sheet target s) (λ out o h. h),
  λ bytes sheet w. converted source target s sheet w bytes,
)
