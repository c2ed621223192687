-- The conversions there and back.
use Rattle.std.specs.Prelude.{Ok}
use Prim.Native.Nat.{ℕ, ◌≤◌, ◌<◌}
use mathlib.Core.Path.{◌≡◌, refl, sym, ◌∙◌, ap}
use mathlib.Core.List.{List}
use mathlib.Core.Option.{Option, none, some}
use lib.ListN.{length, take, drop}
use lib.Seq.{take_at}
use native.Mathlib.Omega.{arith}
use Rattle.model.specs.declared.Refusal.{Refusal}
use Rattle.model.specs.declared.Version.{Version}
use Rattle.model.proofs.First.{left-none, right-none, none_then}
use Rattle.heads.specs.Bytes.{byte_at}
use Rattle.sheets.specs.nets.Nets.{net_refusal}
use Rattle.sheets.specs.Whole.{whole_net}
use Rattle.sheets.specs.Decoded.{net_of}
use Rattle.sheets.proofs.Accepted.{well_formed_lem}
use Rattle.sheets.specs.written.Written.{version_number, sheet_of}
use Rattle.sheets.specs.written.Promises.{ReadBack}
use Rattle.sheets.proofs.written.Versions.{number_is, version-is}
use Rattle.sheets.proofs.written.RoundTrip.{known-holds, read-then-written, written-then-read}
use Rattle.sheets.specs.Emitted.{emitted, output}
use Rattle.convert.specs.Converted.{of_version, lost_rule, converted_sheet, open_refusal, convert_refusal, conversion_of, output_of}
use Rattle.convert.specs.Promises.{SourceOnly, ConvertedReads, Returned, ThereAndBack}
use Rattle.convert.proofs.Answers.{read-on, stops, read_whole, read-version, kept, own-rule, roomy}

pub source_only_lem : SourceOnly
unfolding whole_net net_refusal
source_only_lem =
    record {
      own = λ v s e. read-on v s (λ h. number_is s (known-holds s h) ∙ ap version_number e);
      other = λ v s d e. stops v s (left-none _ _ (left-none _ _ e)) (λ q. d (version-is v s q));
    }

pub converted_reads_lem : ConvertedReads
unfolding whole_net
converted_reads_lem source target s e k =
    let back : ReadBack target (net_of s) = written-then-read target (net_of s) (well_formed_lem s (left-none _ _ (read_whole source s e))) (kept target (net_of s).rule k) in
    record {
      version = back.version;
      accepted = back.accepted;
      back = source_only_lem.own target (converted_sheet target s) back.version ∙ back.accepted;
      same = back.same;
    }

-- a length is told only where nothing is refused
length-told : (o : Option Refusal) {n m : ℕ} → Ok n ≡ emitted o m → (o ≡ none) × (n ≡ m)
length-told none e = (refl, cc)
length-told (some r) e = let z : ◌≡◌ {A = ℕ} 0 1 = cc in absurd (omega arith)

module _ (source target : Version) (s : List ℕ) (bytes : (i : ℕ) → i < length s → byte_at s i < 256) (e : of_version source s ≡ none) where
  sheet-back : lost_rule target (net_of s).rule ≡ none → converted_sheet source (converted_sheet target s) ≡ s
  sheet-back k =
      ap (sheet_of source) (converted_reads_lem source target s e k).same
      ∙ ap (λ v. sheet_of v (net_of s)) (sym (read-version source s e))
      ∙ sym (read-then-written s bytes (read_whole source s e))

  accepts-back : lost_rule target (net_of s).rule ≡ none → (room : ℕ) → length s ≤ room → convert_refusal target source (converted_sheet target s) room ≡ none
  unfolding convert_refusal
  accepts-back k room h =
      let reads = converted_reads_lem source target s e k in
      let own = ap (λ net. lost_rule source net.rule) reads.same ∙ own-rule source s (read-version source s e) in
      none_then reads.back (roomy source (converted_sheet target s) own (omega (arith, ap length (sheet-back k))))

  -- where a length is told the rule was kept
  told-kept : (out : List ℕ) (n : ℕ) → Ok n ≡ conversion_of source target s out → lost_rule target (net_of s).rule ≡ none
  unfolding convert_refusal open_refusal
  told-kept out n told = left-none _ _ (right-none (of_version source s) _ (length-told (convert_refusal source target s (length out)) told).0)

  taken : (out left : List ℕ) (n : ℕ) → Ok n ≡ conversion_of source target s out → left ≡ output_of source target s out → take n left ≡ converted_sheet target s
  taken out left n told is =
      let sheet = converted_sheet target s in
      let told = length-told (convert_refusal source target s (length out)) told in
      ap (take n) (is ∙ ap (λ o. output o sheet out) told.0) ∙ take_at sheet (drop (length sheet) out) n (sym told.1)

  pub there_and_back-of : Returned source target s
  there_and_back-of =
      record {
        sheet = sheet-back;
        calls = λ out back left n h told is.
            let k = told-kept out n told in
            rw (taken out left n told is, accepts-back k (length back) h, sheet-back k) (refl, refl);
      }

pub there_and_back_lem : ThereAndBack
there_and_back_lem = there_and_back-of
