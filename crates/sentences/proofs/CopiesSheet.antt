-- What a conversion writes has another version byte than what it was given.
use Prim.Native.Nat.{ℕ}
use mathlib.Core.Path.{◌≡◌, refl, sym, ◌∙◌, ap}
use mathlib.Core.List.{List}
use mathlib.Core.Logic.{◌≢◌}
use lib.ListN.{length, take, drop, get_or-append}
use lib.Seq.{get_or-take}
use native.Mathlib.Omega.{arith}
use Rattle.model.specs.declared.Thing.TheVariants.{Net}
use Rattle.model.specs.declared.Version.{Version}
use Rattle.model.specs.declared.Version.TheVariants.{One, Two}
use Rattle.model.proofs.First.{left-none, right-none}
use Rattle.heads.specs.Bytes.{byte_at}
use Rattle.heads.specs.Version.{version_of}
use Rattle.heads.proofs.Heads.{head-holds}
use Rattle.sheets.specs.Decoded.{net_of}
use Rattle.sheets.proofs.written.SheetLength.{sheet-least}
use Rattle.sheets.specs.Emitted.{emitted, told, output}
use Rattle.convert.specs.Converted.{of_version, lost_rule, converted_sheet, open_refusal, convert_refusal, conversion_of, output_of}
use Rattle.convert.proofs.Answers.{read-version}
use Rattle.convert.proofs.Promises.{converted_reads_lem}
use Rattle.sentences.specs.Frauds.{CopiesSheet}
use Rattle.sentences.proofs.Accepting.{unrefused}

same_version : (a b : List ℕ) → byte_at a 4 ≡ byte_at b 4 → version_of a ≡ version_of b
unfolding version_of
same_version a b e = rw e refl

module _ (source target : Version) (d : source ≢ target) (net out : List ℕ) {left : List ℕ} (is : left ≡ output_of source target net out) where
  not_copied : (told (conversion_of source target net out)).carried.number ≡ 0 → take (length net) left ≢ net
  unfolding convert_refusal open_refusal of_version
  not_copied accepted copied =
      let sheet = converted_sheet target net in
      let none-refused = unrefused (λ o. told (emitted o (length sheet))) (length sheet) refl (λ r. refl) (convert_refusal source target net (length out)) accepted in
      let whole = left-none (of_version source net) _ none-refused in
      let kept = left-none (lost_rule target (net_of net).rule) _ (right-none (of_version source net) _ none-refused) in
      let head = head-holds Net net (left-none _ _ whole) in
      let given : byte_at (take (length net) left) 4 ≡ byte_at left 4 = get_or-take (length net) left 4 0 (omega (arith, head)) in
      let wrote : byte_at left 4 ≡ byte_at sheet 4 = ap (λ l. byte_at l 4) (is ∙ ap (λ o. output o sheet out) none-refused) ∙ get_or-append sheet (drop (length sheet) out) 0 4 (omega (arith, sheet-least target (net_of net))) in
      d (sym (read-version source net whole) ∙ same_version net sheet (sym (ap (λ l. byte_at l 4) copied) ∙ given ∙ wrote) ∙ (converted_reads_lem source target net whole kept).version)

pub copies_sheet : CopiesSheet
copies_sheet =
    record {
      to_version2 = λ net out o allows accepted. not_copied One Two (λ e. let z : ◌≡◌ {A = ℕ} 0 1 = cc in absurd (omega arith)) net out allows.1 (sym (ap (λ c. (told c).carried.number) allows.0) ∙ accepted);
      to_version1 = λ net out o allows accepted. not_copied Two One (λ e. let z : ◌≡◌ {A = ℕ} 0 1 = cc in absurd (omega arith)) net out allows.1 (sym (ap (λ c. (told c).carried.number) allows.0) ∙ accepted);
    }
