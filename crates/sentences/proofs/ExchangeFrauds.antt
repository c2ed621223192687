-- An export has a place between its opening and its closing, import takes it, and 20 is where a text ceases to be one.
use Rattle.std.specs.Prelude.{Result}
use Rattle.model.specs.declared.Refusal.{Refusal}
use Prim.Native.Nat.{ℕ}
use mathlib.Core.Path.{◌≡◌, refl, sym, ◌∙◌, ap}
use mathlib.Core.List.{List, [], ◌∷◌}
use mathlib.Core.Logic.{◌≢◌, inl, inr}
use lib.ListN.{length}
use native.Mathlib.Omega.{arith}
use Rattle.model.specs.Nets.{PNet}
use Rattle.both_forms.specs.WorkedExamples.{own_example}
use Rattle.sheets.specs.Decoded.{net_of}
use Rattle.sheets.specs.Emitted as emitting
use Rattle.pnml.specs.Agrees.{Agrees}
use Rattle.pnml.specs.Pnml.{opening, closing, pnml}
use Rattle.pnml.proofs.ImportRefusal.{Way, many, full, whole, way}
use Rattle.import.specs.Imports as importing
use Rattle.import.specs.Allowed.{ImportPnmlAllows}
use Rattle.import.proofs.Promises.{of-net, answered, between}
use Rattle.sentences.specs.Calls.{Public, call, told, for_c}
use Rattle.sentences.specs.ConstantAnswers.{Varies}
use Rattle.sentences.specs.Frauds.{ExchangeFrauds}
use Rattle.sentences.proofs.Handed.{written_out, none_below}
use Rattle.sentences.proofs.ConstantAnswers.{accepts_and_refuses, tells}
use Rattle.sentences.proofs.Exchange.{exportable, text-there}
use Rattle.sentences.proofs.OwnExample.{printed-exportable}

-- to an export the answer is 4, 10 or a length
never_20 : (net : PNet) (out : List ℕ) {a : Result ℕ Refusal} → a ≡ importing.import_of net out → Way net (length out) → (emitting.told a).carried.number ≢ 20
never_20 net out is (many h r) e = omega (arith, ap (λ a. (emitting.told a).carried.number) (answered net out is r))
never_20 net out is (full p m h r) e = omega (arith, ap (λ a. (emitting.told a).carried.number) (answered net out is r))
never_20 net out is (whole p m h r) e = omega (arith, ap (λ a. (emitting.told a).carried.number) (answered net out is r))

abbrev position_of : Result ℕ Refusal → ℕ
position_of a = (emitting.told a).carried.position

-- an empty text ceases at its end, and the first byte of an export after it
abbrev bracket : List ℕ
bracket = 60 ∷ []

opens : Agrees bracket 0 1 (pnml own_example.printed)
unfolding pnml opening
opens = record { in_run = omega arith; in_text = omega arith; each = λ i h. let z : i ≡ 0 = omega arith in rw z refl }

ends-empty : (o : Result ℕ Refusal × List ℕ) → ImportPnmlAllows [] [] o → position_of o.0 ≡ 0
ends-empty o (inl x) = absurd (omega (arith, ap length x.is, between x.net x.exportable))
ends-empty o (inr x) = let p : position_of o.0 ≡ x.at = ap position_of x.answer in omega (arith, x.refused.first.one.1.in_run)

ends-after : (o : Result ℕ Refusal × List ℕ) → ImportPnmlAllows bracket [] o → position_of o.0 ≢ 0
unfolding opening closing
ends-after o (inl x) e = omega (arith, ap length x.is, between x.net x.exportable)
ends-after o (inr x) e =
    let p : x.at ≡ 0 = sym (ap position_of x.answer) ∙ e in
    x.refused.first.none (own_example.printed, printed-exportable) (rw p opens)

positions_vary : Varies (call Public.import_pnml) position_of
positions_vary =
    accepts_and_refuses (call Public.import_pnml) position_of ([], []) (bracket, []) ((none_below 256, none_below 256), λ a l. ends-empty (a, l))
    ((written_out 256 bracket refl, none_below 256), λ a l. ends-after (a, l))

positions_vary_for_c : Varies (for_c Public.import_pnml) (λ d. d.answer.position)
positions_vary_for_c = tells (call Public.import_pnml) (told Public.import_pnml) position_of (λ d. d.answer.position) (λ g a. refl) positions_vary

pub exchange-frauds : ExchangeFrauds
exchange-frauds =
    record {
      empty_page = λ net out o n allows e q.
          omega (arith, ap length (sym (text-there net out o n allows e) ∙ q), between (net_of net) (exportable net out o n allows e));
      none_read = λ net out o n allows e out' o' allows'.
          never_20 (net_of net) out' (of-net (net_of net) (exportable net out o n allows e) (text-there net out o n allows e) out' o' allows').0 (way (net_of net) (length out'));
      one_position = positions_vary.not_constant;
      one_position_for_c = positions_vary_for_c.not_constant;
    }
