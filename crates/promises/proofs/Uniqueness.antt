-- A contract that is an equation, or one for the answer and one for the lent slice, allows one outcome; so does that of an import, of which each case excludes the other.
use Prim.Native.Nat.{ℕ}
use mathlib.Core.Path.{◌≡◌, refl, sym, ◌∙◌, ap, ap₂}
use mathlib.Core.List.{List}
use Rattle.sheets.specs.Emitted.{told}
use Rattle.import.proofs.Promises.{import_once}
use Rattle.answers.specs.Told.{counted}
use Rattle.abi.specs.Allowed as c
use Rattle.promises.specs.Uniqueness.{Unique, UniqueForC, Uniqueness}

one_answer : {A : Type 0} (given : A) → Unique (λ o. o ≡ given)
one_answer given o o' e e' = e ∙ sym e'

answer_and_slice : {A B : Type 0} (given : A) (left : B) → Unique {A = A × B} (λ o. (o.0 ≡ given) × (o.1 ≡ left))
answer_and_slice {A} {B} given left o o' e e' = ap₂ {C = A × B} (λ a b. (a, b)) (e.0 ∙ sym e'.0) (e.1 ∙ sym e'.1)

-- C is told an answer of the library's, and left its slice
import_for_c : (text out : List ℕ) → Unique (c.ImportPnmlAllows text out)
import_for_c text out o o' e e' =
    let same = import_once text out (e.0, o.1) (e'.0, o'.1) e.1 e'.1 in
    answer_and_slice (counted (told e'.0)) o'.1 o o' (e.2 ∙ ap (λ x. counted (told x.0)) same, ap (λ x. x.1) same) (e'.2, refl)

for_c_lem : UniqueForC
for_c_lem =
    record {
      read_net = λ s. one_answer _;
      read_weights = λ s pairs. one_answer _;
      read_movements = λ s. one_answer _;
      begin = λ net marking. answer_and_slice _ _;
      test = λ net marking t. one_answer _;
      fire = λ net marking t. answer_and_slice _ _;
      test_step = λ net marking modes. one_answer _;
      fire_step = λ net marking modes. answer_and_slice _ _;
      run = λ net movements marking. answer_and_slice _ _;
      certify = λ net movements claim. one_answer _;
      figure = λ net weights marking. one_answer _;
      change = λ net weights t. one_answer _;
      fleet_add = λ found net weights movements. answer_and_slice _ _;
      exclude = λ net weights claim. one_answer _;
      is_dead = λ net t. one_answer _;
      first_dead = λ net. one_answer _;
      size = λ net. one_answer _;
      complement = λ net out. answer_and_slice _ _;
      to_version2 = λ net out. answer_and_slice _ _;
      to_version1 = λ net out. answer_and_slice _ _;
      strip = λ net p out. answer_and_slice _ _;
      export_pnml = λ net out. answer_and_slice _ _;
      import_pnml = import_for_c;
      audit = λ net marking beside. one_answer _;
      salvage = λ net damaged out. answer_and_slice _ _;
      statement = λ input out. answer_and_slice _ _;
    }

pub uniqueness : Uniqueness
uniqueness =
    record {
      read_net = λ s. one_answer _;
      read_weights = λ s pairs. one_answer _;
      read_movements = λ s. one_answer _;
      after_net = λ s. one_answer _;
      after_weights = λ s pairs. one_answer _;
      after_movements = λ s. one_answer _;
      whole_net = λ s. one_answer _;
      whole_weights = λ s pairs. one_answer _;
      whole_movements = λ s. one_answer _;
      begin = λ net marking. answer_and_slice _ _;
      test = λ net marking t. one_answer _;
      fire = λ net marking t. answer_and_slice _ _;
      test_step = λ net marking modes. one_answer _;
      fire_step = λ net marking modes. answer_and_slice _ _;
      run = λ net movements marking. answer_and_slice _ _;
      certify = λ net movements claim. one_answer _;
      figure = λ net weights marking. one_answer _;
      change = λ net weights t. one_answer _;
      add_ship = λ found net weights movements. answer_and_slice _ _;
      exclude = λ net weights claim. one_answer _;
      is_dead = λ net t. one_answer _;
      first_dead = λ net. one_answer _;
      size = λ net. one_answer _;
      complement = λ net out. answer_and_slice _ _;
      to_version2 = λ net out. answer_and_slice _ _;
      to_version1 = λ net out. answer_and_slice _ _;
      strip = λ net p out. answer_and_slice _ _;
      export_pnml = λ net out. answer_and_slice _ _;
      import_pnml = import_once;
      audit = λ net marking beside. one_answer _;
      salvage = λ net damaged out. answer_and_slice _ _;
      put_bytes = λ out at bytes. answer_and_slice _ _;
      put_decimal = λ out at n. answer_and_slice _ _;
      put_signed = λ out at z. answer_and_slice _ _;
      statement = λ input out. answer_and_slice _ _;
      for_c = for_c_lem;
    }
