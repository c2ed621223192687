-- A contract that is an equation, or one for the answer and one for what was lent, allows one outcome; so does that of an import, of which each case excludes the other;
-- and what is told of one outcome is one.
use mathlib.Core.Path.{◌≡◌, refl, sym, ◌∙◌, ap}
use Rattle.import.proofs.Promises.{import_once}
use Rattle.sentences.specs.Call.{Call, Telling, told_by}
use Rattle.sentences.specs.Calls.{Public, call, told}
use Rattle.sentences.specs.EveryCall.{Alone, alone, library, to_c, here}
use Rattle.sentences.specs.Contract.{Unique, Uniqueness}

module _ {A : Type 0} {given a a' : A} where
  answer : {l l' : Unit {0}} → a ≡ given → a' ≡ given → (a ≡ a') × (l ≡ l')
  answer e e' = (e ∙ sym e', refl)

  answer-and-left : {L : Type 0} {last l l' : L} → (a ≡ given) × (l ≡ last) → (a' ≡ given) × (l' ≡ last) → (a ≡ a') × (l ≡ l')
  answer-and-left e e' = (e.0 ∙ sym e'.0, e.1 ∙ sym e'.1)

of-library : (c : Public) → Unique (call c)
of-library Public.read_net g a a' l l' = answer
of-library Public.read_weights g a a' l l' = answer
of-library Public.read_movements g a a' l l' = answer
of-library Public.begin g a a' l l' = answer-and-left
of-library Public.test g a a' l l' = answer
of-library Public.fire g a a' l l' = answer-and-left
of-library Public.test_step g a a' l l' = answer
of-library Public.fire_step g a a' l l' = answer-and-left
of-library Public.run g a a' l l' = answer-and-left
of-library Public.certify g a a' l l' = answer
of-library Public.figure g a a' l l' = answer
of-library Public.change g a a' l l' = answer
of-library Public.fleet_add g a a' l l' = answer-and-left
of-library Public.exclude g a a' l l' = answer
of-library Public.is_dead g a a' l l' = answer
of-library Public.first_dead g a a' l l' = answer
of-library Public.size g a a' l l' = answer
of-library Public.complement g a a' l l' = answer-and-left
of-library Public.to_version2 g a a' l l' = answer-and-left
of-library Public.to_version1 g a a' l l' = answer-and-left
of-library Public.strip g a a' l l' = answer-and-left
of-library Public.export_pnml g a a' l l' = answer-and-left
of-library Public.import_pnml g a a' l l' = λ e e'.
    let same = import_once g.0 g.1 (a, l) (a', l') e e' in
    (ap (λ o. o.0) same, ap (λ o. o.1) same)
of-library Public.audit g a a' l l' = answer
of-library Public.salvage g a a' l l' = answer-and-left
of-library Public.statement g a a' l l' = answer-and-left

of-told : (c : Call) (t : Telling c) → Unique c → Unique (told_by c t)
of-told c t once g d d' l l' h h' =
    let same = once g h.0 h'.0 l l' h.1 h'.1 in
    (h.2 ∙ ap (t.tell g) same.0 ∙ sym h'.2, same.1)

of-alone : (c : Alone) → Unique (alone c)
of-alone Alone.after_net g a a' l l' = answer
of-alone Alone.after_weights g a a' l l' = answer
of-alone Alone.after_movements g a a' l l' = answer
of-alone Alone.whole_net g a a' l l' = answer
of-alone Alone.whole_weights g a a' l l' = answer
of-alone Alone.whole_movements g a a' l l' = answer
of-alone Alone.put_bytes g a a' l l' = answer-and-left
of-alone Alone.put_decimal g a a' l l' = answer-and-left
of-alone Alone.put_signed g a a' l l' = answer-and-left

pub uniqueness : Uniqueness
uniqueness (library c) = of-library c
uniqueness (to_c c) = of-told (call c) (told c) (of-library c)
uniqueness (here c) = of-alone c
