-- The parts of a line: constants, three digits, a number and its stop. What a reader answers of them.
use Rattle.std.specs.Prelude.{ℕ, ◌+◌, ◌*◌, ◌≤◌, ◌<◌, ◌≡◌, List, ◌∷◌, ◌++◌, length, get_or, Ok, Err}
use Rattle.model.specs.Numbers.{limit}
use Rattle.text.specs.Decimals.{decimal}
use Rattle.pnml.specs.Agrees.{Agrees}
use Rattle.grammar.specs.parts.Read.{Numbered, Literal}
use Rattle.grammar.specs.parts.Stands as L

pub record WholeOf (s : List ℕ) (at : ℕ) (c : List ℕ) (next : ℕ) : Type 0 where
  pub agrees : Agrees s at (length c) c
  pub place : next ≡ at + length c

pub record PartOf (s : List ℕ) (at : ℕ) (c : List ℕ) (p : ℕ) : Type 0 where
  pub count : ℕ
  pub place : p ≡ at + count
  pub less : count < length c
  pub agrees : Agrees s at count c
  pub never : ¬ Agrees s at (count + 1) c

abbrev pub ComparedAs : List ℕ → ℕ → List ℕ → Literal → Type 0
ComparedAs s at c (Ok next) = WholeOf s at c next
ComparedAs s at c (Err p) = PartOf s at c p

pub record Compares (s : List ℕ) (at : ℕ) (c : List ℕ) (r : Literal) : Type 0 where
  pub how : ComparedAs s at c r

abbrev pub ContinuedAs : List ℕ → Literal → List ℕ → Literal → Type 0
ContinuedAs s (Ok m) c r = m ≤ length s → Compares s m c r
ContinuedAs s (Err p) c r = r ≡ Err p

pub record Continues (s : List ℕ) (before : Literal) (c : List ℕ) (r : Literal) : Type 0 where
  pub how : ContinuedAs s before c r

abbrev pub ReadsAs : (ok : ℕ → Type 0) (text : ℕ → List ℕ) → List ℕ → ℕ → Numbered → Type 0
ReadsAs ok text s at (Ok x) = L.Stands ok text s at x.0 x.1
ReadsAs ok text s at (Err p) = L.Stops ok text s at p

pub record Reads (ok : ℕ → Type 0) (text : ℕ → List ℕ) (s : List ℕ) (at : ℕ) (r : Numbered) : Type 0 where
  pub how : ReadsAs ok text s at r

abbrev pub Within : ℕ → ℕ → Type 0
Within low v = (low ≤ v) × (v ≤ limit)

abbrev pub valued : List ℕ → List ℕ → ℕ → List ℕ
valued c tail v = c ++ (decimal v ++ 60 ∷ tail)

abbrev pub ValuedAllows : List ℕ → Literal → ℕ → List ℕ → Numbered → Type 0
ValuedAllows s before low tail r = (at : ℕ) (c rest : List ℕ) → tail ≡ 60 ∷ rest → Compares s at c before → Reads (Within low) (valued c rest) s at r

abbrev pub Between : ℕ → ℕ → ℕ → Type 0
Between low high p = (low ≤ p) × (p < high)

-- one digit more of three: the number so far is least..most
pub record DigitOf (s : List ℕ) (end least most value next e : ℕ) : Type 0 where
  pub digit : ℕ
  pub in_run : end < length s
  pub ten : digit < 10
  pub byte : get_or s end 0 ≡ 48 + digit
  pub makes : next ≡ value * 10 + digit
  pub above : least ≤ next
  pub below : next ≤ most
  pub place : e ≡ end + 1

pub record NoDigit (s : List ℕ) (end least most value p : ℕ) : Type 0 where
  pub place : p ≡ end
  pub none : end < length s → (d : ℕ) → d < 10 → least ≤ value * 10 + d → value * 10 + d ≤ most → get_or s end 0 ≡ 48 + d → ⊥

abbrev pub DigitAs : (s : List ℕ) (end least most value : ℕ) → Numbered → Type 0
DigitAs s end least most value (Ok x) = DigitOf s end least most value x.0 x.1
DigitAs s end least most value (Err p) = NoDigit s end least most value p

pub record DigitAllows (s : List ℕ) (end least most value : ℕ) (r : Numbered) : Type 0 where
  pub how : DigitAs s end least most value r
