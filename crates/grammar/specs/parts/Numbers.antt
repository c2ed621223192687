-- A number of low..1,000,000 as an export writes it, and the byte that follows it.
use Rattle.std.specs.Prelude.{ℕ, ◌+◌, ◌*◌, ◌-◌, ◌≤◌, ◌<◌, ◌≡◌, Bool, cond, ◌||◌, List, [], ◌∷◌, ◌++◌, ltb, eqb, length, get_or, Option, Some, None, Ok, Err}
use Rattle.model.specs.Numbers.{limit}
use Rattle.text.specs.Decimals.{decimal}
use Rattle.pnml.specs.Agrees.{Agrees, FirstNone}
use Rattle.grammar.specs.parts.Read.{Numbered}

pub record Ranged (low : ℕ) : Type 0 where
  pub number : ℕ
  pub least : low ≤ number
  pub most : number ≤ limit

abbrev pub number_text : (low stop : ℕ) → Ranged low → List ℕ
number_text low stop m = decimal m.number ++ stop ∷ []

-- what is read: a number whose text stands there whole; or where none agrees any more, and none stands there whole
pub record Found (low stop : ℕ) (s : List ℕ) (at value next : ℕ) : Type 0 where
  pub least : low ≤ value
  pub most : value ≤ limit
  pub stands : Agrees s at (length (decimal value) + 1) (decimal value ++ stop ∷ [])
  pub place : next ≡ at + length (decimal value) + 1

pub record Ended (low stop : ℕ) (s : List ℕ) (at p : ℕ) : Type 0 where
  pub count : ℕ
  pub place : p ≡ at + count
  pub first : FirstNone (number_text low stop) s at count
  pub whole : (m : Ranged low) → ¬ Agrees s at (length (number_text low stop m)) (number_text low stop m)

abbrev pub ReadNumberAllows : (low stop : ℕ) (s : List ℕ) (at : ℕ) → Numbered → Type 0
ReadNumberAllows low stop s at (Ok x) = Found low stop s at x.0 x.1
ReadNumberAllows low stop s at (Err p) = Ended low stop s at p

-- what a byte makes of the value so far; none where no number goes on so
unfoldable pub next_value : ℕ → ℕ → Bool → ℕ → Option ℕ
next_value low value begun b =
    cond (ltb b 48 || ltb 57 b) None
    (cond begun (cond (eqb value 0 || ltb limit (value * 10 + (b - 48))) None (Some (value * 10 + (b - 48)))) (cond (ltb (b - 48) low) None (Some (b - 48))))

-- the digits from `at` up to `end`, which are those of `value`; one byte more is none that goes on so
pub record Span (low : ℕ) (s : List ℕ) (at value end : ℕ) : Type 0 where
  pub after : at ≤ end
  pub in_run : end ≤ length s
  pub most : value ≤ limit
  pub digits : at < end → (low ≤ value) × (end ≡ at + length (decimal value)) × Agrees s at (length (decimal value)) (decimal value)
  pub stuck : end < length s → next_value low value (ltb at end) (get_or s end 0) ≡ None
