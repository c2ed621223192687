-- What a public call is, to those who state what holds of every one.
use Rattle.std.specs.Prelude.{ℕ, ◌<◌, ◌≡◌, List, ℤ, pos, negsuc}
use Rattle.model.specs.Refusals.{Carried}
use Rattle.sentences.specs.Bytes.{Below}

-- what it is given, and what of that a caller can hand over; what it is lent to write, which is Unit where nothing is, as it was found; its answer, with the
-- number, thing, position and amount that it carries; and the contract that its source states, of all given, the answer and what is left in what was lent
pub record Call : Type 1 where
  pub Given : Type 0
  pub Possible : Given → Type 0
  pub Lent : Type 0
  pub found : Given → Lent
  pub Answers : Type 0
  pub carried : Answers → Carried
  pub Allows : Given → Answers → Lent → Type 0

-- a call that writes nothing but its answer, and one that is lent something, by the contracts of its crate
module _ {G A : Type 0} where
  abbrev pub answering : (G → A → Type 0) → (A → Carried) → (G → Type 0) → Call
  answering Allows carried Possible =
      record { Given = G; Possible = Possible; Lent = Unit {0}; found = λ g. tt; Answers = A; carried = carried; Allows = λ g a l. Allows g a }

  abbrev pub writing : {L : Type 0} → (G → A × L → Type 0) → (A → Carried) → (G → Type 0) → (G → L) → Call
  writing {L} Allows carried Possible found =
      record { Given = G; Possible = Possible; Lent = L; found = found; Answers = A; carried = carried; Allows = λ g a l. Allows g (a, l) }

-- the same call as another language is told of it: some answer that the contract allows, told
pub record Telling (c : Call) : Type 1 where
  pub Told : Type 0
  pub tell : c.Given → c.Answers → Told
  pub carried : Told → Carried

abbrev pub told_by : (c : Call) → Telling c → Call
told_by c t =
    record {
      Given = c.Given;
      Possible = c.Possible;
      Lent = c.Lent;
      found = c.found;
      Answers = t.Told;
      carried = t.carried;
      Allows = λ g d l. (a : c.Answers) × (c.Allows g a l) × (d ≡ t.tell g a);
    }

-- what a slice holds: mode numbers of 16 bits, counts of 32
abbrev pub Modes : List ℕ → Type 0
Modes = Below 65536

abbrev pub Counts : List ℕ → Type 0
Counts = Below 4294967296

-- a number of a machine's word, and a signed one
abbrev pub Word : ℕ → Type 0
Word n = n < 18446744073709551616

abbrev pub Signed : ℤ → Type 0
Signed (pos n) = n < 9223372036854775808
Signed (negsuc n) = n < 9223372036854775808

-- several things given are one tuple
module _ {A B : Type 0} where
  abbrev pub on₂ : {T : Type 1} → (A → B → T) → A × B → T
  on₂ f i = f i.0 i.1

  abbrev pub both : (A → Type 0) → (B → Type 0) → A × B → Type 0
  both P Q i = P i.0 × Q i.1

module _ {A B C : Type 0} where
  abbrev pub on₃ : {T : Type 1} → (A → B → C → T) → A × B × C → T
  on₃ f i = f i.0 i.1 i.2

  abbrev pub all₃ : (A → Type 0) → (B → Type 0) → (C → Type 0) → A × B × C → Type 0
  all₃ P Q R i = P i.0 × Q i.1 × R i.2

module _ {A B C D : Type 0} where
  abbrev pub on₄ : {T : Type 1} → (A → B → C → D → T) → A × B × C × D → T
  on₄ f i = f i.0 i.1 i.2 i.3

  abbrev pub all₄ : (A → Type 0) → (B → Type 0) → (C → Type 0) → (D → Type 0) → A × B × C × D → Type 0
  all₄ P Q R S i = P i.0 × Q i.1 × R i.2 × S i.3
