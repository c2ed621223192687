-- Document 01, "How far a contract must go".
use Rattle.std.specs.Prelude.{◌≡◌}
use Rattle.sentences.specs.Call.{Call}
use Rattle.sentences.specs.Calls.{Public, call, told, for_c}
use Rattle.both_forms.specs.Edges.{Edges}
use Rattle.sentences.specs.StatedForC.{StatedForC}
use Rattle.sentences.specs.EveryCall.{EveryCall, every}
use Rattle.sentences.specs.Frauds.{Frauds}

-- "Uniqueness is proved: any two outcomes allowed are equal." An outcome is the answer, with its value where it has one, and the final content of all that was lent.
abbrev pub Unique : Call → Type 0
Unique c = (g : c.Given) (a a' : c.Answers) (l l' : c.Lent) → c.Allows g a l → c.Allows g a' l' → (a ≡ a') × (l ≡ l')

abbrev pub Uniqueness : Type 0
Uniqueness = (c : EveryCall) → Unique (every c)

-- The calls for C: what each tells carries the number, thing, position and amount of an answer that the library's contract allows, and leaves what that leaves.
abbrev pub ToldToC : Type 0
ToldToC = (c : Public) (g : (call c).Given) (d : (for_c c).Answers) (left : (call c).Lent) → (for_c c).Allows g d left
    → (answer : (call c).Answers) × ((call c).Allows g answer left) × ((for_c c).carried d ≡ (call c).carried answer)

-- Two outcomes for C are two of the library's, told: so any relation that is proved of the library's outcomes holds of them.
abbrev pub ForCToo : Type 1
ForCToo = (c : Public) (i j : (call c).Given) (Holds : (call c).Answers → (call c).Lent → (call c).Answers → (call c).Lent → Type 0)
    → ((a a' : (call c).Answers) (l l' : (call c).Lent) → (call c).Allows i a l → (call c).Allows j a' l' → Holds a l a' l')
    → (d d' : (for_c c).Answers) (l l' : (call c).Lent) → (for_c c).Allows i d l → (for_c c).Allows j d' l'
    → (a : (call c).Answers) × (a' : (call c).Answers) × (Holds a l a' l') × (d ≡ (told c).tell i a) × (d' ≡ (told c).tell j a')

pub record Contract : Type 1 where
  -- "For each public call the contract determines the answer, its position and the final content of every slice lent, for each input and refusal. Uniqueness is proved:
  -- any two outcomes allowed are equal."
  pub uniqueness : Uniqueness
  pub told_to_c : ToldToC
  -- what the source of the calls for C states is that
  pub stated_for_c : StatedForC
  pub for_c_too : ForCToo
  -- "These frauds are shown to break it."
  pub frauds : Frauds
  -- "The starred cases are proved from the definitions as a single table under a single theorem"
  pub edges : Edges
