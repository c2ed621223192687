-- Stripping (document 02, P7), and then complementing: what a strip wrote runs alike with its complement, new modes among the movements, and in the complement
-- too exactly one of the new modes is enabled and leaves the pair bare.
use Rattle.model.specs.declared.Refusal.{Refusal}
use Rattle.std.specs.Prelude.{ℕ, ◌≤◌, ◌<◌, ◌≡◌, List, ◌↔◌, ◌≢◌, Result}
use Rattle.model.specs.declared.Pair.{Pair}
use Rattle.model.specs.Refusals.{Answer}
use Rattle.model.specs.Refusals.{number, carries}
use Rattle.model.specs.Numbers.{fin}
use Rattle.model.specs.Nets.{pairs, K, count}
use Rattle.second_form.specs.Complement.{complement_pair}
use Rattle.sheets.specs.Decoded.{net_of}
use Rattle.sheets.specs.Emitted.{told}
use Rattle.fire.specs.Allowed.{TestAllows, FireAllows}
use Rattle.bare.specs.Strip.{new_mode}
use Rattle.convert.specs.strip.Allowed.{StripAllows}
use Rattle.sentences.specs.Demand3.{RunAlike}
use Rattle.sentences.specs.Wrote.{ComplementWrote, StripWrote}
use Rattle.sentences.specs.more.Reached.{ReachedBeside}
use Rattle.sentences.specs.more.InStep.{FindsNone}

-- the number of a pair's complement pair: stripping adds modes and no pair
abbrev pub beside_pair : List ℕ → ℕ → ℕ
beside_pair net q = complement_pair (pairs (net_of net)) (K (net_of net)) q

-- the counts m' of the complement, and those after: pair p is bare, and its complement pair full; every other pair stays the same, and its complement pair
pub record LeftBare (net : List ℕ) (p : Pair) (k : ℕ) (m' after : List ℕ) : Type 0 where
  pub bare : count after p.0 ≡ 0
  pub full : count after (beside_pair net p.0) ≡ k
  pub others : (q : ℕ) → q < pairs (net_of net) → q ≢ p.0 → count after q ≡ count m' q
  pub beside_others : (q j : ℕ) → q < pairs (net_of net) → q ≢ p.0 → K (net_of net) q ≡ fin j → count after (beside_pair net q) ≡ count m' (beside_pair net q)

module _ (net : List ℕ) (p : Pair) (k : ℕ) (bare sheet : List ℕ) where
  pub record BareBeside (m m' : List ℕ) : Type 0 where
    -- of new modes 0 to k, K of the pair, the one that the count numbers
    pub test : (n : ℕ) → n ≤ k → (o : Answer) → TestAllows sheet m' (new_mode (net_of net) n) o → (number o ≡ 0) ↔ (n ≡ count m p.0)
    pub fire : (o : Answer × List ℕ) → FireAllows sheet m' (new_mode (net_of net) (count m p.0)) o → (number o.0 ≡ 0) × LeftBare net p k m' o.1
    -- fired in both, an audit finds none
    pub finds_none : (o o' : Answer × List ℕ) → FireAllows bare m (new_mode (net_of net) (count m p.0)) o
        → FireAllows sheet m' (new_mode (net_of net) (count m p.0)) o' → FindsNone bare o.1 o'.1

  pub record StripComplement : Type 0 where
    -- demand 3, of any list, and from any markings that correspond
    pub runs : RunAlike bare sheet
    pub bares : (m m' : List ℕ) → ReachedBeside bare sheet m m' → BareBeside m m'

abbrev pub StripsThenComplements : Type 0
StripsThenComplements = (net : List ℕ) (p : Pair) (bare sheet : List ℕ) → StripWrote net p bare → ComplementWrote bare sheet
    → (k : ℕ) → K (net_of net) p.0 ≡ fin k → StripComplement net p k bare sheet

-- The other way round there is nothing to strip: every K of a complement is unbounded, and the answer is 15.
abbrev pub NoStripAfter : Type 0
NoStripAfter = (net sheet : List ℕ) → ComplementWrote net sheet → (p : Pair) → p.0 < pairs (net_of sheet) → (out : List ℕ) (o : Result ℕ Refusal × List ℕ)
    → StripAllows sheet p out o
    → (told o.0).carried ≡ carries 15 0 0
