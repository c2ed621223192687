-- Reading one of a family of texts: it stands there, and with whatever follows no other can; or none agrees any more, whatever follows.
use Rattle.std.specs.Prelude.{ℕ, ◌+◌, ◌≡◌, List, ◌++◌, length}
use Rattle.pnml.specs.Agrees.{Agrees}

module _ {J : Type 0} (ok : J → Type 0) (text : J → List ℕ) (s : List ℕ) (at : ℕ) where
  pub record Stands (j : J) (next : ℕ) : Type 0 where
    pub is : ok j
    pub whole : Agrees s at (length (text j)) (text j)
    pub place : next ≡ at + length (text j)
    pub only : (k : J) (rest : List ℕ) → ok k → Agrees s at (length (text j)) (text k ++ rest) → k ≡ j

  pub record Stops (p : ℕ) : Type 0 where
    pub count : ℕ
    pub place : p ≡ at + count
    pub one : (j : J) × (ok j) × (Agrees s at count (text j))
    pub never : (k : J) (rest : List ℕ) → ok k → ¬ Agrees s at (count + 1) (text k ++ rest)
    -- (follows from `never`, but where the run ends)
    pub absent : (k : J) → ok k → ¬ Agrees s at (length (text k)) (text k)
