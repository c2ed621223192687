-- Numbers with ∞ (source document 000, Appendix A.1 and A.2.6), and the largest number of document 01.
use Rattle.std.specs.Prelude.{ℕ, ◌+◌, ◌-◌, ◌≤◌, ◌<◌, min, Bool, false, List, [], ◌∷◌, ltb, ℤ, pos, ◌-ℤ◌, ◌≤ℤ◌}

pub data Or∞ (A : Type 0) : Type 0 where
  fin : A → Or∞ A
  ∞ : Or∞ A

-- A.1: N∞ = N ∪ {∞}
abbrev pub ℕ∞ : Type 0
ℕ∞ = Or∞ ℕ

infix 4 ◌≤∞◌
abbrev pub ◌≤∞◌ : ℕ → ℕ∞ → Type 0
n ≤∞ fin k = n ≤ k
n ≤∞ ∞ = Unit {0}

-- "above" a bound, as the refusal table words it, and its test; nothing is above ∞
abbrev pub Above : ℕ → ℕ∞ → Type 0
Above n (fin k) = k < n
Above n ∞ = ⊥

abbrev pub above : ℕ → ℕ∞ → Bool
above n (fin k) = ltb k n
above n ∞ = false

-- by how much: the number less the bound
abbrev pub above_by : ℕ → ℕ∞ → ℕ
above_by n (fin k) = n - k
above_by n ∞ = 0

-- the lesser of a bound and a number, and of two bounds
abbrev pub least : ℕ∞ → ℕ → ℕ
least (fin k) n = min k n
least ∞ n = n

abbrev pub least_of : ℕ∞ → ℕ∞ → ℕ∞
least_of k (fin n) = fin (least k n)
least_of k ∞ = k

-- the least of several, unbounded where all are
unfoldable pub least_of_all : List ℕ∞ → ℕ∞
least_of_all [] = ∞
least_of_all (k ∷ ks) = least_of k (least_of_all ks)

-- k less n, or 0 where n is above k
abbrev pub less_than : ℕ∞ → ℕ → ℕ∞
less_than (fin k) n = fin (k - n)
less_than ∞ n = ∞

-- k and n more
infixl 6 ◌+∞◌
abbrev pub ◌+∞◌ : ℕ∞ → ℕ → ℕ∞
fin k +∞ n = fin (k + n)
∞ +∞ n = ∞

-- A.2.6 and A.3: ∞ - n = ∞, and a vector's difference may be below zero
infixl 6 ◌-∞◌
abbrev pub ◌-∞◌ : ℕ∞ → ℕ → Or∞ ℤ
fin k -∞ n = fin (pos k -ℤ pos n)
∞ -∞ n = ∞

infix 4 ◌≤ᵥ◌
abbrev pub ◌≤ᵥ◌ : ℕ → Or∞ ℤ → Type 0
n ≤ᵥ fin z = pos n ≤ℤ z
n ≤ᵥ ∞ = Unit {0}

-- document 01, "Sheets": numbers in net sheets and markings are 0..1,000,000
abbrev pub limit : ℕ
limit = 1000000
