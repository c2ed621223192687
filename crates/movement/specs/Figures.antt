-- The lightship figure and a mode's weight change, over the integers (document 01, "Certificate, figure, dead modes").
use Rattle.std.specs.Prelude.{ℕ, zero, suc, List, [], ◌∷◌, get_or, ℤ, pos, ◌+ℤ◌, ◌-ℤ◌, ◌*ℤ◌}
use Rattle.model.specs.declared.Mode.{Mode}
use Rattle.model.specs.Nets.{PNet, pairs, count, row}

-- f 0 + f 1 + .. + f (n - 1)
unfoldable pub sum : ℕ → (ℕ → ℤ) → ℤ
sum zero f = pos 0
sum (suc n) f = sum n f +ℤ f n

abbrev pub weight : List ℤ → ℕ → ℤ
weight weights p = get_or weights p (pos 0)

-- "The figure is the sum over all pairs of weight times count."
unfoldable pub figure : PNet → List ℤ → List ℕ → ℤ
figure net weights m = sum (pairs net) (λ p. weight weights p *ℤ pos (count m p))

-- "A mode's weight change is the sum of weight times (Post less Pre)."
unfoldable pub change : PNet → List ℤ → Mode → ℤ
change net weights t = sum (pairs net) (λ p. weight weights p *ℤ (pos (row net t p).post -ℤ pos (row net t p).pre))

-- the change of each movement of a list, added up
unfoldable pub changes : PNet → List ℤ → List Mode → ℤ
changes net weights [] = pos 0
changes net weights (t ∷ ts) = change net weights t +ℤ changes net weights ts
