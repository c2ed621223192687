-- The bytes of a text in ASCII; a space, and the end of a line.
use Rattle.std.specs.Prelude.{ℕ, List, [] as none, ◌∷◌ as ◌before◌}
use Prim.Native.Char.{code}
use Prim.Native.String.{String, [], ◌∷◌}

abbrev pub ascii : String → List ℕ
ascii [] = none
ascii (c ∷ s) = code c before ascii s

abbrev pub space : ℕ
space = 32

abbrev pub newline : ℕ
newline = 10
