-- Document 01, "`replay`": its own example, three sheets and what is printed for them. The one term is `printed` of proofs/Example.antt.
use Rattle.std.specs.Prelude.{ℕ, ◌≡◌, List, [], ◌∷◌, ◌++◌}
use Rattle.text.specs.Ascii.{ascii}
use Rattle.statement.specs.Replay.{replay_text}

-- "two places, aboard (one colour, K 5, first 3) and ashore (one colour, unbounded, first 0); one transition of one mode"
abbrev net_counts : List ℕ
net_counts = 0 ∷ 0 ∷ 0 ∷ 61 ∷ 1 ∷ 0 ∷ 2 ∷ 0 ∷ 1 ∷ 0 ∷ 1 ∷ 0 ∷ 1 ∷ 0 ∷ 1 ∷ []

abbrev net_pairs : List ℕ
net_pairs = 0 ∷ 0 ∷ 0 ∷ 5 ∷ 0 ∷ 0 ∷ 0 ∷ 3 ∷ 255 ∷ 255 ∷ 255 ∷ 255 ∷ 0 ∷ 0 ∷ 0 ∷ 0 ∷ []

-- "arcs 0,0 with Pre 1, Post 0, I 4 and 0,1 with Pre 0, Post 1, I unbounded (L = 61)"
abbrev net_arcs : List ℕ
net_arcs = 0 ∷ 2 ∷ 0 ∷ 0 ∷ 0 ∷ 0 ∷ 0 ∷ 0 ∷ 0 ∷ 1 ∷ 0 ∷ 0 ∷ 0 ∷ 0 ∷ 0 ∷ 0 ∷ 0 ∷ 4 ∷ 0 ∷ 0 ∷ 0 ∷ 1 ∷ 0 ∷ 0 ∷ 0 ∷ 0 ∷ 0 ∷ 0 ∷ 0 ∷ 1 ∷ 255 ∷ 255 ∷ 255 ∷ 255 ∷ []

-- "Weights 250 and 0 (L = 11). Movements 0, 0, 0, 0 (L = 9)."
abbrev pub weights : List ℕ
weights = 0 ∷ 0 ∷ 0 ∷ 11 ∷ 1 ∷ 0 ∷ 2 ∷ 0 ∷ 0 ∷ 0 ∷ 250 ∷ 0 ∷ 0 ∷ 0 ∷ 0 ∷ []

abbrev pub movements : List ℕ
movements = 0 ∷ 0 ∷ 0 ∷ 9 ∷ 1 ∷ 0 ∷ 0 ∷ 0 ∷ 0 ∷ 0 ∷ 0 ∷ 0 ∷ 0 ∷ []

abbrev pub input : List ℕ
input = net_counts ++ net_pairs ++ net_arcs ++ weights ++ movements

abbrev pub Printed : Type 0
Printed = replay_text input ≡ ascii "start 750\n1 0 0 500\n2 0 0 250\n3 0 0 0\nrefused 4 0 11 0 1\nend 3 0\n"
