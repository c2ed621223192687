-- What a put leaves in a lent slice: its bytes stored from a place on, and nothing else touched.
-- A reader of the promises may skip this file.
use Rattle.std.specs.Prelude.{ℕ, ◌+◌, ◌*◌, ◌≤◌, ◌≡◌, List, [], ◌∷◌, length}
use Rattle.std.proofs.lemmas.List.Edits.{sets}
use Rattle.model.specs.declared.Version.{Version}
use Rattle.model.specs.declared.Version.TheVariants.{One, Two}
use Rattle.model.specs.Lists.{joined}
use Rattle.heads.specs.Bytes.{byte_at}

-- (the library's `sets` stores them one by one)
pub record Written (before : List ℕ) (at : ℕ) (bytes now : List ℕ) : Type 0 where
  pub is : now ≡ sets before at bytes

-- a put of `size` bytes, which hands back the place after them
pub record Put (before : List ℕ) (at size : ℕ) (bytes now : List ℕ) (after : ℕ) : Type 0 where
  pub written : Written before at bytes now
  pub sized : length bytes ≡ size
  pub kept : length now ≡ length before
  pub next : after ≡ at + size

-- there is room for these bytes
pub record Room (out : List ℕ) (at : ℕ) (bytes : List ℕ) : Type 0 where
  pub fits : at + length bytes ≤ length out

-- these bytes are put there, and nothing else is touched
abbrev pub Puts : List ℕ → ℕ → List ℕ → List ℕ → ℕ → Type 0
Puts before at bytes now after = Put before at (length bytes) bytes now after

-- n bytes of a run, from `start` on
abbrev pub part_of : List ℕ → ℕ → ℕ → List ℕ
part_of s start n = joined n (λ i. byte_at s (start + i) ∷ [])

-- how long the head of a sheet is, the count before all arcs, the mode of an arc, the count before a mode's arcs, the arcs of a net, and a net sheet with so many places, transitions, pairs,
-- modes and arcs
abbrev pub head_size : Version → ℕ
head_size One = 5
head_size Two = 6

abbrev pub total_size : Version → ℕ
total_size One = 2
total_size Two = 0

abbrev pub mode_size : Version → ℕ
mode_size One = 2
mode_size Two = 0

abbrev pub own_size : Version → ℕ
own_size One = 0
own_size Two = 2

abbrev pub section_size : Version → ℕ → ℕ → ℕ
section_size One modes arcs = 2 + 16 * arcs
section_size Two modes arcs = 2 * modes + 14 * arcs

abbrev pub version_size : Version → ℕ
version_size One = 1
version_size Two = 2

abbrev pub sheet_size : Version → ℕ → ℕ → ℕ → ℕ → ℕ → ℕ
sheet_size v places transitions pairs modes arcs = 8 + version_size v + 2 * places + 2 * transitions + 8 * pairs + section_size v modes arcs
