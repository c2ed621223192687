-- An export line by line: what can stand at a line's start depends on a small state alone.
use Rattle.std.specs.Prelude.{ℕ, ◌+◌, ◌-◌, ◌≤◌, ◌<◌, ◌≡◌, true, false, cond, List, [], ◌∷◌, ◌++◌, ltb}
use Rattle.std.proofs.Math.Option.{Option, none, some}
use Rattle.model.specs.Numbers.{limit}
use Rattle.grammar.specs.declared.State.{State}
use Rattle.pnml.specs.Pnml.{closing, place_text, transition_text, pre_text, post_text}

pub data Line : Type 0 where
  place : ℕ → Line
  transition : Line
  pre : ℕ → ℕ → Line
  post : ℕ → ℕ → Line

-- the pairs that an arc can have: from .. (not included) up_to; after 2,048 arcs only the Post of the pair in hand
abbrev pub up_to : State → ℕ
up_to q = cond (ltb q.arcs 2048) q.places q.low

abbrev pub from_post : State → ℕ
from_post q = cond q.half (q.low - 1) q.low

pub record ArcAllowed (q : State) (lowest p w : ℕ) : Type 0 where
  pub some_mode : 1 ≤ q.modes
  pub least : lowest ≤ p
  pub most : p < up_to q
  pub inside : p < q.places
  pub positive : 1 ≤ w
  pub weight : w ≤ limit

pub record PlaceAllowed (q : State) (n : ℕ) : Type 0 where
  pub no_mode : q.modes ≡ 0
  pub most : q.places < 256
  pub count : n ≤ limit

pub record TransitionAllowed (q : State) : Type 0 where
  pub some_place : 1 ≤ q.places
  pub most : q.modes < 256

abbrev pub Allowed : State → Line → Type 0
Allowed q (place n) = PlaceAllowed q n
Allowed q transition = TransitionAllowed q
Allowed q (pre p w) = ArcAllowed q q.low p w
Allowed q (post p w) = ArcAllowed q (from_post q) p w

abbrev pub after : State → Line → State
after q (place n) = record { places = q.places + 1; modes = q.modes; arcs = q.arcs; low = q.low; half = q.half }
after q transition = record { places = q.places; modes = q.modes + 1; arcs = q.arcs; low = 0; half = false }
after q (pre p w) = record { places = q.places; modes = q.modes; arcs = q.arcs + 1; low = p + 1; half = true }
after q (post p w) =
    record { places = q.places; modes = q.modes; arcs = cond (ltb p q.low) q.arcs (q.arcs + 1); low = p + 1; half = false }

unfoldable pub line_text : State → Line → List ℕ
line_text q (place n) = place_text q.places n
line_text q transition = transition_text q.modes
line_text q (pre p w) = pre_text (q.modes - 1) p w
line_text q (post p w) = post_text (q.modes - 1) p w

abbrev pub start : State
start = record { places = 0; modes = 0; arcs = 0; low = 0; half = false }

-- a line, or the closing
abbrev pub AllowedNext : State → Option Line → Type 0
AllowedNext q none = 1 ≤ q.places
AllowedNext q (some l) = Allowed q l

abbrev pub next_text : State → Option Line → List ℕ
next_text q none = closing
next_text q (some l) = line_text q l

unfoldable pub Valid : State → List Line → Type 0
Valid q [] = 1 ≤ q.places
Valid q (l ∷ ls) = Allowed q l × Valid (after q l) ls

unfoldable pub text_from : State → List Line → List ℕ
text_from q [] = closing
text_from q (l ∷ ls) = line_text q l ++ text_from (after q l) ls
