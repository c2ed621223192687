-- What the lines of a text say of a net: its first marking and its arcs, line by line.
-- A reader of the promises may skip this file.
use Rattle.std.specs.Prelude.{ℕ, ◌-◌, ◌≡◌, cond, List, [], ◌∷◌, ◌++◌, ltb, length}
use Rattle.model.specs.Numbers.{∞}
use Rattle.model.specs.Nets.{NetArc, PNet, pairs, modes, mode_no, pair_no}
use Rattle.grammar.specs.declared.State.{State}
use Rattle.grammar.specs.Lines.{Line, place, transition, pre, post, after}

pub record Gathered : Type 0 where
  pub marks : List ℕ
  pub arcs : List NetArc

abbrev pub nothing : Gathered
nothing = record { marks = []; arcs = [] }

abbrev pub with_arcs : Gathered → List NetArc → Gathered
with_arcs d more = record { marks = d.marks; arcs = d.arcs ++ more }

abbrev pub arc : ℕ → ℕ → ℕ → ℕ → NetArc
arc t p u v = record { mode = mode_no t; pair = pair_no p; entry = record { pre = u; post = v; inhibitor = ∞ } }

-- the last arc with another Post
unfoldable pub last_post : ℕ → List NetArc → List NetArc
last_post v [] = []
last_post v (a ∷ []) = arc a.mode.0 a.pair.0 a.entry.pre v ∷ []
last_post v (a ∷ (b ∷ arcs)) = a ∷ last_post v (b ∷ arcs)

-- a Post line of the pair in hand belongs to the arc of its Pre line
abbrev pub gather : State → Line → Gathered → Gathered
gather q (place n) d = record { marks = d.marks ++ n ∷ []; arcs = d.arcs }
gather q transition d = d
gather q (pre p w) d = with_arcs d (arc (q.modes - 1) p w 0 ∷ [])
gather q (post p w) d =
    record { marks = d.marks; arcs = cond (ltb p q.low) (last_post w d.arcs) (d.arcs ++ arc (q.modes - 1) p 0 w ∷ []) }

-- where lines lead, and what they say
unfoldable pub finish : State → Gathered → List Line → State × Gathered
finish q d [] = (q, d)
finish q d (l ∷ ls) = finish (after q l) (gather q l d) ls

-- that is a net's
pub record Tells (net : PNet) (e : State × Gathered) : Type 0 where
  pub pairs : e.0.places ≡ pairs net
  pub modes : e.0.modes ≡ modes net
  pub many : e.0.arcs ≡ length net.arcs
  pub marks : e.1.marks ≡ net.start
  pub arcs : e.1.arcs ≡ net.arcs
