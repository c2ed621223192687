-- The complements that the sources print. Pairs have document 01's numbers: the originals s1, s2 are 0 and 1, their complements come after both,
-- where source document 000 prints s1, ŝ1, s2. What it prints as 0, 0 at a pair is no arc.
use Rattle.std.specs.Prelude.{ℕ, ◌≡◌, List, [], ◌∷◌, map, replicate}
use Rattle.std.proofs.Math.Option.{none}
use Rattle.model.specs.declared.CapacityRule.TheVariants.{Strong}
use Rattle.model.specs.Numbers.{ℕ∞, fin, ∞}
use Rattle.model.specs.Nets.{NetArc, PNet, pair_no, mode_no}
use Rattle.second_form.specs.Complement.{complement, complement_refusal}

pub record Worked : Type 0 where
  pub net : PNet
  pub printed : PNet

-- mode, pair, Pre, Post, I
abbrev pub arc : ℕ → ℕ → ℕ → ℕ → ℕ∞ → NetArc
arc t p pre post i = record { mode = mode_no t; pair = pair_no p; entry = record { pre = pre; post = post; inhibitor = i } }

-- Source document 000, section 6.3, figures 6.5 and 6.6: one place of capacity 5, marked with 3.
abbrev inhibitor_example : Worked
inhibitor_example =
    record {
      net = record { rule = Strong; colours = 1 ∷ []; modes_of = 1 ∷ []; capacity = fin 5 ∷ []; start = 3 ∷ []; arcs = arc 0 0 1 0 (fin 4) ∷ [] };
      printed =
          record { rule = Strong; colours = 1 ∷ 1 ∷ []; modes_of = 1 ∷ []; capacity = ∞ ∷ ∞ ∷ []; start = 3 ∷ 2 ∷ []; arcs = arc 0 0 1 0 ∞ ∷ arc 0 1 1 2 ∞ ∷ [] };
    }

-- s1 has capacity 5 and s2 is unbounded, of one colour each. The transitions, the first markings and the arcs differ.
abbrev two_places : List ℕ → List ℕ → List NetArc → List ℕ → List NetArc → Worked
two_places modes_of start arcs start' arcs' =
    record {
      net = record { rule = Strong; colours = 1 ∷ 1 ∷ []; modes_of = modes_of; capacity = fin 5 ∷ ∞ ∷ []; start = start; arcs = arcs };
      printed = record { rule = Strong; colours = 1 ∷ 1 ∷ 1 ∷ []; modes_of = modes_of; capacity = ∞ ∷ ∞ ∷ ∞ ∷ []; start = start'; arcs = arcs' };
    }

-- Section 6.5, nets P1 to P5, where t1 and t2 have one mode each: figures 6.7 and 6.9
abbrev P1 : Worked
P1 =
    two_places (1 ∷ 1 ∷ []) (3 ∷ 1 ∷ []) (arc 0 0 1 0 (fin 3) ∷ arc 1 0 1 0 ∞ ∷ arc 1 1 1 0 ∞ ∷ []) (3 ∷ 1 ∷ 2 ∷ [])
    (arc 0 0 1 0 ∞ ∷ arc 0 2 2 3 ∞ ∷ arc 1 0 1 0 ∞ ∷ arc 1 1 1 0 ∞ ∷ arc 1 2 0 1 ∞ ∷ [])

-- figures 6.11 and 6.12
abbrev P2 : Worked
P2 =
    two_places (1 ∷ 1 ∷ []) (3 ∷ 1 ∷ []) (arc 0 0 2 0 (fin 3) ∷ arc 1 0 1 0 ∞ ∷ arc 1 1 1 0 ∞ ∷ []) (3 ∷ 1 ∷ 2 ∷ [])
    (arc 0 0 2 0 ∞ ∷ arc 0 2 2 4 ∞ ∷ arc 1 0 1 0 ∞ ∷ arc 1 1 1 0 ∞ ∷ arc 1 2 0 1 ∞ ∷ [])

-- figures 6.14 and 6.16
abbrev P3 : Worked
P3 =
    two_places (1 ∷ 1 ∷ []) (3 ∷ 1 ∷ []) (arc 0 0 2 0 (fin 3) ∷ arc 1 0 0 1 ∞ ∷ arc 1 1 1 0 ∞ ∷ []) (3 ∷ 1 ∷ 2 ∷ [])
    (arc 0 0 2 0 ∞ ∷ arc 0 2 2 4 ∞ ∷ arc 1 0 0 1 ∞ ∷ arc 1 1 1 0 ∞ ∷ arc 1 2 1 0 ∞ ∷ [])

-- figures 6.18 and 6.19
abbrev P4 : Worked
P4 =
    two_places (1 ∷ 1 ∷ []) (2 ∷ 1 ∷ []) (arc 0 0 2 0 (fin 3) ∷ arc 1 0 0 0 (fin 2) ∷ arc 1 1 1 0 ∞ ∷ []) (2 ∷ 1 ∷ 3 ∷ [])
    (arc 0 0 2 0 ∞ ∷ arc 0 2 2 4 ∞ ∷ arc 1 1 1 0 ∞ ∷ arc 1 2 3 3 ∞ ∷ [])

-- figures 6.21 and 6.22
abbrev P5 : Worked
P5 =
    two_places (1 ∷ 1 ∷ []) (2 ∷ 1 ∷ []) (arc 0 0 2 0 (fin 3) ∷ arc 1 0 2 0 (fin 2) ∷ arc 1 1 1 0 ∞ ∷ []) (2 ∷ 1 ∷ 3 ∷ [])
    (arc 0 0 2 0 ∞ ∷ arc 0 2 2 4 ∞ ∷ arc 1 0 2 0 ∞ ∷ arc 1 1 1 0 ∞ ∷ arc 1 2 3 5 ∞ ∷ [])

-- Document 01's own example, aboard and ashore: "first marking 3, 0, 2, and a third arc 0,2 with Pre 1, Post 2"
abbrev pub own_example : Worked
own_example =
    two_places (1 ∷ []) (3 ∷ 0 ∷ []) (arc 0 0 1 0 (fin 4) ∷ arc 0 1 0 1 ∞ ∷ []) (3 ∷ 0 ∷ 2 ∷ [])
    (arc 0 0 1 0 ∞ ∷ arc 0 1 0 1 ∞ ∷ arc 0 2 1 2 ∞ ∷ [])

-- Three places of three colours, one and two, and several bounded pairs: 0 and 2 of the first place, 4 of the last.
abbrev several_colours : Worked
several_colours =
    let capacity : List ℕ∞ = fin 5 ∷ ∞ ∷ fin 7 ∷ ∞ ∷ fin 4 ∷ ∞ ∷ [] in
    let arcs : List NetArc = arc 0 2 2 1 (fin 3) ∷ arc 1 0 0 0 (fin 4) ∷ arc 1 4 1 0 ∞ ∷ [] in
    let arcs' : List NetArc = arc 0 2 2 1 ∞ ∷ arc 0 7 4 5 ∞ ∷ arc 1 4 1 0 ∞ ∷ arc 1 6 1 1 ∞ ∷ arc 1 8 0 1 ∞ ∷ [] in
    record {
      net = record { rule = Strong; colours = 3 ∷ 1 ∷ 2 ∷ []; modes_of = 2 ∷ []; capacity = capacity; start = 1 ∷ 2 ∷ 3 ∷ 4 ∷ 0 ∷ 5 ∷ []; arcs = arcs };
      printed =
          record { rule = Strong; colours = 3 ∷ 1 ∷ 2 ∷ 2 ∷ 1 ∷ []; modes_of = 2 ∷ []; capacity = replicate 9 ∞; start = 1 ∷ 2 ∷ 3 ∷ 4 ∷ 0 ∷ 5 ∷ 4 ∷ 4 ∷ 4 ∷ []; arcs = arcs' };
    }

abbrev worked : List Worked
worked = inhibitor_example ∷ P1 ∷ P2 ∷ P3 ∷ P4 ∷ P5 ∷ own_example ∷ several_colours ∷ []

-- complementing accepts each, and its complement is the printed one
pub record WorkedExamples : Type 0 where
  pub accepted : map (λ w. complement_refusal (λ arc. 0) w.net) worked ≡ map (λ w. none) worked
  pub complemented : map (λ w. complement w.net) worked ≡ map (λ w. w.printed) worked
