-- What an accepted net sheet holds: every field is inside the sheet and within its limits.
use Prim.Native.Nat.{ℕ, ◌+◌, ◌-◌, ◌≤◌, ◌<◌}
use mathlib.Core.Path.{◌≡◌}
use mathlib.Core.Bool.{true}
use mathlib.Core.List.{List}
use mathlib.Core.Option.{none}
use borrow.Author.Tests.{ltb-false, leb-false, lt-ltb, not-false}
use Rattle.model.specs.declared.Thing.TheVariants.{Net}
use Rattle.model.specs.declared.Version.TheVariants.{One, Two}
use Rattle.model.specs.First.{first}
use Rattle.model.proofs.First.{left-none, right-none, first-each, only_if_none}
use Rattle.heads.specs.Bytes.{u16_at}
use Rattle.heads.specs.Layout.{sheet_end, places_at, colours_at, place_count, transition_count, modes_at, pair_count, mode_count, pairs_offset, pair_at, arc_count_at, arc_count, arcs_offset, arc_at, arc_size, arc_mode_at, arc_tail_at, arc_pair_at}
use Rattle.heads.specs.Version.{version_of}
use Rattle.heads.specs.Checks.{head_refusal, count_refusal}
use Rattle.heads.specs.Held.{Headed, Counted}
use Rattle.fields.specs.Fields.{running_refusal, pair_refusal, each_count, count_fields}
use Rattle.sheets.specs.nets.Nets.{rises_to, not_rising, arc_names_refusal, arc_refusal, arc_fields, arc_section, rule_field, pair_and_arc_fields, net_fields, net_refusal}
use Rattle.heads.proofs.Heads.{head-holds}
use Rattle.fields.proofs.RunningTotals.{CountRead, RunningRead, count-holds, running-holds, counted}
use Rattle.fields.proofs.PairFields.{CapacityRead, StartRead, capacity-holds as capacity-read, start-holds as start-read}
use Rattle.sheets.proofs.nets.TailsRead.{TailRead, tail-read, and_false}
use Rattle.sheets.proofs.nets.GroupsRead.{GroupRead, groups_read}

-- the k-th of the arcs from `start` on is there, names a mode and a pair that are there, and its numbers are in range (version 1)
pub record ArcRead (s : List ℕ) (modes pairs start k : ℕ) : Type 0 where
  pub there : arc_at start k + arc_size ≤ sheet_end s
  pub mode : u16_at s (arc_mode_at (arc_at start k)) < modes
  pub pair : u16_at s (arc_pair_at (arc_at start k)) < pairs
  pub rises : 0 < k → rises_to s (arc_at start (k - 1)) (arc_at start k) ≡ true
  pub tail : TailRead s (arc_tail_at (arc_at start k))

pub arc-read : (s : List ℕ) (modes pairs start k : ℕ) → arc_refusal s modes pairs start k ≡ none → ArcRead s modes pairs start k
unfolding arc_refusal arc_names_refusal not_rising
arc-read s modes pairs start k e =
    let names = left-none _ _ (right-none _ _ e) in
    record {
      there = ltb-false _ _ (only_if_none _ _ (left-none _ _ e));
      mode = leb-false _ _ (only_if_none _ _ (left-none _ _ names));
      pair = leb-false _ _ (only_if_none _ _ (left-none _ _ (right-none _ _ names)));
      rises = λ h. not-false _ (and_false _ _ (only_if_none _ _ (right-none _ _ (right-none _ _ names))) (lt-ltb 0 k h));
      tail = tail-read s _ _ (right-none _ _ (right-none _ _ e));
    }

module _ (s : List ℕ) (accepted : net_refusal s ≡ none) where
  pub headed : Headed s
  unfolding net_refusal
  headed = head-holds Net s (left-none _ _ accepted)

  fields-accepted : net_fields s ≡ none
  unfolding net_refusal
  fields-accepted = right-none (head_refusal Net s) _ accepted

  counts-accepted : count_fields s ≡ none
  unfolding net_fields
  counts-accepted = left-none _ _ (right-none (rule_field (version_of s) s) _ fields-accepted)

  pub counts_hold : Counted s
  counts_hold = counted s headed counts-accepted

  each-accepted : each_count s ≡ none
  unfolding count_fields
  each-accepted = right-none _ _ (right-none (count_refusal Net s (places_at s) 1 64) _ counts-accepted)

  pub colours_hold : (i : ℕ) → i < place_count s → RunningRead s (colours_at s) i
  unfolding each_count
  colours_hold i h = running-holds s (colours_at s) i (first-each _ (running_refusal s (colours_at s)) (left-none _ _ each-accepted) i h)

  pub modes_hold : (i : ℕ) → i < transition_count s → RunningRead s (modes_at s) i
  unfolding each_count
  modes_hold i h =
      running-holds s (modes_at s) i (first-each _ (running_refusal s (modes_at s)) (right-none (first (place_count s) _) _ each-accepted) i h)

  rest-accepted : pair_and_arc_fields s ≡ none
  unfolding net_fields
  rest-accepted = right-none (count_fields s) _ (right-none (rule_field (version_of s) s) _ fields-accepted)

  pair-accepted : (p : ℕ) → p < pair_count s → pair_refusal s (pair_at (pairs_offset s) p) ≡ none
  unfolding pair_and_arc_fields
  pair-accepted p h = first-each (pair_count s) (λ p. pair_refusal s (pair_at (pairs_offset s) p)) (left-none _ _ rest-accepted) p h

  pub capacity-holds : (p : ℕ) → p < pair_count s → CapacityRead s (pair_at (pairs_offset s) p)
  unfolding pair_refusal
  capacity-holds p h = capacity-read s _ (left-none _ _ (pair-accepted p h))

  pub start-holds : (p : ℕ) → p < pair_count s → StartRead s (pair_at (pairs_offset s) p)
  unfolding pair_refusal
  start-holds p h = start-read s _ (right-none _ _ (pair-accepted p h))

  section_accepted : arc_section (version_of s) s (mode_count s) (pair_count s) (arc_count_at s) ≡ none
  unfolding pair_and_arc_fields
  section_accepted = right-none _ _ rest-accepted

  -- version 1: one count, then the arcs
  module _ (one : version_of s ≡ One) where
    arcs-accepted : arc_fields s (mode_count s) (pair_count s) (arc_count_at s) ≡ none
    unfolding arc_section
    arcs-accepted = rw one at section_accepted

    pub arc-count-holds : CountRead s (arc_count_at s) 0 2048
    unfolding arc_fields
    arc-count-holds = count-holds Net s (arc_count_at s) 0 2048 (left-none _ _ arcs-accepted)

    pub arcs-within : arc_count s ≤ 2048
    unfolding arc_count
    arcs-within = arc-count-holds.most

    pub arc-holds : (k : ℕ) → k < arc_count s → ArcRead s (mode_count s) (pair_count s) (arcs_offset s) k
    unfolding arc_fields arc_count
    arc-holds k h =
        arc-read s (mode_count s) (pair_count s) (arcs_offset s) k
        (first-each (arc_count s) (arc_refusal s (mode_count s) (pair_count s) (arcs_offset s))
        (left-none _ _ (right-none (count_refusal Net s (arc_count_at s) 0 2048) _ arcs-accepted)) k h)

  -- version 2: mode by mode
  pub groups_hold : version_of s ≡ Two → (t : ℕ) → t < mode_count s → GroupRead s (pair_count s) (arc_count_at s) t
  unfolding arc_section
  groups_hold two = groups_read s (pair_count s) (mode_count s) (arc_count_at s) (rw two at section_accepted)
