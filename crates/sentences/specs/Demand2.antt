-- Demand 2: "Reading, firing, running a list, complementing, checking a reachability certificate, naming dead modes and summing the figure answer as Billington's P-net
-- definition and document 01 say. The figure after a list is the starting figure plus the weight change of each accepted movement." Which refusals, demand 1 says.
use Rattle.model.specs.declared.Pair.{Pair}
use Rattle.std.specs.Prelude.{Option as Perhaps, ℕ, ◌≤◌, ◌<◌, ◌≡◌, true, List, ◌↔◌, ◌≢◌, ℤ, pos, ◌+ℤ◌, ◌-ℤ◌, ◌*ℤ◌, length, take, drop, Result, Bool}
use Rattle.std.proofs.Math.Option.{Option, none, some}
use Rattle.model.specs.declared.Mode.{Mode}
use Rattle.model.specs.declared.Refusal.{Refusal}
use Rattle.model.specs.declared.Version.TheVariants.{One}
use Rattle.model.specs.Refusals.{Answer}
use Rattle.model.specs.Refusals.{carries, number}
use Rattle.model.specs.Replies.{yields}
use Rattle.model.specs.First.{Lowest, NoneBelow}
use Rattle.model.specs.Nets.{pairs, modes, pair_no, mode_no, count, arc_no, row}
use Rattle.model.specs.Markings.{Marking}
use Rattle.model.specs.Billington.{Follows}
use Rattle.movement.specs.Figures.{sum, weight}
use Rattle.movement.specs.Promises.{Leads, ModeRule, MarkingAfter}
use Rattle.second_form.specs.Complement.{complement}
use Rattle.second_form.specs.Promises.{KillsAt, Figure64}
use Rattle.both_forms.specs.Promises.{ArcByArc}
use Rattle.both_forms.specs.WorkedExamples.{own_example}
use Rattle.heads.specs.Layout.{sheet_end}
use Rattle.sheets.specs.nets.Nets.{net_refusal}
use Rattle.sheets.specs.lists.Weights.{weights_refusal}
use Rattle.sheets.specs.lists.Movements.{movements_refusal}
use Rattle.sheets.specs.Allowed.{AfterNetAllows, AfterWeightsAllows, AfterMovementsAllows}
use Rattle.sheets.specs.written.Written.{length_of}
use Rattle.sheets.specs.Whole.{whole_net, whole_movements}
use Rattle.sheets.specs.Decoded.{net_of, weights_of, movements_of}
use Rattle.sheets.specs.Accepted.{AcceptedNet, AcceptedMovements, AcceptedWeights}
use Rattle.sheets.specs.lists.Promises.{SignedWeights}
use Rattle.sheets.specs.written.Promises.{WrittenThenRead, ReadThenWritten}
use Rattle.sentences.specs.Largest.{Largest}
use Rattle.fire.specs.Allowed.{BeginAllows, TestAllows, FireAllows}
use Rattle.fire.specs.Promises.{Fires}
use Rattle.run.specs.declared.Ran.{Ran}
use Rattle.run.specs.Allowed.{RunAllows, CertifyAllows}
use Rattle.complement.specs.Allowed.{ComplementAllows}
use Rattle.opened.specs.dead.IsDead as one
use Rattle.opened.specs.dead.FirstDead as first
use Rattle.opened.specs.dead.Allowed.{IsDeadAllows, FirstDeadAllows}
use Rattle.statement.specs.weigh.Calls.{told}
use Rattle.statement.specs.weigh.Allowed.{FigureAllows, ChangeAllows}
use Rattle.text.specs.Promises.{Decimals}
use Rattle.statement.specs.Allowed.{StatementAllows}
use Rattle.statement.specs.Replay.{replay_text}
use Rattle.statement.specs.Example.{Printed}
use Rattle.answers.specs.declared.Counted.{Counted}
use Rattle.sentences.specs.Bytes.{Bytes}
use Rattle.sentences.specs.Calls.{Public, emits, for_c}
use Rattle.sentences.specs.Outcomes.{Accepts, Begins, movement_no}
use Rattle.sentences.specs.Wrote.{CallWrote, WritesLength}

-- A reader "hands back the part of the caller's bytes after the sheet, which may be empty; on a refusal it hands back the whole run."
pub record HandsBack (s part : List ℕ) (refusal : Option Refusal) : Type 0 where
  pub accepted : refusal ≡ none → part ≡ drop (sheet_end s) s
  pub refused : refusal ≢ none → part ≡ s

-- Reading. A sheet that is accepted means a net, a list or weights, by `net_of`, `movements_of` and `weights_of`.
pub record Reading : Type 0 where
  pub net : AcceptedNet
  pub movements : AcceptedMovements
  pub weights : AcceptedWeights
  pub signs : SignedWeights
  -- both directions of a net sheet
  pub written_then_read : WrittenThenRead
  pub read_then_written : ReadThenWritten
  -- "The largest net sheet is 35,083 bytes."
  pub largest : Largest
  -- the parts after the sheets
  pub after_net : (s part : List ℕ) → AfterNetAllows s part → HandsBack s part (net_refusal s)
  pub after_weights : (s part : List ℕ) (pairs : ℕ) → AfterWeightsAllows s pairs part → HandsBack s part (weights_refusal pairs s)
  pub after_movements : (s part : List ℕ) → AfterMovementsAllows s part → HandsBack s part (movements_refusal s)

-- Firing. "A mode is enabled when, at every pair: - Pre ≤ M - M + Post ≤ K - M ≤ I", of a net and a marking that are accepted. "Where the two differ on firing, source
-- document 000 decides; only refusal 14 is a limit added here." "Pre is not taken off before the capacity test, and a count equal to I is still allowed."
pub record Firing : Type 0 where
  pub test : (net marking : List ℕ) (t : Mode) (a : Answer) → TestAllows net marking t a → (number a ≡ 0) ↔ Fires net marking t
  pub fire : (net marking left : List ℕ) (t : Mode) (a : Answer) → FireAllows net marking t (a, left) → (number a ≡ 0) ↔ Fires net marking t
  -- "Firing gives M − Pre + Post."
  pub leaves : (net marking left : List ℕ) (t : Mode) (a : Answer) → FireAllows net marking t (a, left) → number a ≡ 0
      → Follows (pairs (net_of net)) (row (net_of net) t) (count marking) (count left) × (length left ≡ pairs (net_of net))
  -- "A mode without arcs is always enabled and changes nothing."
  pub without_arcs : (net marking left : List ℕ) (t : Mode) (a : Answer) → FireAllows net marking t (a, left)
      → whole_net net ≡ none → Marking (net_of net) marking → t.0 < modes (net_of net)
      → NoneBelow (length (net_of net).arcs) (λ k. (arc_no (net_of net).arcs k).mode.0 ≡ t.0) → (number a ≡ 0) × (left ≡ marking)
  -- wherever a mode is fired, in a list, a certificate or a complement: what is accepted, and the marking after it
  pub mode_rule : ModeRule
  pub marking_after : MarkingAfter
  -- ours: begin writes the first marking
  pub begin : (net marking left : List ℕ) (a : Answer) → BeginAllows net marking (a, left) → number a ≡ 0 → left ≡ (net_of net).start

-- Running a list. "Running stops at the first refused movement, returns how many were accepted, and leaves the marking that those gave." What refuses the next
-- movement, `run_stops` of demand 1 says.
pub record RunReturns (net movements marking left : List ℕ) (r : Ran) : Type 0 where
  pub part : r.accepted ≤ length (movements_of movements)
  pub leads : Leads (net_of net) (take r.accepted (movements_of movements)) marking left
  pub whole : (number r.answer ≡ 0) ↔ (Begins net movements marking × (r.accepted ≡ length (movements_of movements)))
  pub before : (¬ Begins net movements marking) → (r.accepted ≡ 0) × (left ≡ marking)

abbrev pub Running : Type 0
Running = (net movements marking left : List ℕ) (r : Ran) → RunAllows net movements marking (r, left) → RunReturns net movements marking left r

-- Complementing. "From source document 000, figure 6.4"; "The call returns the length written and touches no byte after it." That the net written is the
-- `complement` of the net read, demand 3 says. "Original pairs keep their numbers." (`originals` of `IsFigure64`)
pub record Complementing : Type 0 where
  pub figure64 : Figure64
  pub arc_by_arc : ArcByArc
  pub writes : (net : List ℕ) → WritesLength (ComplementAllows net)
  -- "The complement of this net has L = 87, first marking 3, 0, 2, and a third arc 0,2 with Pre 1, Post 2."
  pub own_example : (complement own_example.net ≡ own_example.printed) × (length_of One own_example.printed ≡ 87)

-- Checking a certificate. "accepted exactly when the list runs whole from the first marking and ends at the claim"
abbrev pub Certifying : Type 0
Certifying = (net movements claim : List ℕ) (a : Answer) → CertifyAllows net movements claim a
    → (number a ≡ 0) ↔ ((whole_net net ≡ none) × (whole_movements movements ≡ none) × Leads (net_of net) (movements_of movements) (net_of net).start claim)

-- Naming dead modes. "at some pair, Pre is above the least of K less Post and I, or Post is above K", by the weak rule "the lesser of K and I"
abbrev pub DeadAt : List ℕ → ℕ → ℕ → Type 0
DeadAt net t p = (p < pairs (net_of net)) × KillsAt (net_of net) (mode_no t) p

pub record NamingDead : Type 0 where
  -- "gives yes or no"
  pub is_dead : (net : List ℕ) (t : Mode) (d : Result Bool Refusal) → IsDeadAllows net t d → (one.told d).carried.number ≡ 0
      → (one.told d ≡ yields true) ↔ ((p : ℕ) × DeadAt net t.0 p)
  -- "its lowest locally dead mode with the lowest pair that makes it so, or none"
  pub first_dead : (net : List ℕ) (d : Result (Perhaps (Mode × Pair)) Refusal) → FirstDeadAllows net d → (first.told d).carried.number ≡ 0 → (t p : ℕ)
      → (first.told d ≡ yields (some (record { mode = mode_no t; pair = pair_no p })))
      ↔ (Lowest (modes (net_of net)) (λ u. (q : ℕ) × DeadAt net u q) t × Lowest (pairs (net_of net)) (KillsAt (net_of net) (mode_no t)) p)
  pub none : (net : List ℕ) (d : Result (Perhaps (Mode × Pair)) Refusal) → FirstDeadAllows net d → (first.told d).carried.number ≡ 0
      → (first.told d ≡ yields none) ↔ NoneBelow (modes (net_of net)) (λ t. (p : ℕ) × DeadAt net t p)

-- Summing the figure. "The figure is the sum over all pairs of weight times count."; "A mode's weight change is the sum of weight times (Post less Pre)."
pub record Summing : Type 0 where
  pub figure : (net weights marking : List ℕ) (f : Result ℤ Refusal) → FigureAllows net weights marking f → (told f).carried.number ≡ 0
      → told f ≡ yields (sum (pairs (net_of net)) (λ p. weight (weights_of weights) p *ℤ pos (count marking p)))
  pub change : (net weights : List ℕ) (t : Mode) (f : Result ℤ Refusal) → ChangeAllows net weights t f → (told f).carried.number ≡ 0
      → told f ≡ yields (sum (pairs (net_of net)) (λ p. weight (weights_of weights) p *ℤ (pos (row (net_of net) t p).post -ℤ pos (row (net_of net) t p).pre)))

-- "The figure after a list is the starting figure plus the weight change of each accepted movement."
module _ (net weights movements marking left : List ℕ) (r : Ran) where
  pub record FigureAfter : Type 0 where
    pub start : ℤ
    pub change : ℕ → ℤ
    -- the figure call answers the starting figure, the change call the change of each accepted movement, and the figure call of the marking that the run leaves
    pub starts : (f : Result ℤ Refusal) → FigureAllows net weights marking f → told f ≡ yields start
    pub moves : (k : ℕ) → k < r.accepted → (f : Result ℤ Refusal) → ChangeAllows net weights (movement_no movements k) f → told f ≡ yields (change k)
    pub ends : (f : Result ℤ Refusal) → FigureAllows net weights left f → told f ≡ yields (start +ℤ sum r.accepted change)

abbrev pub FigureOverList : Type 0
FigureOverList = (net weights movements marking left : List ℕ) (r : Ran) → Accepts Public.figure (net, weights, marking)
    → RunAllows net movements marking (r, left)
    → FigureAfter net weights movements marking left r

-- `replay`: what the call writes is `replay_text`, into a slice that the caller lends, of which 262,144 bytes hold every text. Fewer are refused by 10, whatever the input.
pub record ByRoom {A : Type 0} (told refused accepted : A) (out : List ℕ) : Type 0 where
  pub short : (told ≡ refused) ↔ (length out < 262144)
  pub enough : (told ≡ accepted) ↔ (262144 ≤ length out)

pub record Replay : Type 0 where
  pub writes : (input : List ℕ) → WritesLength (StatementAllows input)
  pub text : (input text : List ℕ) → CallWrote (StatementAllows input) text → text ≡ replay_text input
  pub statement : (input out : List ℕ) (o : Result ℕ Refusal × List ℕ) → StatementAllows input out o → ByRoom (emits o.0) (carries 10 0 0) (carries 0 0 0) out
  pub statement_for_c : (input out : List ℕ) (told : Counted) (left : List ℕ) → (for_c Public.statement).Allows (input, out) told left
      → ByRoom told.answer.number 10 0 out
  pub longest : (input : List ℕ) → Bytes input → length (replay_text input) ≤ 262144
  -- a number's digits read back as the number, with no zero before them
  pub decimals : Decimals
  -- its own example, byte for byte
  pub printed : Printed

pub record Demand2 : Type 0 where
  -- "Reading, firing, running a list, complementing, checking a reachability certificate, naming dead modes and summing the figure answer as Billington's P-net
  -- definition and document 01 say."
  pub reading : Reading
  pub firing : Firing
  pub running : Running
  pub complementing : Complementing
  pub certifying : Certifying
  pub naming_dead : NamingDead
  pub summing : Summing
  -- "The figure after a list is the starting figure plus the weight change of each accepted movement."
  pub figure_over_list : FigureOverList
  -- "One program, `replay`, stands over the library."
  pub replay : Replay
