-- The second pass: what has been read so far of an export's text, and what has been written of it.
-- A reader of the promises may skip this file.
use Rattle.model.specs.declared.Refusal.{Refusal}
use Rattle.std.specs.Prelude.{ℕ, ◌+◌, ◌*◌, ◌-◌, ◌≤◌, ◌<◌, true, false, ◌≡◌, ◌⊎◌, length, Result, Option as Perhaps, Some, None}
use mathlib.Core.List.{List, ◌++◌, flat_map}
use Rattle.std.proofs.Math.Option.{none, some}
use Rattle.model.specs.declared.Version.TheVariants.{One}
use Rattle.model.specs.Lists.{joined}
use Rattle.model.specs.Numbers.{∞}
use Rattle.model.specs.Nets.{NetArc, PNet}
use Rattle.sheets.specs.written.Written.{bytes16, bytes32, pair_bytes, arc_bytes}
use Rattle.sheets.specs.written.Puts.{Written, Put, Puts}
use Rattle.pnml.specs.Agrees.{Agrees}
use Rattle.pnml.specs.Pnml.{pnml, Exportable}
use Rattle.pnml.specs.Singles.{imported_sheet}
use Rattle.grammar.specs.parts.Stands.{Stands, Stops}
use Rattle.grammar.specs.declared.State.{State}
use Rattle.grammar.specs.Lines.{Line, place, after, AllowedNext, next_text, Valid, text_from}
use Rattle.grammar.specs.Gathered.{Gathered, arc, gather, finish, Tells}
use Rattle.grammar.proofs.Made.{Made}
use Rattle.import.specs.scan.Kinds.{Sound}
use Rattle.import.specs.Imports.{import_of, output_of}

-- what was written of a line: the state after it, where it ends, and the place after what was written; or there is no line
abbrev pub Wrote : Type 0
Wrote = Perhaps (State × ℕ × ℕ)

-- the lines still to be read, of a net whose export the text is
pub record Left (s : List ℕ) (net : PNet) (q : State) (d : Gathered) (at : ℕ) : Type 0 where
  pub lines : List Line
  pub valid : Valid q lines
  pub whole : Agrees s at (length (text_from q lines)) (text_from q lines)
  pub tells : Tells net (finish q d lines)

pub record Going (s : List ℕ) (q : State) (d : Gathered) (at : ℕ) : Type 0 where
  pub in_run : at ≤ length s
  pub sound : Sound q
  pub text : List ℕ
  pub made : Made q d text
  pub left : (net : PNet) → Exportable net → s ≡ pnml net → Left s net q d at

-- the pairs and the arcs that have been written
abbrev pub marks_bytes : List ℕ → List ℕ
marks_bytes marks = flat_map (pair_bytes ∞) marks

abbrev pub arcs_bytes : List NetArc → List ℕ
arcs_bytes arcs = flat_map (arc_bytes One) arcs

-- all places of a text have been read, and their pairs written
abbrev pub after_places : ℕ → State
after_places n = record { places = n; modes = 0; arcs = 0; low = 0; half = false }

pub record PlacesPut (s : List ℕ) (n : ℕ) (before : List ℕ) (at : ℕ) (now : List ℕ) (read next : ℕ) : Type 0 where
  pub says : Gathered
  pub going : Going s (after_places n) says read
  pub puts : Puts before at (marks_bytes says.marks) now next
  pub marks : (net : PNet) → Exportable net → s ≡ pnml net → says.marks ≡ net.start

-- a line of the text
abbrev pub LineAt : State → List ℕ → ℕ → Line → ℕ → Type 0
LineAt q s at l next = Stands (AllowedNext q) (next_text q) s at (some l) next

-- the closing, a line of some kind, or none
abbrev pub ClosedOr : Type 0 → State → List ℕ → ℕ → Type 0
ClosedOr line q s at = ((m : ℕ) × Stands (AllowedNext q) (next_text q) s at none m) ⊎ (line ⊎ ((p : ℕ) × Stops (AllowedNext q) (next_text q) s at p))

-- a line that is no place
abbrev pub Other : State → List ℕ → ℕ → Type 0
Other q s at = (l : Line) × (m : ℕ) × (LineAt q s at l m) × (1 ≤ (after q l).modes) × ((after q l).places ≡ q.places)

-- a place, where there is room for its pair, and its pair written
pub record PlaceReady (s : List ℕ) (q : State) (at : ℕ) (out : List ℕ) (next : ℕ) : Type 0 where
  pub in_run : at ≤ length s
  pub sound : Sound q
  pub room : (n m : ℕ) → LineAt q s at (place n) m → next + 8 ≤ length out

pub record PlacePut (s : List ℕ) (q : State) (at : ℕ) (before : List ℕ) (was : ℕ) (now : List ℕ) (r : State) (read next : ℕ) : Type 0 where
  pub count : ℕ
  pub stands : LineAt q s at (place count) read
  pub state : r ≡ after q (place count)
  pub puts : Put before was 8 (pair_bytes ∞ count) now next

-- what stands there is no place: the closing, another line, or none
pub record NoPlace (s : List ℕ) (q : State) (at : ℕ) (before now : List ℕ) : Type 0 where
  pub kept : now ≡ before
  pub how : ClosedOr (Other q s at) q s at

abbrev pub PlacedAs : (s : List ℕ) (q : State) (at : ℕ) (before : List ℕ) (next : ℕ) (now : List ℕ) → Wrote → Type 0
PlacedAs s q at before next now (Some x) = PlacePut s q at before next now x.0 x.1 x.2
PlacedAs s q at before next now None = NoPlace s q at before now

pub record PlaceAllows (s : List ℕ) (q : State) (at : ℕ) (before : List ℕ) (next : ℕ) (now : List ℕ) (r : Wrote) : Type 0 where
  pub how : PlacedAs s q at before next now r

-- a line, where there is room for what it adds to the arcs
pub record Ready (s : List ℕ) (q : State) (at : ℕ) (out : List ℕ) (next : ℕ) : Type 0 where
  pub in_run : at ≤ length s
  pub sound : Sound q
  pub within : next ≤ length out
  pub in_hand : q.half ≡ true → 16 ≤ next
  pub room : (l : Line) (m : ℕ) → LineAt q s at l m → next + 16 * (after q l).arcs ≤ length out + 16 * q.arcs

-- a Post line: the Post of the arc in hand, or an arc of its own
pub record PostPut (q : State) (pair post : ℕ) (before : List ℕ) (at : ℕ) (now : List ℕ) (next : ℕ) : Type 0 where
  pub in_hand : pair < q.low → (Written before (at - 8) (bytes32 post) now) × (length now ≡ length before) × (next ≡ at)
  pub own_arc_put : q.low ≤ pair → Put before at 16 (arc_bytes One (arc (q.modes - 1) pair 0 post)) now next

-- what a line adds is written, whatever it is added to
pub record LinePut (s : List ℕ) (q : State) (at : ℕ) (before : List ℕ) (was : ℕ) (now : List ℕ) (r : State) (read next : ℕ) : Type 0 where
  pub line : Line
  pub stands : LineAt q s at line read
  pub state : r ≡ after q line
  pub places : r.places ≡ q.places
  pub puts : (l : List ℕ) (base : ℕ) (d : Gathered) (text : List ℕ) → Made q d text → Puts l base (arcs_bytes d.arcs) before was
      → Puts l base (arcs_bytes (gather q line d).arcs) now next

-- what stands there adds nothing: the closing, a place or no line
pub record NoLine (s : List ℕ) (q : State) (at : ℕ) (before now : List ℕ) : Type 0 where
  pub kept : now ≡ before
  pub how : ClosedOr ((n : ℕ) × (m : ℕ) × LineAt q s at (place n) m) q s at

abbrev pub WroteAs : (s : List ℕ) (q : State) (at : ℕ) (before : List ℕ) (next : ℕ) (now : List ℕ) → Wrote → Type 0
WroteAs s q at before next now (Some x) = LinePut s q at before next now x.0 x.1 x.2
WroteAs s q at before next now None = NoLine s q at before now

pub record WriteAllows (s : List ℕ) (q : State) (at : ℕ) (before : List ℕ) (next : ℕ) (now : List ℕ) (r : Wrote) : Type 0 where
  pub how : WroteAs s q at before next now r

-- the arcs of whatever net's export the text is
pub record ArcsPut (s : List ℕ) (before : List ℕ) (at : ℕ) (now : List ℕ) (next : ℕ) : Type 0 where
  pub puts : (net : PNet) → Exportable net → s ≡ pnml net → Puts before at (arcs_bytes net.arcs) now next

-- and the whole sheet
pub record SheetPut (s : List ℕ) (before now : List ℕ) (next : ℕ) : Type 0 where
  pub puts : (net : PNet) → Exportable net → s ≡ pnml net → Puts before 0 (imported_sheet net) now next

-- counts of 1
abbrev pub ones_bytes : ℕ → List ℕ
ones_bytes n = joined n (λ _. bytes16 1)

abbrev pub counts_bytes : ℕ → ℕ → List ℕ
counts_bytes places modes = bytes16 places ++ (bytes16 modes ++ (ones_bytes places ++ ones_bytes modes))

-- the answer and the output of whatever net's export the text is
pub record ImportedAs (s before : List ℕ) (r : Result ℕ Refusal) (now : List ℕ) : Type 0 where
  pub each : (net : PNet) → Exportable net → s ≡ pnml net → (r ≡ import_of net before) × (now ≡ output_of net before)

pub record PostRoom (q : State) (pair : ℕ) (out : List ℕ) (at : ℕ) : Type 0 where
  pub within : at ≤ length out
  pub in_hand : pair < q.low → 16 ≤ at
  pub own_arc_put : q.low ≤ pair → at + 16 ≤ length out

-- the transitions and arcs of a text, from here on
pub record ArcsFollow (s : List ℕ) (places at : ℕ) : Type 0 where
  pub says : Gathered
  pub going : Going s (after_places places) says at
