-- The kinds of lines, by what they begin with, and what the reader of a line answers.
use Rattle.std.specs.Prelude.{ℕ, ◌+◌, ◌≤◌, ◌<◌, ◌≡◌, Bool, true, false, ◌&&◌, List, [], ◌∷◌, ◌++◌, ◌⊎◌, ltb, eqb, length, Result, Ok, Err, Option as Perhaps, Some, None}
use Rattle.std.proofs.Math.Option.{none, some}
use Rattle.movement.proofs.Each.{Each}
use Rattle.pnml.specs.Agrees.{Agrees}
use Rattle.grammar.specs.declared.State.{State}
use Rattle.import.specs.declared.scan.Kind.{Kind}
use Rattle.import.specs.declared.scan.Kind.TheVariants.{Close, Place, Transition, Pre, Post}
use Rattle.import.specs.declared.scan.Step.{Step}
use Rattle.import.specs.declared.scan.Step.TheVariants.{Placed, Begun, PreArc, PostArc, Closed}
use Rattle.model.specs.Nets.{PNet}
use Rattle.grammar.specs.Gathered.{Gathered, nothing, finish, Tells}
use Rattle.text.specs.Ascii.{ascii}
use Rattle.pnml.specs.Pnml.{opening, closing, three, pnml, Exportable, Refused20}
use Rattle.grammar.specs.Lines.{Line, place, transition, pre, post, after, start, Valid, text_from, up_to, from_post, AllowedNext, next_text}
use Rattle.grammar.specs.parts.Stands as L
use Rattle.grammar.specs.parts.Parts.{WholeOf, Between, Within, valued}

-- a kind and where its head ends, or the farthest position that a head goes to
abbrev pub Headed : Type 0
Headed = Result (Kind × ℕ) ℕ

-- the pair, the weight and the end of an arc's line, or where none goes on so
abbrev pub Arced : Type 0
Arced = Result (ℕ × ℕ × ℕ) ℕ

-- the state after a line, or none after the closing, and where it ends; or where no line goes on so
abbrev pub Moved : Type 0
Moved = Result (Perhaps State × ℕ) ℕ

unfoldable pub head_text : Kind → List ℕ
head_text Close = closing
head_text Place = ascii "      <place id=\"p"
head_text Transition = ascii "      <transition id=\"t"
head_text Pre = ascii "      <arc id=\"i"
head_text Post = ascii "      <arc id=\"o"

unfoldable pub possible : State → Kind → Bool
possible q Close = ltb 0 q.places
possible q Place = eqb q.modes 0 && ltb q.places 256
possible q Transition = ltb 0 q.places && ltb q.modes 256
possible q Pre = ltb 0 q.modes && ltb q.low (up_to q)
possible q Post = ltb 0 q.modes && ltb (from_post q) (up_to q)

-- states that lines lead to
pub record Sound (q : State) : Type 0 where
  pub places : q.places ≤ 256
  pub modes : q.modes ≤ 256
  pub arcs : q.arcs ≤ 2048
  pub low : q.low ≤ q.places
  pub some : 1 ≤ q.modes → 1 ≤ q.places
  pub half : q.half ≡ true → 1 ≤ q.low

abbrev pub UpTo : List ℕ → ℕ → List ℕ → ℕ → Type 0
UpTo s at c count = (n : ℕ) → n ≤ length c → Agrees s at n c → (n ≤ count) × (n < length c)

pub record NoHeadOf (q : State) (ks : List Kind) (s : List ℕ) (at p : ℕ) : Type 0 where
  pub count : ℕ
  pub place : p ≡ at + count
  pub each : Each (λ k. possible q k ≡ true → UpTo s at (head_text k) count) ks
  pub one : (count ≡ 0) ⊎ ((k : Kind) × (possible q k ≡ true) × (Agrees s at count (head_text k)))

pub record HeadOf (q : State) (s : List ℕ) (at : ℕ) (k : Kind) (next : ℕ) : Type 0 where
  pub can : possible q k ≡ true
  pub whole : WholeOf s at (head_text k) next

abbrev pub HeadedAs : State → List Kind → List ℕ → ℕ → Headed → Type 0
HeadedAs q ks s at (Ok x) = HeadOf q s at x.0 x.1
HeadedAs q ks s at (Err p) = NoHeadOf q ks s at p

pub record Tried (q : State) (ks : List Kind) (s : List ℕ) (at : ℕ) (r : Headed) : Type 0 where
  pub how : HeadedAs q ks s at r

pub record TryAllows (q : State) (kind : Kind) (s : List ℕ) (at : ℕ) (before r : Headed) : Type 0 where
  pub more : (ks : List Kind) → Tried q ks s at before → Tried q (kind ∷ ks) s at r

abbrev pub kinds : List Kind
kinds = Post ∷ Pre ∷ Transition ∷ Place ∷ Close ∷ []

-- what follows the heads
abbrev pub place_start : ℕ → List ℕ
place_start p = three p ++ ascii "\"><initialMarking><text>"

abbrev pub place_tail : List ℕ
place_tail = ascii "/text></initialMarking></place>\n"

abbrev pub arc_tail : List ℕ
arc_tail = ascii "/text></inscription></arc>\n"

abbrev pub pair_text : ℕ → ℕ → List ℕ
pair_text t p = (three t ++ ascii "-") ++ three p

unfoldable pub ends_text : Bool → ℕ → ℕ → List ℕ
ends_text true t p = (((ascii "\" source=\"p" ++ three p) ++ ascii "\" target=\"t") ++ three t) ++ ascii "\"><inscription><text>"
ends_text false t p = (((ascii "\" source=\"t" ++ three t) ++ ascii "\" target=\"p") ++ three p) ++ ascii "\"><inscription><text>"

abbrev pub ArcOk : ℕ → ℕ → ℕ × ℕ → Type 0
ArcOk low high x = Between low high x.0 × Within 1 x.1

abbrev pub arc_rest : Bool → ℕ → ℕ × ℕ → List ℕ
arc_rest is_pre t x = pair_text t x.0 ++ valued (ends_text is_pre t x.0) arc_tail x.1

abbrev pub ArcedAs : Bool → ℕ → ℕ → ℕ → List ℕ → ℕ → Arced → Type 0
ArcedAs is_pre t low high s at (Ok x) = L.Stands (ArcOk low high) (arc_rest is_pre t) s at (x.0, x.1) x.2
ArcedAs is_pre t low high s at (Err p) = L.Stops (ArcOk low high) (arc_rest is_pre t) s at p

pub record ArcAllows (is_pre : Bool) (t low high : ℕ) (s : List ℕ) (at : ℕ) (r : Arced) : Type 0 where
  pub how : ArcedAs is_pre t low high s at r

abbrev pub SteppedAs : State → List ℕ → ℕ → Result Step ℕ → Type 0
SteppedAs q s at (Ok (Placed n next)) = L.Stands (AllowedNext q) (next_text q) s at (some (place n)) next
SteppedAs q s at (Ok (Begun next)) = L.Stands (AllowedNext q) (next_text q) s at (some transition) next
SteppedAs q s at (Ok (PreArc p w next)) = L.Stands (AllowedNext q) (next_text q) s at (some (pre p w)) next
SteppedAs q s at (Ok (PostArc p w next)) = L.Stands (AllowedNext q) (next_text q) s at (some (post p w)) next
SteppedAs q s at (Ok (Closed next)) = L.Stands (AllowedNext q) (next_text q) s at none next
SteppedAs q s at (Err p) = L.Stops (AllowedNext q) (next_text q) s at p

pub record StepAllows (q : State) (s : List ℕ) (at : ℕ) (r : Result Step ℕ) : Type 0 where
  pub how : SteppedAs q s at r

-- what follows a head, wherever the line begins
pub record RestAllows (q : State) (kind : Kind) (s : List ℕ) (m : ℕ) (r : Result Step ℕ) : Type 0 where
  pub rest : (at : ℕ) → HeadOf q s at kind m → StepAllows q s at r

pub record MovedTo (q : State) (s : List ℕ) (at : ℕ) (r : State) (next : ℕ) : Type 0 where
  pub line : Line
  pub stands : L.Stands (AllowedNext q) (next_text q) s at (some line) next
  pub state : r ≡ after q line

abbrev pub WentOn : State → List ℕ → ℕ → Perhaps State → ℕ → Type 0
WentOn q s at (Some r) next = MovedTo q s at r next
WentOn q s at None next = L.Stands (AllowedNext q) (next_text q) s at none next

abbrev pub MovedAs : State → List ℕ → ℕ → Moved → Type 0
MovedAs q s at (Ok x) = WentOn q s at x.0 x.1
MovedAs q s at (Err p) = L.Stops (AllowedNext q) (next_text q) s at p

pub record MoveAllows (q : State) (s : List ℕ) (at : ℕ) (r : Moved) : Type 0 where
  pub how : MovedAs q s at r

pub record EndOf (q : State) (s : List ℕ) (at next : ℕ) : Type 0 where
  pub lines : List Line
  pub stands : L.Stands (Valid start) (text_from start) s at lines next
  pub says : Gathered
  pub ends : finish start nothing lines ≡ (q, says)
  pub net : PNet
  pub exportable : Exportable net
  pub text : pnml net ≡ opening ++ text_from start lines

-- all lines of a text, from its first on
abbrev pub LinesAs : List ℕ → ℕ → Result (State × ℕ) ℕ → Type 0
LinesAs s at (Ok x) = EndOf x.0 s at x.1
LinesAs s at (Err p) = L.Stops (Valid start) (text_from start) s at p

pub record LinesAllow (s : List ℕ) (at : ℕ) (r : Result (State × ℕ) ℕ) : Type 0 where
  pub how : LinesAs s at r

-- a net whose export is the text; and every such net has the counts that the last state has
pub record ExportOf (s : List ℕ) (q : State) : Type 0 where
  pub net : PNet
  pub exportable : Exportable net
  pub text : s ≡ pnml net
  pub says : Gathered
  pub tells : (net : PNet) → Exportable net → s ≡ pnml net → Tells net (q, says)

-- a whole text: an export, or 20 and its position
abbrev pub CheckedAs : List ℕ → Result State ℕ → Type 0
CheckedAs s (Ok q) = ExportOf s q
CheckedAs s (Err p) = Refused20 s p

pub record CheckAllows (s : List ℕ) (r : Result State ℕ) : Type 0 where
  pub how : CheckedAs s r
