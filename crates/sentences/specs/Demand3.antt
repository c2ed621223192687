-- Demand 3: "Take any net that the complementing call accepts, and any list of mode numbers from its first marking. The complement as written reads back as a net.
-- The two accept the same movements of that list and stop at the same one. At the start and after each accepted movement they agree on every original pair, and each
-- bounded pair and its complement add up to that pair's capacity."
use Rattle.std.specs.Prelude.{ℕ, ◌≤◌, ◌≡◌, List, ◌⊎◌, ◌≢◌, take}
use Rattle.std.proofs.Math.Option.{none}
use Rattle.model.specs.declared.Mode.{Mode}
use Rattle.model.specs.Refusals.{Answer}
use Rattle.model.specs.Refusals.{Carried, answer, number, carried}
use Rattle.model.specs.Nets.{PNet}
use Rattle.model.specs.Markings.{Marking}
use Rattle.movement.specs.Runs.{run}
use Rattle.second_form.specs.Complement.{complement, Corresponds}
use Rattle.heads.specs.Version.{version_of}
use Rattle.sheets.specs.Whole.{whole_net, whole_movements}
use Rattle.sheets.specs.Decoded.{net_of}
use Rattle.fire.specs.Allowed.{BeginAllows}
use Rattle.run.specs.declared.Ran.{Ran}
use Rattle.run.specs.Allowed.{RunAllows}
use Rattle.sentences.specs.Wrote.{ComplementWrote}

-- "Refusals correspond: 11, 12 and 13 in the net become 11 in its complement; 6 and 14 stay." What stays keeps its position and amount, and so does 0.
pub record Becomes (x y : Carried) : Type 0 where
  pub stays : x.number ≢ 12 → x.number ≢ 13 → y ≡ x
  pub becomes : (x.number ≡ 12) ⊎ (x.number ≡ 13) → y.number ≡ 11

-- a net and another along a list, missing modes included, each from its first marking
module _ (net other : PNet) (ts : List Mode) where
  pub record Agreeing : Type 0 where
    -- "The two accept the same movements of that list and stop at the same one."
    pub accepted : (run other ts other.start).accepted ≡ (run net ts net.start).accepted
    pub stop : Becomes (carried (answer (run net ts net.start).refusal)) (carried (answer (run other ts other.start).refusal))
    -- "At the start and after each accepted movement": after the first j of them, and j may be 0
    pub agree : (j : ℕ) → j ≤ (run net ts net.start).accepted
        → Corresponds net (run net (take j ts) net.start).marking (run other (take j ts) other.start).marking

-- The same of the calls: a run over either sheet with one movement sheet, any bytes, from markings that correspond. What the two leave may be lent to the next two
-- runs, so that a list of any length is run sheet after sheet, or movement by movement.
pub record RunsAgree (net movements : List ℕ) (r r' : Ran) (left left' : List ℕ) : Type 0 where
  pub accepted : r'.accepted ≡ r.accepted
  pub stop : whole_movements movements ≡ none → Becomes (carried r.answer) (carried r'.answer)
  pub no_list : whole_movements movements ≢ none → r'.answer ≡ r.answer
  pub marking : Marking (net_of net) left
  pub agree : Corresponds (net_of net) left left'

pub record RunAlike (net sheet : List ℕ) : Type 0 where
  pub begin : (m m' left left' : List ℕ) (a a' : Answer) → BeginAllows net m (a, left) → number a ≡ 0 → BeginAllows sheet m' (a', left') → number a' ≡ 0
      → Marking (net_of net) left × Corresponds (net_of net) left left'
  pub run : (movements m m' : List ℕ) → Marking (net_of net) m → Corresponds (net_of net) m m'
      → (r r' : Ran) (left left' : List ℕ) → RunAllows net movements m (r, left) → RunAllows sheet movements m' (r', left')
      → RunsAgree net movements r r' left left'

pub record InComplement (net sheet : List ℕ) : Type 0 where
  -- "The complement as written reads back as a net."
  pub reads_back : whole_net sheet ≡ none
  pub same : net_of sheet ≡ complement (net_of net)
  -- "writes the version and rule it was given" (document 02, P9)
  pub version : version_of sheet ≡ version_of net
  pub rule : (net_of sheet).rule ≡ (net_of net).rule
  -- "The two accept the same movements of that list and stop at the same one. At the start and after each accepted movement they agree on every original pair, and each
  -- bounded pair and its complement add up to that pair's capacity."
  pub along : (ts : List Mode) → Agreeing (net_of net) (net_of sheet) ts
  pub calls : RunAlike net sheet

pub record Demand3 : Type 0 where
  -- "Take any net that the complementing call accepts, and any list of mode numbers from its first marking. The complement as written reads back as a net. The two accept
  -- the same movements of that list and stop at the same one. At the start and after each accepted movement they agree on every original pair, and each bounded pair
  -- and its complement add up to that pair's capacity."
  pub complement : (net sheet : List ℕ) → ComplementWrote net sheet → InComplement net sheet
