-- Demand 1: "Every call takes any bytes, numbers and markings, ends, and refuses bad ones by the numbers in document 01. A refused call returns the refusal and its
-- position. It changes no lent buffer, except that a refused list of movements leaves the marking after the movements accepted before it."
use Rattle.std.specs.Prelude.{ℕ, ◌<◌, ◌≡◌, List, ◌≢◌, take, length, drop}
use Rattle.movement.specs.Promises.{Leads}
use Rattle.sheets.specs.Decoded.{net_of, movements_of}
use Rattle.run.specs.declared.Ran.{Ran}
use Rattle.answers.specs.declared.Tallied.{Tallied}
use Rattle.sentences.specs.Bytes.{Bytes}
use Rattle.sentences.specs.Call.{Call}
use Rattle.sentences.specs.Calls.{Public, call, for_c}
use Rattle.std.proofs.Math.Option.{none}
use Rattle.model.specs.Nets.{pairs, K, arc_no}
use Rattle.heads.specs.Version.{version_of}
use Rattle.sheets.specs.Whole.{whole_net}
use Rattle.opened.specs.Shape.{arc_offset, inhibitor_offset}
use Rattle.sheets.specs.written.Written.{bytes32, bound_number, arc_bytes}
use Rattle.export.specs.Exports.{capacity_offset}
use Rattle.sentences.specs.EveryCall.{EveryCall, library, to_c, every}
use Rattle.sentences.specs.CallTables.{CallTables, Tests}

-- "It changes no lent buffer, except that a refused list of movements leaves the marking after the movements accepted before it." Refused is any number but 0.
abbrev pub Keeps : Call → Type 0
Keeps c = (g : c.Given) (a : c.Answers) (l : c.Lent) → c.Allows g a l → (c.carried a).number ≢ 0 → l ≡ c.found g

-- the exception: the accepted movements lead to the marking that is left; with none accepted it is as it was
pub record ListLeaves (net movements marking left : List ℕ) (accepted : ℕ) : Type 0 where
  pub leads : Leads (net_of net) (take accepted (movements_of movements)) marking left
  pub none : accepted ≡ 0 → left ≡ marking

pub record DemandOne : Type 0 where
  pub each : (c : EveryCall) → c ≢ library Public.run → c ≢ to_c Public.run → Keeps (every c)
  pub run : (net movements marking left : List ℕ) (r : Ran) → (call Public.run).Allows (net, movements, marking) r left
      → ListLeaves net movements marking left r.accepted
  pub run_for_c : (net movements marking left : List ℕ) (r : Tallied) → (for_c Public.run).Allows (net, movements, marking) r left
      → ListLeaves net movements marking left r.accepted

-- Document 01: "The position of a field, an arc or a byte is the offset of its first byte, counted from 0 at the first byte of its sheet's length". Which bytes of
-- an accepted net sheet stand at the offsets that 15 and 19 name, in each version.

-- the sheet has these bytes, the first of them at that offset
abbrev pub BytesAt : List ℕ → ℕ → List ℕ → Type 0
BytesAt s at bytes = take (length bytes) (drop at s) ≡ bytes

pub record OffsetsOf (s : List ℕ) : Type 0 where
  -- 15, at the arc: the 16 bytes of the k-th arc of the net read, in version 2 its 14 without the mode
  pub arc : (k : ℕ) → k < length (net_of s).arcs → BytesAt s (arc_offset s k) (arc_bytes (version_of s) (arc_no (net_of s).arcs k))
  -- 19, at the K of a pair or at the I of an arc: its 4 bytes
  pub capacity : (p : ℕ) → p < pairs (net_of s) → BytesAt s (capacity_offset s p) (bytes32 (bound_number (K (net_of s) p)))
  pub inhibitor : (k : ℕ) → k < length (net_of s).arcs
      → BytesAt s (inhibitor_offset s k) (bytes32 (bound_number (arc_no (net_of s).arcs k).entry.inhibitor))

abbrev pub Positions : Type 0
Positions = (s : List ℕ) → Bytes s → whole_net s ≡ none → OffsetsOf s

pub record Demand1 : Type 0 where
  -- "Every call takes any bytes, numbers and markings, ends": see `.ci/contracts.py`, by which no public call has a `requires`; the prover admits no function that may
  -- not end.
  -- "and refuses bad ones by the numbers in document 01. A refused call returns the refusal and its position."
  pub refusals : CallTables
  pub tests : Tests
  pub positions : Positions
  -- "It changes no lent buffer, except that a refused list of movements leaves the marking after the movements accepted before it."
  pub keeps : DemandOne
