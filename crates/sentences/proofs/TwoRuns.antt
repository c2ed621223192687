-- The run calls over a net sheet and over its complement's, from corresponding markings: two runs of the model, where the movement sheet is accepted.
use Rattle.model.specs.declared.Thing.TheVariants.{Movements}
use Rattle.model.specs.declared.Mode.{Mode}
use Prim.Native.Nat.{ℕ}
use mathlib.Core.Path.{◌≡◌, refl, sym, ◌∙◌, ap}
use mathlib.Core.List.{List}
use mathlib.Core.Option.{Option, none, some, none-ne-some}
use lib.ListN.{get_or}
use Rattle.model.specs.declared.Refusal.{Refusal}
use Rattle.model.specs.Nets.{PNet, mode_no}
use Rattle.movement.specs.Runs.{Outcome, go_on, run}
use Rattle.model.specs.Markings.{marking_refusal}
use Rattle.second_form.specs.Complement.{complement, refusal15, complement_refusal, Corresponds}
use Rattle.second_form.specs.DemandThree.{Complementable, becomes}
use Rattle.model.proofs.First.{left-none, none_then, then-none}
use Rattle.movement.proofs.Markings.{marking-test}
use Rattle.second_form.proofs.ComplementNet.{start-corresponds}
use Rattle.second_form.proofs.ComplementWellFormed.{corresponds-marking}
use Rattle.second_form.proofs.Demand3.{runs-alike, refusals}
use Rattle.sheets.specs.Whole.{whole_net, whole_movements}
use Rattle.sheets.specs.Decoded.{net_of, movements_of}
use Rattle.fire.specs.Calls.{begin_refusal, begun}
use Rattle.run.specs.Calls.{run_of, before_run}
use Rattle.sentences.specs.Wrote.{ComplementWrote}
use Rattle.sentences.proofs.Written.{net-whole, can-complement, sheet-whole, sheet-same}

-- Demand 3 of the calls: the run call over a net sheet and over its complement's, as the complementing call wrote it. One movement sheet, any bytes; two
-- lent markings that correspond, so that what one pair of runs leaves may be lent to the next: a list of any length is run sheet after sheet, or movement by movement.
module _ (net complement movements marking marking' : List ℕ) where
  abbrev in_net : Outcome
  in_net = run_of net movements marking

  abbrev in_complement : Outcome
  in_complement = run_of complement movements marking'

  abbrev next_mode : Mode
  next_mode = get_or (movements_of movements) in_net.accepted (mode_no 0)

  pub record RunsMatch : Type 0 where
    -- "both accept the same movements and stop at the same one", or run whole
    pub accepted : in_complement.accepted ≡ in_net.accepted
    -- a movement sheet that is refused is refused alike, before the first movement
    pub sheet_refused : (r : Refusal) → whole_movements movements ≡ some r
        → (in_net.refusal ≡ some r) × (in_complement.refusal ≡ some r) × (in_net.accepted ≡ 0)
    -- "11, 12 and 13 in the net become 11 in its complement; 6 and 14 stay"
    pub refusal : whole_movements movements ≡ none → in_complement.refusal ≡ becomes Movements (net_of net) next_mode in_net.marking in_net.refusal
    pub at_end : Corresponds (net_of net) in_net.marking in_complement.marking

-- a marking that begin wrote is accepted (`MarkingStays`), and so is one that a run leaves (`RunsKeep`)
pub record RunMatch (net complement : List ℕ) : Type 0 where
  pub at_start : (marking marking' : List ℕ) → begin_refusal net marking ≡ none → begin_refusal complement marking' ≡ none
      → Corresponds (net_of net) (begun net marking) (begun complement marking')
  pub onwards : (movements marking marking' : List ℕ) → marking_refusal (net_of net) marking ≡ none → Corresponds (net_of net) marking marking'
      → RunsMatch net complement movements marking marking'

-- what the run call gives from a marking that is accepted: the movement sheet's refusal, or the run of the net
abbrev after_sheet : PNet → List ℕ → List ℕ → Outcome
after_sheet net movements m = go_on (whole_movements movements) 0 m (run net (movements_of movements) m)

before_from : (net movements marking : List ℕ) → whole_net net ≡ none → marking_refusal (net_of net) marking ≡ none → before_run net movements marking ≡ whole_movements movements
unfolding before_run
before_from net movements marking w a = none_then w (rw a (then-none (whole_movements movements)))

run_from_lem : (net movements marking : List ℕ) → whole_net net ≡ none → marking_refusal (net_of net) marking ≡ none
    → run_of net movements marking ≡ after_sheet (net_of net) movements marking
unfolding run_of
run_from_lem net movements marking w a = rw (before_from net movements marking w a)

-- a marking that corresponds to one that the net accepts, the complement accepts
pub marking-beside : (net sheet marking marking' : List ℕ) → Complementable (net_of net) → net_of sheet ≡ complement (net_of net)
    → marking_refusal (net_of net) marking ≡ none → Corresponds (net_of net) marking marking' → marking_refusal (net_of sheet) marking' ≡ none
marking-beside net sheet marking marking' c same a h =
    rw same
    ((marking-test (complement (net_of net)) marking').1
    (corresponds-marking (net_of net) marking marking' c.well_formed ((marking-test (net_of net) marking).0 a) h))

module _ (net sheet movements marking marking' : List ℕ) (c : Complementable (net_of net)) (same : net_of sheet ≡ complement (net_of net))
    (w : whole_net net ≡ none) (w' : whole_net sheet ≡ none) (a : marking_refusal (net_of net) marking ≡ none) (h : Corresponds (net_of net) marking marking') where
  in_net_lem : run_of net movements marking ≡ after_sheet (net_of net) movements marking
  in_net_lem = run_from_lem net movements marking w a

  in_complement_lem : run_of sheet movements marking' ≡ after_sheet (complement (net_of net)) movements marking'
  in_complement_lem = run_from_lem sheet movements marking' w' (marking-beside net sheet marking marking' c same a h) ∙ ap (λ n. after_sheet n movements marking') same

  no15 : refusal15 c.offset (net_of net) ≡ none
  unfolding complement_refusal
  no15 = left-none _ _ c.accepted

  agreed : (o : Option Refusal) → whole_movements movements ≡ o → RunsMatch net sheet movements marking marking'
  agreed none e =
      let ts = movements_of movements in
      let both = runs-alike (net_of net) c.well_formed c.offset no15 ts marking marking' h in
      record {
        accepted = rw (in_net_lem, in_complement_lem, e) both.accepted;
        sheet_refused = λ r q. absurd (none-ne-some r (sym e ∙ q));
        refusal = λ q. rw (in_net_lem, in_complement_lem, e) (refusals (net_of net) c.well_formed c.offset no15 ts marking marking' h);
        at_end = rw (in_net_lem, in_complement_lem, e) both.marking;
      }
  agreed (some x) e =
      record {
        accepted = rw (in_net_lem, in_complement_lem, e);
        sheet_refused = λ r q. rw (in_net_lem, in_complement_lem, e) (sym e ∙ q, sym e ∙ q, refl);
        refusal = λ q. absurd (none-ne-some x (sym q ∙ e));
        at_end = rw (in_net_lem, in_complement_lem, e) h;
      }

begun-start : (net marking : List ℕ) → begin_refusal net marking ≡ none → begun net marking ≡ (net_of net).start
begun-start net marking b = rw b

pub run-match : (net sheet : List ℕ) → ComplementWrote net sheet → RunMatch net sheet
run-match net sheet w =
    let c = can-complement net sheet w in
    let same = sheet-same net sheet w in
    record {
      at_start = λ marking marking' b b'. rw (begun-start net marking b, begun-start sheet marking' b', same) (start-corresponds (net_of net) c.well_formed);
      onwards = λ movements marking marking' a h.
          agreed net sheet movements marking marking' c same (net-whole net sheet w) (sheet-whole net sheet w) a h (whole_movements movements) refl;
    }
