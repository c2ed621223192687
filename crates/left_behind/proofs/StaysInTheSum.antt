-- What movements entered as marks did not take stays in the figure.
use Prim.Native.Nat.{ℕ, ◌+◌, ◌≤◌, ◌<◌}
use mathlib.Core.Path.{◌≡◌, refl, sym, ◌∙◌, ap}
use mathlib.Core.List.{List, [], ◌∷◌, map}
use mathlib.Core.Option.{none}
use lib.IntN.{ℤ, pos, ◌+ℤ◌, ◌*ℤ◌, +ℤ_assoc, +ℤ_idl, +ℤ_idr}
use native.Mathlib.Omega.{arith}
use Rattle.model.specs.declared.Mode.{Mode}
use Rattle.model.specs.declared.Thing.TheVariants.{Movements}
use Rattle.model.specs.Nets.{PNet, pairs, count, row}
use Rattle.model.specs.Firing.{fired}
use Rattle.movement.specs.Runs.{run}
use Rattle.movement.specs.Promises.{Leads, stays, moves}
use Rattle.movement.specs.Figures.{weight, figure, change, changes}
use Rattle.second_form.specs.Complement.{complement, refusal15, complement_refusal, Corresponds}
use Rattle.second_form.specs.DemandThree.{Complementable}
use Rattle.both_forms.specs.Audit.{marked, takes}
use Rattle.left_behind.specs.LeftBehind.{left_behind, Entered, rightly, as_mark, made, entered, tracked, not_taken, all_not_taken, StaysInTheSum, AddsToTheSum, NeverTooFew, LeavesNothing}
use Rattle.model.proofs.First.{left-none}
use Rattle.model.proofs.Tables.{table_at}
use Rattle.model.proofs.Firing.{accepted-enough}
use Rattle.movement.proofs.Integers.{exchange, times-sum}
use Rattle.movement.proofs.Markings.{fired-at}
use Rattle.movement.proofs.Runs.{runs, run-leads}
use Rattle.movement.proofs.Figures.{sum_ext, sum_add, figure-fired, figure-leads}
use Rattle.second_form.proofs.Demand3.{runs-alike}
use Rattle.left_behind.proofs.WrongBy.{less-is, figure-adds, wrong-by, nothing-in-step}

-- 15 was not given
no15 : (net : PNet) (c : Complementable net) → refusal15 c.offset net ≡ none
unfolding complement_refusal
no15 net c = left-none (refusal15 c.offset net) _ c.accepted

-- at every pair, no fewer in m than in t
abbrev NoFewer : PNet → List ℕ → List ℕ → Type 0
NoFewer net t m = (p : ℕ) → p < pairs net → count t p ≤ count m p

module _ (net : PNet) where
  marked-at : (t : Mode) (m : List ℕ) (p : ℕ) → p < pairs net → count (marked net t m) p ≡ count m p + (row net t p).post
  marked-at t m p h = table_at (pairs net) (λ p. count m p + (row net t p).post) 0 p h

  -- an entry leaves no fewer than the movement
  no-fewer : (e : Entered) (t m : List ℕ) → NoFewer net t m → NoFewer net (fired net (made e) t) (entered net e m)
  no-fewer (rightly u) t m few p h = rw (fired-at net u t p h, fired-at net u m p h) (omega (arith, few p h))
  no-fewer (as_mark u) t m few p h = rw (fired-at net u t p h, marked-at u m p h) (omega (arith, few p h))

  never-fewer : (es : List Entered) (t t' m : List ℕ) → NoFewer net t m → Leads net (map made es) t t' → NoFewer net t' (tracked net es m)
  unfolding tracked
  never-fewer [] t t' m few stays = few
  never-fewer (e ∷ es) t t' m few (moves a l) = never-fewer es (fired net (made e) t) t' (entered net e m) (no-fewer e t m few) l

  module _ (weights : List ℤ) where
    -- where Pre is there, an entry's figure is the movement's and what was not taken
    figure-entered : (e : Entered) (m : List ℕ) → ((p : ℕ) → p < pairs net → (row net (made e) p).pre ≤ count m p)
        → figure net weights (entered net e m) ≡ figure net weights (fired net (made e) m) +ℤ not_taken net weights e
    unfolding figure not_taken
    figure-entered (rightly u) m enough = sym (+ℤ_idr _)
    figure-entered (as_mark u) m enough = sum_ext (pairs net) _ (λ p. moved p +ℤ kept p) each ∙ sum_add (pairs net) moved kept
      where
        moved : ℕ → ℤ
        moved p = weight weights p *ℤ pos (count (fired net u m) p)

        kept : ℕ → ℤ
        kept p = weight weights p *ℤ pos (takes net u p)

        over : (p : ℕ) → p < pairs net → count (marked net u m) p ≡ count (fired net u m) p + takes net u p
        over p h = rw (marked-at u m p h, fired-at net u m p h) (omega (arith, enough p h))

        each : (p : ℕ) → p < pairs net → weight weights p *ℤ pos (count (marked net u m) p) ≡ moved p +ℤ kept p
        each p h =
            ap (λ (n : ℕ). weight weights p *ℤ pos n) (over p h)
            ∙ times-sum (weight weights p) (pos (count (fired net u m) p)) (pos (takes net u p))

    -- t is the true marking, which accepts every movement
    figure-tracked : (es : List Entered) (t t' m : List ℕ) → NoFewer net t m → Leads net (map made es) t t'
        → figure net weights (tracked net es m) ≡ figure net weights m +ℤ (changes net weights (map made es) +ℤ all_not_taken net weights es)
    unfolding tracked changes all_not_taken
    figure-tracked [] t t' m few stays = sym (+ℤ_idr (figure net weights m))
    figure-tracked (e ∷ es) t t' m few (moves a l) =
        let enough : (p : ℕ) → p < pairs net → (row net (made e) p).pre ≤ count m p =
        λ p h. omega (arith, few p h, accepted-enough Movements net (made e) t a p h) in
        let f = figure net weights m in
        let x = change net weights (made e) in
        let y = not_taken net weights e in
        let xs = changes net weights (map made es) in
        let ys = all_not_taken net weights es in
        figure-tracked es (fired net (made e) t) t' (entered net e m) (no-fewer e t m few) l
        ∙ ap (λ z. z +ℤ (xs +ℤ ys)) (figure-entered e m enough ∙ ap (λ z. z +ℤ y) (figure-fired net weights (made e) m enough) ∙ +ℤ_assoc f x y)
        ∙ +ℤ_assoc f (x +ℤ y) (xs +ℤ ys)
        ∙ ap (λ z. f +ℤ z) (exchange x y xs ys)

    -- so that what the tracker's figure was too much stays, and what was not taken comes on top
    figure-over : (es : List Entered) (t t' m : List ℕ) (z : ℤ) → NoFewer net t m → Leads net (map made es) t t' → figure net weights m ≡ figure net weights t +ℤ z
        → figure net weights (tracked net es m) ≡ figure net weights t' +ℤ (z +ℤ all_not_taken net weights es)
    figure-over es t t' m z few l e =
        let xs = changes net weights (map made es) in
        let ys = all_not_taken net weights es in
        figure-tracked es t t' m few l ∙ ap (λ a. a +ℤ (xs +ℤ ys)) e ∙ exchange (figure net weights t) z xs ys
        ∙ ap (λ a. a +ℤ (z +ℤ ys)) (sym (figure-leads net weights l))

pub never-too-few : NeverTooFew
never-too-few net es m e = never-fewer net es m _ m (λ p h. omega arith) (run-leads net (map made es) m e)

-- the net accepts what its complement does
accepted-too : (net : PNet) → Complementable net → (ts : List Mode) (m m' : List ℕ) → Corresponds net m m'
    → (run (complement net) ts m').refusal ≡ none → (run net ts m).refusal ≡ none
accepted-too net ok ts m m' c e =
    (runs net ts m).whole.1
    (sym (runs-alike net ok.well_formed ok.offset (no15 net ok) ts m m' c).accepted ∙ (runs (complement net) ts m').whole.0 e)

pub adds-to-the-sum : AddsToTheSum
adds-to-the-sum net ok weights es m m' t c few e =
    let ts = map made es in
    let t' = (run net ts t).marking in
    let z = left_behind net weights m m' in
    wrong-by net weights (tracked net es m) (run (complement net) ts m').marking t'
    (runs-alike net ok.well_formed ok.offset (no15 net ok) ts t m' c).marking
    ∙ sym
    (less-is (figure net weights t') (z +ℤ all_not_taken net weights es)
    (figure-over net weights es t t' m z few (run-leads net ts t (accepted-too net ok ts t m' c e)) (figure-adds net weights m m' t c)))

pub stays-in-the-sum : StaysInTheSum
stays-in-the-sum net ok weights es m m' c e =
    adds-to-the-sum net ok weights es m m' m c (λ p h. omega arith) e
    ∙ ap (λ z. z +ℤ all_not_taken net weights es) (nothing-in-step net weights m m' c) ∙ +ℤ_idl (all_not_taken net weights es)

-- a list entered rightly
made-rightly : (ts : List Mode) → map made (map rightly ts) ≡ ts
made-rightly [] = refl
made-rightly (t ∷ ts) = ap (λ us. t ∷ us) (made-rightly ts)

all-taken : (net : PNet) (weights : List ℤ) (ts : List Mode) → all_not_taken net weights (map rightly ts) ≡ pos 0
unfolding all_not_taken not_taken
all-taken net weights [] = refl
all-taken net weights (t ∷ ts) = rw (all-taken net weights ts)

pub leaves_nothing : LeavesNothing
leaves_nothing net weights m m' c =
    record {
      in_step = nothing-in-step net weights m m' c;
      no_marks = λ ok ts e.
          (rw (made-rightly ts) at (stays-in-the-sum net ok weights (map rightly ts) m m' c)) e ∙ all-taken net weights ts;
    }
