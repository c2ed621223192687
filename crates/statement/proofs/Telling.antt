-- The lines of a run on their way: what is written and the lines that are left from here are the whole.
use Prim.Native.Nat.{ℕ, ◌+◌, ◌*◌, ◌≤◌, ◌<◌}
use mathlib.Core.Path.{◌≡◌, refl, sym, ◌∙◌, ap, ap₂}
use mathlib.Core.List.{List, [], ◌∷◌, ◌++◌, append_assoc, append-nil}
use mathlib.Core.Option.{none, some}
use lib.IntN.{ℤ, pos, nat_abs, ◌+ℤ◌}
use lib.ListN.{length, take, drop, get_or, drop_of_length-le}
use lib.Seq.{drop-cons, get_or-take, length-take-le}
use native.Mathlib.Numerals.{add-one}
use native.Mathlib.Omega.{arith}
use mir.Syntax.{w64}
use mir.Val.{SFits, to_z, of_z}
use mir.Facts.{to_z-of_z}
use Rattle.model.specs.declared.Mode.{Mode}
use Rattle.model.specs.declared.Thing.TheVariants.{Movements}
use Rattle.model.specs.declared.Refusal.{Refusal}
use Rattle.model.specs.Refusals.{Answer}
use Rattle.std.specs.Prelude.{Ok, Err}
use Rattle.model.specs.Nets.{PNet, modes, mode_no}
use Rattle.model.specs.Markings.{Marking}
use Rattle.model.specs.Firing.{mode_refusal, fired}
use Rattle.movement.specs.Runs.{Outcome, run_from, run}
use Rattle.movement.specs.Figures.{figure}
use Rattle.movement.specs.Promises.{Leads, moves}
use Rattle.movement.proofs.Figures.{figure-fired}
use Rattle.model.proofs.Firing.{accepted-there, accepted-enough}
use Rattle.movement.proofs.Markings.{marking-kept}
use Rattle.model.proofs.Refusals.{answer-refused, answer-none}
use Rattle.movement.proofs.Runs.{runs, leads-whole}
use Rattle.opened.specs.declared.shape.NetShape.{NetShape}
use Rattle.sheets.specs.Decoded.{net_of, weights_of, movements_of}
use Rattle.sheets.proofs.Listed.{movements-within}
use Rattle.opened.proofs.Shapes.{sizes}
use Rattle.opened.specs.Read.{Read}
use Rattle.run.specs.Parts.{RunTells}
use Rattle.statement.specs.weigh.Parts.{ChangesAre}
use Rattle.statement.proofs.weigh.Sizes.{fits-size}
use Rattle.writes.specs.Writes.{Writes}
use Rattle.statement.specs.lines.Lines.{accepted_line, refused_line, end_line}
use Rattle.statement.specs.Promises.{accepted_lines, last_lines}
use Rattle.statement.specs.Replay.{lines_from}
use Rattle.writes.proofs.Writing.{◌and◌, nothing, within, length-kept}
use Rattle.statement.proofs.lines.LineSizes.{accepted-size}
use Rattle.statement.proofs.TextOfRun.{lines-of-run}
use Rattle.statement.proofs.Weighed.{figure-size}

-- the lines of at most 8,192 accepted movements, `refused` and `end`
abbrev pub most_lines : ℕ
most_lines = 28 * 8192 + 159

-- the first movement of a list that leads somewhere is accepted, and the rest leads on from the marking that it gives
leads-on : {net : PNet} {t : Mode} {ts : List Mode} {m m' : List ℕ} → Leads net (t ∷ ts) m m'
    → (mode_refusal Movements net t m ≡ none) × Leads net ts (fired net t m) m'
leads-on (moves e l) = (e, l)

lines-on : (net : PNet) (weights : List ℤ) (k : ℕ) (t : Mode) (ts : List Mode) {us : List Mode} (m : List ℕ) → us ≡ t ∷ ts
    → accepted_lines net weights k us m ≡ accepted_line (k + 1) t (figure net weights (fired net t m)) ++ accepted_lines net weights (k + 1) ts (fired net t m)
unfolding accepted_lines
lines-on net weights k t ts m e = rw e

-- the run of a list from the first marking, and the movements that it accepts
abbrev outcome : PNet → List Mode → Outcome
outcome net ts = run net ts net.start

abbrev passed : PNet → List Mode → List Mode
passed net ts = take (outcome net ts).accepted ts

module _ (net : PNet) (weights : List ℤ) (ts : List Mode) where
  -- k of them have led to a marking with the figure z, and their lines from out₀ to out
  pub record Along (out₀ : List ℕ) (at k : ℕ) (z : ℤ) (end : ℕ) (out : List ℕ) : Type 0 where
    pub now : List ℕ
    pub marking : Marking net now
    pub weighs : z ≡ figure net weights now
    pub leads : Leads net (drop k (passed net ts)) now (outcome net ts).marking
    pub lines : List ℕ
    pub told : Writes (28 * k) out₀ at lines end out
    pub rest : lines ++ accepted_lines net weights k (drop k (passed net ts)) now ≡ accepted_lines net weights 0 (passed net ts) net.start

  pub along-none : {out : List ℕ} {at : ℕ} {z : ℤ} → Marking net net.start → z ≡ figure net weights net.start → at ≤ length out → Along out at 0 z at out
  along-none {out} {at} {z} h e l =
      record {
        now = net.start;
        marking = h;
        weighs = e;
        leads = (runs net ts net.start).leads;
        lines = [];
        told = nothing l;
        rest = refl;
      }

module _ {s : List ℕ} {shape : NetShape} {w movements : List ℕ} (read : Read s shape w movements) {accepted : ℕ} {answer : Answer}
    (tells : RunTells (outcome (net_of s) (movements_of movements)) accepted answer) where
  abbrev net : PNet
  net = net_of s

  abbrev weights : List ℤ
  weights = weights_of w

  abbrev ts : List Mode
  ts = movements_of movements

  abbrev whole : List ℕ
  whole = lines_from net weights 0 ts net.start

  pub counted : accepted ≤ length ts
  counted = rw tells.accepted (runs net ts net.start).part

  at_most : accepted ≤ 8192
  at_most = omega (arith, counted, movements-within movements read.listed)

  passed_length : length (passed net ts) ≡ accepted
  passed_length = length-take-le _ ts (runs net ts net.start).part ∙ sym tells.accepted

  -- where a refusal is told, the list has a movement after those accepted
  pub refused-there : {r : Refusal} → answer ≡ Err r → accepted < length ts
  refused-there {r} e =
      let q : (outcome net ts).refusal ≡ some r = answer-refused _ (sym tells.answers ∙ e) in
      let short : ¬ (accepted ≡ length ts) = λ all. let n = (runs net ts net.start).whole.1 (sym tells.accepted ∙ all) in let z : ◌≡◌ {A = ℕ} 0 1 = cc in omega arith in
      omega (arith, counted, short)

  module _ {out₀ : List ℕ} {at k : ℕ} {z : ℤ} {end : ℕ} {out : List ℕ} (along : Along net weights ts out₀ at k z end out) where
    -- there is room for the last lines, and so for an accepted one, and for the line `end`
    pub along-room : k ≤ accepted → at + most_lines ≤ length out₀ → end + 159 ≤ length out
    along-room h l = rw (length-kept along.told) (omega (arith, along.told.next, along.told.within, at_most))

    pub along-line : k < accepted → at + most_lines ≤ length out₀ → end + 84 ≤ length out
    along-line h l = omega (arith, along-room (omega arith) l)

    pub along-last : k ≤ accepted → at + most_lines ≤ length out₀ → end + 46 ≤ length out
    along-last h l = omega (arith, along-room h l)

    module _ {t : Mode} (h : k < accepted) (q : t ≡ get_or ts k (mode_no 0)) where
      next : drop k (passed net ts) ≡ t ∷ drop (k + 1) (passed net ts)
      next =
          let one_of : k < (outcome net ts).accepted = rw (← tells.accepted) h in
          let e : get_or (passed net ts) k (mode_no 0) ≡ t = get_or-take (outcome net ts).accepted ts k (mode_no 0) one_of ∙ sym q in
          let there : k < length (passed net ts) = rw passed_length h in
          rw (drop-cons (passed net ts) k (mode_no 0) there, e, add-one)

      onward : (mode_refusal Movements net t along.now ≡ none) × Leads net (drop (k + 1) (passed net ts)) (fired net t along.now) (outcome net ts).marking
      onward = leads-on (rw next at along.leads)

      along-mode : t.0 < modes net
      along-mode = accepted-there Movements net t along.now onward.0

      pub along-entry : t.0 < 256
      along-entry = omega (arith, along-mode, (sizes read.opened).modes, (sizes read.opened).modes_within)

      kept : Marking net (fired net t along.now)
      kept = marking-kept Movements net t along.now along.marking onward.0

      -- the figure before and the entry of the mode, as it is read, are the figure after
      module _ {changes : List ℤ} (table : ChangesAre net weights changes) (given : SFits w64 (get_or changes t.0 (pos 0))) where
        abbrev x : ℤ
        x = to_z w64 (of_z w64 (get_or changes t.0 (pos 0)))

        next-weighs : z +ℤ x ≡ figure net weights (fired net t along.now)
        next-weighs =
            ap₂ ◌+ℤ◌ along.weighs (to_z-of_z given ∙ table.each t.0 along-mode)
            ∙ sym (figure-fired net weights t along.now (accepted-enough Movements net t along.now onward.0))

        next-size : nat_abs (z +ℤ x) ≤ 256000000000000
        next-size = rw next-weighs (figure-size read.opened w read.weighed kept)

        pub next_fits : SFits w64 (z +ℤ x)
        next_fits = fits-size w64 (z +ℤ x) (omega (arith, next-size))

        abbrev y : ℤ
        y = to_z w64 (of_z w64 (z +ℤ x))

        pub along-more : {after : ℕ} {now : List ℕ} → Writes 84 out end (accepted_line (k + 1) t y) after now → Along net weights ts out₀ at (k + 1) y after now
        along-more p =
            let f : y ≡ z +ℤ x = to_z-of_z next_fits in
            let is : y ≡ figure net weights (fired net t along.now) = f ∙ next-weighs in
            let size = accepted-size (k + 1) t y (omega (arith, at_most)) along-entry (rw f next-size) in
            let all = along.told and within p size in
            record {
              now = fired net t along.now;
              marking = kept;
              weighs = is;
              leads = onward.1;
              lines = along.lines ++ accepted_line (k + 1) t y;
              told = within all (omega (arith, all.within));
              rest = rw (append_assoc, is) (sym (ap (λ l. along.lines ++ l) (lines-on net weights k t _ along.now next)) ∙ along.rest);
            }

    -- all are told
    module _ (h : k ≤ accepted) (l : accepted ≤ k) where
      none_left : drop k (passed net ts) ≡ []
      none_left = let all : length (passed net ts) ≤ k = rw passed_length l in drop_of_length-le (passed net ts) all

      lines_are : accepted_lines net weights 0 (passed net ts) net.start ≡ along.lines
      unfolding accepted_lines
      lines_are = sym along.rest ∙ rw none_left (append-nil along.lines)

      weighs-last : figure net weights (outcome net ts).marking ≡ z
      unfolding run_from
      weighs-last = ap (figure net weights) (sym (leads-whole (rw none_left at along.leads)).1) ∙ sym along.weighs

      ended : {most : ℕ} {last : List ℕ} {after : ℕ} {now : List ℕ} → Writes most out end last after now → most ≤ 159
          → last_lines net weights (outcome net ts) (get_or ts (outcome net ts).accepted (mode_no 0)) ≡ last → Writes most_lines out₀ at whole after now
      ended p b e =
          let all = along.told and p in
          rw (lines-of-run net weights ts net.start, lines_are, e) (within all (omega (arith, all.within, at_most)))

      pub along-stops : {r : Refusal} {after : ℕ} {now : List ℕ} → answer ≡ Err r
          → Writes 159 out end (refused_line (accepted + 1) (get_or ts accepted (mode_no 0)) r ++ end_line accepted z) after now → Writes most_lines out₀ at whole after now
      unfolding last_lines
      along-stops e p = ended p (omega arith) (rw (answer-refused (outcome net ts).refusal (sym tells.answers ∙ e), ← tells.accepted, weighs-last))

      pub along-ends : {after : ℕ} {now : List ℕ} → answer ≡ Ok tt → Writes 46 out end (end_line accepted z) after now → Writes most_lines out₀ at whole after now
      unfolding last_lines
      along-ends e p = ended p (omega arith) (rw (answer-none (outcome net ts).refusal tells.answers e, ← tells.accepted, weighs-last))
