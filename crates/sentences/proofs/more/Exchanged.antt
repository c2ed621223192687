-- What import writes of an export is read as a net of the same pairs, modes, first marking and arcs.
use Rattle.model.specs.Replies.{yields}
use Prim.Native.Nat.{ℕ, ◌≤◌, ◌<◌}
use mathlib.Core.Path.{◌≡◌, sym, ◌∙◌, ap, subst}
use mathlib.Core.List.{List}
use mathlib.Core.Logic.{inl, inr, ⊎_elim}
use mathlib.Core.Option.{none, some}
use lib.ListN.{length, take}
use native.Mathlib.Omega.{arith}
use Rattle.model.specs.Refusals.{Carried}
use Rattle.model.specs.Nets.{PNet, pairs, modes}
use Rattle.model.proofs.First.{left-none, below_or}
use Rattle.sheets.specs.Whole.{whole_net}
use Rattle.sheets.specs.Decoded.{net_of}
use Rattle.sheets.specs.Emitted.{told}
use Rattle.pnml.specs.Pnml.{Exportable}
use Rattle.export.specs.Exports.{export_refusal}
use Rattle.import.specs.Allowed.{ImportPnmlAllows}
use Rattle.import.specs.Promises.{SameNumbers}
use Rattle.sentences.specs.P5.{single_bytes, ComesBack, ImportAnswers}
use Rattle.sentences.proofs.TwoRuns.{run-match}
use Rattle.sentences.proofs.Exchange as exchange
use Rattle.sentences.specs.Wrote.{ExportWrote, ImportWrote}
use Rattle.sentences.specs.more.Exchanged.{MovesAsBefore, ComplementComesBack}
use Rattle.sentences.proofs.Written.{net-whole}
use Rattle.sentences.proofs.Demand3.{alike-outcomes}
use Rattle.sentences.proofs.more.SameMoves.{Same}
use Rattle.sentences.proofs.more.SameCalls.{moves-alike, alike_too}

-- two answers of one length
one-length : {l n : ℕ} → yields l ≡ yields n → l ≡ n
one-length {l} {n} e = let v : some l ≡ some n = ap (λ r. r.value) e in cc

module _ (sheet text back : List ℕ) (w : ExportWrote sheet text) (i : ImportWrote text back) where
  abbrev net : PNet
  net = net_of sheet

  exported_whole : whole_net sheet ≡ none
  unfolding export_refusal
  exported_whole = left-none _ _ (exchange.told-length sheet w.out w.outcome (length text) w.allowed w.answered).0

  exportable : Exportable net
  exportable = exchange.exportable sheet w.out w.outcome (length text) w.allowed w.answered

  answers : ImportAnswers net i.out i.outcome
  answers =
      exchange.export-then_import sheet w.out w.outcome (length text) w.allowed w.answered i.out i.outcome
      (subst (λ t. ImportPnmlAllows t i.out i.outcome) (sym w.written) i.allowed)

  -- an import that answers a length is not refused, by 4 or by 10
  unrefused : {c : Carried} → (told i.outcome.0).carried ≡ c → c.number ≡ 0
  unrefused e = sym (ap (λ c. c.number) e) ∙ ap (λ r. r.carried.number) i.answered

  came_back : ComesBack net i.out i.outcome
  came_back =
      ⊎_elim (λ (l : 64 < pairs net). absurd (omega (arith, unrefused (answers.too_many (inl l)))))
      (λ (p : pairs net ≤ 64).
      ⊎_elim (λ (l : 64 < modes net). absurd (omega (arith, unrefused (answers.too_many (inr l)))))
      (λ (m : modes net ≤ 64).
      ⊎_elim (λ (l : length i.out < single_bytes net). absurd (omega (arith, unrefused (answers.too_short p m l)))) (answers.comes_back p m)
      (below_or (length i.out) (single_bytes net)))
      (below_or 64 (modes net)))
      (below_or 64 (pairs net))

  there : take (single_bytes net) i.outcome.1 ≡ back
  there = ap (λ n. take n i.outcome.1) (one-length (sym came_back.answered ∙ i.answered)) ∙ i.written

  back_whole : whole_net back ≡ none
  back_whole = rw there at came_back.accepted

  back-same : Same (net_of back) net
  back-same =
      let s = subst (λ b. SameNumbers net (net_of b)) there came_back.same in
      record {
        same_pairs = s.pairs;
        same_modes = s.modes;
        same_start = s.start;
        same_arcs = s.arcs;
        unbounded = λ p h. let l : p < pairs net = omega (arith, s.pairs) in s.capacities p l ∙ exportable.capacities p l;
        unbounded_too = λ p h. exportable.capacities p (omega (arith, s.pairs));
      }

pub moves_as_before_lem : MovesAsBefore
moves_as_before_lem sheet text back w i = moves-alike back sheet (back_whole sheet text back w i) (exported_whole sheet text back w i) (back-same sheet text back w i)

pub complement_comes_back_lem : ComplementComesBack
complement_comes_back_lem net sheet text back c w i =
    alike-outcomes net back (net-whole net sheet c)
    (alike_too back sheet (back_whole sheet text back w i) (exported_whole sheet text back w i) (back-same sheet text back w i) net (run-match net sheet c))
