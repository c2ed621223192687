-- The three tests of an arc's names, mode and pair read as one number: the answer at each way out.
use Prim.Native.Nat.{ℕ, ◌*◌, ◌%◌, ◌≤◌, ◌<◌}
use mathlib.Core.Path.{◌≡◌, sym, ◌∙◌}
use mathlib.Core.Bool.{Bool, true, false}
use mathlib.Core.List.{List}
use lib.Dec.{leb}
use native.Mathlib.Omega.{arith}
use borrow.Author.Tests.{le-leb, lt-leb}
use Rattle.model.specs.declared.Thing.TheVariants.{Net}
use Rattle.model.specs.declared.Fault.TheVariants.{NotThereAt, NotRising}
use Rattle.model.specs.Refusals.{Answer}
use Rattle.std.specs.Prelude.{Ok, Err}
use Rattle.model.specs.Refusals.{answer, wrong}
use Rattle.model.proofs.Refusals.{answer-passes, answer_fails, answer-last-passes, answer-last_fails}
use Rattle.heads.specs.Bytes.{u16_at}
use Rattle.heads.specs.Layout.{arc_at, arc_mode_at, arc_pair_at}
use Rattle.sheets.specs.nets.Names.{NamesAt}
use Rattle.sheets.specs.nets.Nets.{not_rising, arc_names_refusal}

module _ (s : List ℕ) (modes pairs start k : ℕ) {names : ℕ} (n : NamesAt s (arc_at start k) names) where
  abbrev at : ℕ
  at = arc_at start k

  pub mode-absent : {a : Answer} → modes * 65536 ≤ names → a ≡ Err (wrong Net (NotThereAt (arc_mode_at at))) → a ≡ answer (arc_names_refusal s modes pairs start k)
  unfolding arc_names_refusal
  mode-absent h e = answer_fails _ (le-leb modes (u16_at s (arc_mode_at at)) (omega (arith, n.are, n.pair))) e

  module _ (h : names < modes * 65536) where
    mode-is : leb modes (u16_at s (arc_mode_at at)) ≡ false
    mode-is = lt-leb modes (u16_at s (arc_mode_at at)) (omega (arith, n.are, n.pair))

    pub pair-absent : {a : Answer} → pairs ≤ names % 65536 → a ≡ Err (wrong Net (NotThereAt (arc_pair_at at))) → a ≡ answer (arc_names_refusal s modes pairs start k)
    unfolding arc_names_refusal
    pair-absent i e = answer-passes _ _ mode-is (answer_fails _ (le-leb pairs (u16_at s (arc_pair_at at)) (omega (arith, n.are, n.pair))) e)

    module _ (i : names % 65536 < pairs) {test : Bool} (r : test ≡ not_rising s start k) where
      pair_is : leb pairs (u16_at s (arc_pair_at at)) ≡ false
      pair_is = lt-leb pairs (u16_at s (arc_pair_at at)) (omega (arith, n.are, n.pair))

      pub not_above : {a : Answer} → test ≡ true → a ≡ Err (wrong Net (NotRising at)) → a ≡ answer (arc_names_refusal s modes pairs start k)
      unfolding arc_names_refusal
      not_above t e = answer-passes _ _ mode-is (answer-passes _ _ pair_is (answer-last_fails (sym r ∙ t) e))

      pub above : test ≡ false → (Ok tt) ≡ answer (arc_names_refusal s modes pairs start k)
      unfolding arc_names_refusal
      above t = answer-passes _ _ mode-is (answer-passes _ _ pair_is (answer-last-passes _ (sym r ∙ t)))
