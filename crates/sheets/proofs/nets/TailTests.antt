-- The four tests of an arc's numbers, each read once: the answer at each way out.
use Prim.Native.Nat.{ℕ, ◌≤◌, ◌<◌}
use mathlib.Core.Path.{◌≡◌, sym, ◌∙◌, ap}
use mathlib.Core.Bool.{Bool, true, false}
use mathlib.Core.List.{List}
use lib.Dec.{ltb}
use borrow.Author.Tests.{lt-ltb, le-ltb}
use Rattle.model.specs.declared.Thing.TheVariants.{Net}
use Rattle.model.specs.declared.Fault.TheVariants.{NumberOutside, Blank}
use Rattle.model.specs.Refusals.{Answer}
use Rattle.std.specs.Prelude.{Ok, Err}
use Rattle.model.specs.Numbers.{limit}
use Rattle.model.specs.Refusals.{answer, wrong}
use Rattle.model.proofs.Refusals.{answer-passes, answer_fails, answer-last-passes, answer-last_fails}
use Rattle.heads.specs.Bytes.{u32_at}
use Rattle.heads.specs.Layout.{tail_pre_at, tail_post_at, tail_inhibitor_at}
use Rattle.fields.specs.Numbers.{bound, outside}
use Rattle.sheets.specs.nets.Tails.{blank, tail_blank, tail_numbers}

module _ (s : List ℕ) (arc tail : ℕ) {pre post inhibitor : ℕ} (p : pre ≡ u32_at s (tail_pre_at tail)) (q : post ≡ u32_at s (tail_post_at tail))
    (r : inhibitor ≡ u32_at s (tail_inhibitor_at tail)) where
  pub pre-outside : {a : Answer} → limit < pre → a ≡ Err (wrong Net (NumberOutside (tail_pre_at tail))) → a ≡ answer (tail_numbers s arc tail)
  unfolding tail_numbers
  pre-outside h e = answer_fails _ (ap (ltb limit) (sym p) ∙ lt-ltb limit pre h) e

  module _ (h : pre ≤ limit) where
    pre_is : ltb limit (u32_at s (tail_pre_at tail)) ≡ false
    pre_is = ap (ltb limit) (sym p) ∙ le-ltb limit pre h

    pub post-outside : {a : Answer} → limit < post → a ≡ Err (wrong Net (NumberOutside (tail_post_at tail))) → a ≡ answer (tail_numbers s arc tail)
    unfolding tail_numbers
    post-outside i e = answer-passes _ _ pre_is (answer_fails _ (ap (ltb limit) (sym q) ∙ lt-ltb limit post i) e)

    module _ (i : post ≤ limit) {test : Bool} (o : test ≡ outside (bound inhibitor)) where
      post_is : ltb limit (u32_at s (tail_post_at tail)) ≡ false
      post_is = ap (ltb limit) (sym q) ∙ le-ltb limit post i

      tests : outside (bound (u32_at s (tail_inhibitor_at tail))) ≡ test
      tests = ap (λ x. outside (bound x)) (sym r) ∙ sym o

      pub inhibitor-outside : {a : Answer} → test ≡ true → a ≡ Err (wrong Net (NumberOutside (tail_inhibitor_at tail))) → a ≡ answer (tail_numbers s arc tail)
      unfolding tail_numbers
      inhibitor-outside t e = answer-passes _ _ pre_is (answer-passes _ _ post_is (answer_fails _ (tests ∙ t) e))

      module _ (t : test ≡ false) {is : Bool} (b : is ≡ blank pre post inhibitor) where
        blank-is : tail_blank s tail ≡ is
        unfolding tail_blank
        blank-is = rw (← p, ← q, ← r) (sym b)

        pub all-blank : {a : Answer} → is ≡ true → a ≡ Err (wrong Net (Blank arc)) → a ≡ answer (tail_numbers s arc tail)
        unfolding tail_numbers
        all-blank f e = answer-passes _ _ pre_is (answer-passes _ _ post_is (answer-passes _ _ (tests ∙ t) (answer-last_fails (blank-is ∙ f) e)))

        pub all_pass : is ≡ false → (Ok tt) ≡ answer (tail_numbers s arc tail)
        unfolding tail_numbers
        all_pass f = answer-passes _ _ pre_is (answer-passes _ _ post_is (answer-passes _ _ (tests ∙ t) (answer-last-passes _ (blank-is ∙ f))))
