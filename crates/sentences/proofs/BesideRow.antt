-- What a mode has at the complement of a pair, by either rule.
use Prim.Native.Nat.{ℕ, ◌+◌, ◌-◌, ◌<◌, max}
use mathlib.Core.Path.{◌≡◌, refl, ◌∙◌}
use mathlib.Core.Bool.{true, false}
use native.Mathlib.Omega.{arith}
use Rattle.model.specs.declared.Mode.{Mode}
use Rattle.model.specs.declared.CapacityRule.TheVariants.{Weak}
use Rattle.model.specs.Numbers.{fin}
use Rattle.model.specs.Nets.{PNet, pairs, modes, K, row}
use Rattle.second_form.specs.Dead.{is_dead}
use Rattle.second_form.specs.Complement.{complement_pair, reserve, complement_entry}
use Rattle.second_form.proofs.Bounded.{bounded-number}
use Rattle.second_form.proofs.ComplementRow.{row-complement}
use Rattle.second_form.proofs.ComplementNet.{rows-complement}
use Rattle.sentences.specs.P4.{beside_row}

module _ (net : PNet) (t : Mode) (p k : ℕ) (h : t.0 < modes net) (l : p < pairs net) (e : K net p ≡ fin k) where
  beside-is : beside_row net t p ≡ complement_entry net.rule (is_dead net t) (fin k) (row net t p)
  beside-is =
      let n = pairs net in
      rows-complement net t (complement_pair n (K net) p) h (omega (arith, bounded-number (K net) n p k l e))
      ∙ row-complement net.rule (is_dead net t) n (K net) (row net t) p k l e

  pub post-is-pre : is_dead net t ≡ true → (beside_row net t p).post ≡ (beside_row net t p).pre
  post-is-pre dead = rw (beside-is, dead) refl

  pub weak-pre : net.rule ≡ Weak → (beside_row net t p).pre ≡ max ((row net t p).post - (row net t p).pre) (reserve k (row net t p).inhibitor)
  weak-pre weak = rw (beside-is, weak) refl

  pub live-post : is_dead net t ≡ false → (beside_row net t p).post ≡ (beside_row net t p).pre + (row net t p).pre - (row net t p).post
  live-post live = rw (beside-is, live) refl
