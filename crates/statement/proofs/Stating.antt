-- The text at the front of a slice that has room for every text.
use Rattle.std.specs.Prelude.{Result, Ok, Err}
use Rattle.model.specs.declared.Refusal.{Refusal}
use Prim.Native.Nat.{ℕ, ◌+◌, ◌≤◌, ◌<◌}
use mathlib.Core.Path.{◌≡◌, refl, ◌∙◌, ap}
use mathlib.Core.Bool.{Bool, true, false}
use mathlib.Core.List.{List}
use lib.Dec.{ltb}
use lib.ListN.{length, length-append}
use native.Mathlib.Nat.{zero-add}
use native.Mathlib.Omega.{arith}
use borrow.Author.Tests.{lt-ltb, le-ltb}
use Rattle.model.specs.declared.Thing.TheVariants.{Net}
use Rattle.model.specs.declared.Fault.TheVariants.{NoRoom}
use Rattle.model.specs.Refusals.{wrong}
use Rattle.writes.specs.Writes.{Writes}
use Rattle.writes.proofs.Into.{into_within}
use Rattle.statement.specs.Allowed.{StatementAllows}
use Rattle.statement.specs.Replay.{replay_text, room, stated, stated_in}

pub too_short_lem : (input out : List ℕ) → length out < room → StatementAllows input out (Err (wrong Net NoRoom), out)
unfolding stated stated_in
too_short_lem input out h = rw (lt-ltb (length out) room h) (refl, refl)

pub text-stated : (input : List ℕ) {out now : List ℕ} {end : ℕ} → room ≤ length out → Writes room out 0 (replay_text input) end now
    → StatementAllows input out (Ok end, now)
unfolding stated stated_in
text-stated input {out} h p =
    let text = replay_text input in
    let e : 0 + length text ≡ length text = zero-add (length text) in
    rw (le-ltb (length out) room h) (ap Ok (p.next ∙ e), p.holds ∙ rw (into_within out 0 text (omega (arith, p.next, p.fits)), e))

-- what was written lies within the slice
pub written-within : (input out : List ℕ) {now : List ℕ} {answer : Result ℕ Refusal} {end : ℕ} → StatementAllows input out (answer, now) → answer ≡ Ok end → end ≤ length now
unfolding stated stated_in
written-within input out {now} {answer} {end} allowed e = go (ltb (length out) room) refl
  where
    text : List ℕ
    text = replay_text input

    go : (b : Bool) → ltb (length out) room ≡ b → end ≤ length now
    go true short = let f = rw short at allowed.0 in let z : ◌≡◌ {A = ℕ} 0 1 = cc in absurd (omega arith)
    go false enough =
        let f = rw enough at allowed.0 in
        let g = rw enough at allowed.1 in
        let is : end ≡ length text = cc in
        omega (arith, simp length-append at (ap length g))
