-- The call compares the slice's length with 262,144 before all else.
use Rattle.std.specs.Prelude.{Ok, Err}
use Prim.Native.Nat.{ℕ, ◌≤◌, ◌<◌}
use mathlib.Core.Path.{◌≡◌, sym, ◌∙◌, ap}
use mathlib.Core.List.{List}
use mathlib.Core.Logic.{⊎_elim, ◌≢◌}
use lib.ListN.{length}
use native.Mathlib.Omega.{arith}
use borrow.Author.Tests.{lt-ltb, le-ltb}
use Rattle.model.specs.declared.Thing.TheVariants.{Net}
use Rattle.model.specs.declared.Fault.TheVariants.{NoRoom}
use Rattle.model.specs.Refusals.{wrong}
use Rattle.model.proofs.First.{below_or}
use Rattle.sheets.specs.Emitted.{told}
use Rattle.statement.specs.Replay.{room, replay_text, stated}
use Rattle.answers.specs.Told.{counted}
use Rattle.promises.specs.TextRoom.{ByRoom, TextRoom}
use Rattle.promises.proofs.TextLength.{text-most}

by-room : {A : Type 0} {told refused accepted : A} (out : List ℕ) → refused ≢ accepted
    → (length out < room → told ≡ refused) → (room ≤ length out → told ≡ accepted) → ByRoom told refused accepted out
by-room out apart less more =
    record {
      short = (λ e. ⊎_elim (λ (l : length out < room). l) (λ (l : room ≤ length out). absurd (apart (sym e ∙ more l))) (below_or (length out) room), less);
      enough = (λ e. ⊎_elim (λ (l : length out < room). absurd (apart (sym (less l) ∙ e))) (λ (l : room ≤ length out). l) (below_or (length out) room), more);
    }

module _ (input out : List ℕ) where
  no_room : length out < room → stated input out ≡ Err (wrong Net NoRoom)
  unfolding stated
  no_room l = rw (lt-ltb (length out) room l)

  all-written : room ≤ length out → stated input out ≡ Ok (length (replay_text input))
  unfolding stated
  all-written l = rw (le-ltb (length out) room l)

pub text-room : TextRoom
text-room =
    record {
      statement = λ input out o a.
          by-room out (λ e. let z : ◌≡◌ {A = ℕ} 10 0 = ap (λ c. c.number) e in absurd (omega arith))
          (λ l. ap (λ s. (told s).carried) (a.0 ∙ no_room input out l))
          (λ l. ap (λ s. (told s).carried) (a.0 ∙ all-written input out l));
      statement_for_c = λ input out o a.
          by-room out (λ e. absurd (omega arith))
          (λ l. ap (λ t. t.answer.number) a.0 ∙ ap (λ s. (counted (told s)).answer.number) (no_room input out l))
          (λ l. ap (λ t. t.answer.number) a.0 ∙ ap (λ s. (counted (told s)).answer.number) (all-written input out l));
      longest = text-most;
    }
