-- What a call that writes a sheet or a text answers, and leaves: a refusal, with nothing written, and bytes from the first on.
use Rattle.std.specs.Prelude.{Ok, Err}
use Prim.Native.Nat.{ℕ, ◌≤◌}
use mathlib.Core.Path.{◌≡◌, refl, ap}
use mathlib.Core.List.{List}
use mathlib.Core.Option.{Option, none, some}
use lib.ListN.{length}
use native.Mathlib.Omega.{arith}
use Rattle.model.specs.declared.Refusal.{Refusal}
use Rattle.sheets.specs.Emitted.{emitted, output}
use Rattle.sheets.specs.written.Puts.{Puts}
use Rattle.sheets.proofs.written.Puts.{from_start}

pub refused : {o : Option Refusal} {r : Refusal} (n : ℕ) (bytes found : List ℕ) → o ≡ some r → (Err r ≡ emitted o n) × (found ≡ output o bytes found)
refused n bytes found e = rw e (refl, refl)

pub written : {o : Option Refusal} {found now : List ℕ} {after : ℕ} (bytes : List ℕ) → o ≡ none → length bytes ≤ length found → Puts found 0 bytes now after
    → (Ok after ≡ emitted o (length bytes)) × (now ≡ output o bytes found)
written {after = after} bytes e h p = let n : after ≡ length bytes = omega (arith, p.next) in rw e (ap Ok n, from_start p.written h)
