-- The laws of bytes written one run after another.
use Prim.Native.Nat.{ℕ, ◌+◌, ◌≤◌}
use mathlib.Core.Path.{◌≡◌, sym, ◌∙◌, ap}
use mathlib.Core.List.{List, [], ◌++◌, append-nil}
use lib.ListN.{length, length-append, take-append-drop}
use native.Mathlib.Nat.{add-zero}
use native.Mathlib.Omega.{arith}
use Rattle.writes.specs.Writes.{Writes}
use Rattle.writes.proofs.Into.{into_within, into_length, into_more}

module _ {out : List ℕ} {at : ℕ} where
  -- nothing is written
  pub nothing : at ≤ length out → Writes 0 out at [] at out
  nothing h = record { next = omega arith; fits = h; holds = sym (rw (into_within out at [] (omega arith), append-nil, add-zero, take-append-drop)); within = omega arith }

  module _ {m : ℕ} {xs : List ℕ} {middle : ℕ} {then : List ℕ} (p : Writes m out at xs middle then) where
    pub length-kept : length then ≡ length out
    length-kept = ap length p.holds ∙ into_length out at xs

    -- the same with another bound on how many
    pub within : {n : ℕ} → length xs ≤ n → Writes n out at xs middle then
    within h = record { next = p.next; fits = p.fits; holds = p.holds; within = h }

  infixr 20 ◌and◌
  pub ◌and◌ : {m n : ℕ} {xs ys : List ℕ} {middle after : ℕ} {then now : List ℕ}
      → Writes m out at xs middle then → Writes n then middle ys after now → Writes (m + n) out at (xs ++ ys) after now
  ◌and◌ {xs = xs} {ys} p q =
      let long = length-append xs ys in
      let fits = rw (length-kept p) at q.fits in
      record {
        next = omega (arith, p.next, q.next);
        fits = fits;
        holds = q.holds ∙ rw (p.holds, p.next) (into_more out at xs ys (omega (arith, p.next, q.next)));
        within = omega (arith, p.within, q.within);
      }
