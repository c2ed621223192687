-- The version byte of a sheet, and the parts that the version decides, by its two cases.
use Prim.Native.Nat.{ℕ, ◌+◌, ◌≤◌}
use mathlib.Core.Path.{◌≡◌, refl}
use mathlib.Core.Bool.{Bool, true, false, cond, ◌||◌}
use mathlib.Core.List.{List, [], ◌∷◌}
use lib.Dec.{eqb}
use lib.ListN.{length}
use native.Mathlib.Omega.{arith}
use borrow.Author.Tests.{eqb-true, eqb-false, eq-eqb, ne_eqb}
use Rattle.model.specs.declared.Thing.TheVariants.{Net}
use Rattle.model.specs.declared.Version.{Version}
use Rattle.model.specs.declared.Version.TheVariants.{One, Two}
use Rattle.model.specs.declared.CapacityRule.{CapacityRule}
use Rattle.model.specs.declared.CapacityRule.TheVariants.{Strong, Weak}
use Rattle.model.specs.Nets.{rule_number}
use Rattle.heads.specs.Bytes.{byte_at}
use Rattle.heads.specs.Layout.{version, rule_at, fields_from}
use Rattle.heads.specs.Version.{version_of}
use Rattle.heads.specs.Rule.{rule_of}
use Rattle.heads.specs.Checks.{known}
use Rattle.sheets.specs.written.Written.{bytes16, version_number, version_bytes, total_bytes, own_bytes}
use Rattle.sheets.specs.written.Puts.{total_size, own_size}
use Rattle.sheets.proofs.written.BigEndian.{length16}

-- the version byte says the version, where it is one that a net sheet has
pub version-is : (v : Version) (s : List ℕ) → version s ≡ version_number v → version_of s ≡ v
unfolding version_of
version-is One s e = rw (ne_eqb (version s) 2 (λ z. omega arith))
version-is Two s e = rw (eq-eqb (version s) 2 e)

pub version-known : (v : Version) (n : ℕ) → n ≡ version_number v → known Net n ≡ true
unfolding known
version-known One n e = rw (eq-eqb n 1 e)
version-known Two n e = rw (ne_eqb n 1 (λ z. omega arith), eq-eqb n 2 e)

pub number_is : (s : List ℕ) → known Net (version s) ≡ true → version s ≡ version_number (version_of s)
unfolding known version_of
number_is s e = go (eqb (version s) 2) refl
  where
    first : (b : Bool) → b || false ≡ true → b ≡ true
    first true h = refl
    first false h = h

    go : (b : Bool) → eqb (version s) 2 ≡ b → version s ≡ version_number (cond b Two One)
    go true h = eqb-true (version s) 2 h
    go false h = eqb-true (version s) 1 (first _ (rw h at e))

-- and so does the rule byte the rule, where it is 0 or 1
pub rule-small : (rule : CapacityRule) → rule_number rule ≤ 1
unfolding rule_number
rule-small Strong = omega arith
rule-small Weak = omega arith

pub rule-named : (s : List ℕ) (rule : CapacityRule) → byte_at s rule_at ≡ rule_number rule → rule_of Two s ≡ rule
unfolding rule_of rule_number
rule-named s Strong e = rw (ne_eqb (byte_at s rule_at) 1 (λ z. omega arith))
rule-named s Weak e = rw (eq-eqb (byte_at s rule_at) 1 e)

pub rule-number : (s : List ℕ) → byte_at s rule_at ≤ 1 → byte_at s rule_at ≡ rule_number (rule_of Two s)
unfolding rule_of rule_number
rule-number s h = go (eqb (byte_at s rule_at) 1) refl
  where
    go : (b : Bool) → eqb (byte_at s rule_at) 1 ≡ b → byte_at s rule_at ≡ rule_number (cond b Weak Strong)
    go true e = eqb-true (byte_at s rule_at) 1 e
    go false e = omega (arith, eqb-false (byte_at s rule_at) 1 e)

-- the fields begin after it, and in version 2 after the rule
pub fields_from_lem : (v : Version) (rule : ℕ) → fields_from v ≡ 4 + length (version_bytes v rule)
unfolding version_bytes
fields_from_lem One rule = refl
fields_from_lem Two rule = refl

-- how long the count before all arcs is, and that before a mode's
pub total-length : (v : Version) (n : ℕ) → length (total_bytes v n) ≡ total_size v
unfolding total_bytes
total-length One n = length16 n
total-length Two n = refl

pub own-length : (v : Version) (n : ℕ) → length (own_bytes v n) ≡ own_size v
unfolding own_bytes
own-length One n = refl
own-length Two n = length16 n

module _ {v : Version} (n : ℕ) where
  pub version-one : v ≡ One → 1 ∷ [] ≡ version_bytes v n
  unfolding version_bytes
  version-one e = rw e refl

  pub version-two : v ≡ Two → 2 ∷ n ∷ [] ≡ version_bytes v n
  unfolding version_bytes
  version-two e = rw e refl

  pub total-one : v ≡ One → bytes16 n ≡ total_bytes v n
  unfolding total_bytes
  total-one e = rw e refl

  pub total-two : v ≡ Two → [] ≡ total_bytes v n
  unfolding total_bytes
  total-two e = rw e refl
