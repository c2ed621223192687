-- Numbers of two and of four bytes: what is written is what is read, and what is read is what stands there.
use Prim.Native.Nat.{ℕ, zero, suc, ◌+◌, ◌*◌, ◌/◌, ◌%◌, ◌<◌, ◌≤◌}
use mathlib.Core.Path.{◌≡◌, refl}
use mathlib.Core.List.{List, [], ◌∷◌}
use mathlib.Core.Logic.{⊎_elim}
use lib.ListN.{length, length-append, get_or-eq_default}
use native.Mathlib.Omega.{arith}
use Rattle.model.specs.declared.Version.{Version}
use Rattle.model.proofs.First.{below_or}
use Rattle.heads.specs.Bytes.{byte_at, u16_at, u32_at}
use Rattle.sheets.specs.written.Written.{bytes16, bytes32, version_bytes, head_bytes}
use Rattle.sheets.proofs.written.Stands.{Stands, stands-both, stands-left, stands-right}

pub length16 : (n : ℕ) → length (bytes16 n) ≡ 2
unfolding bytes16
length16 n = refl

pub length32 : (n : ℕ) → length (bytes32 n) ≡ 4
unfolding bytes16 bytes32
length32 n = refl

pub head-length : (v : Version) (rule l : ℕ) → length (head_bytes v rule l) ≡ 4 + length (version_bytes v rule)
unfolding head_bytes
head-length v rule l = rw length-append (omega (arith, length32 l))

-- what stands past the end of a run reads as 0
pub every_byte : (s : List ℕ) → ((i : ℕ) → i < length s → byte_at s i < 256) → (i : ℕ) → byte_at s i < 256
every_byte s h i = ⊎_elim (h i) (λ (l : length s ≤ i). omega (arith, get_or-eq_default s 0 l)) (below_or i (length s))

module _ (s : List ℕ) where
  pub read16 : (at n : ℕ) → n < 65536 → Stands s at (bytes16 n) → u16_at s at ≡ n
  unfolding bytes16 u16_at
  read16 at n h l = omega (arith, l.each 0 at (omega arith) (omega arith), l.each 1 (at + 1) (omega arith) (omega arith))

  pub read32 : (at n : ℕ) → n < 4294967296 → Stands s at (bytes32 n) → u32_at s at ≡ n
  unfolding bytes32 u32_at
  read32 at n h l =
      let high = bytes16 (n / 65536) in
      let low = bytes16 (n % 65536) in
      omega
      (arith, read16 at (n / 65536) (omega arith) (stands-left high low l), read16 (at + 2) (n % 65536) (omega arith) (stands-right high low l (at + 2) (omega (arith, length16 (n / 65536)))))

  pub two : (at : ℕ) {a b : ℕ} → byte_at s at ≡ a → byte_at s (at + 1) ≡ b → Stands s at (a ∷ b ∷ [])
  two at {a} {b} x y = record { each = go }
    where
      go : (j k : ℕ) → j < 2 → k ≡ at + j → byte_at s k ≡ byte_at (a ∷ b ∷ []) j
      go zero k h e = let q : k ≡ at = omega arith in rw q x
      go (suc zero) k h e = let q : k ≡ at + 1 = omega arith in rw q y
      go (suc (suc j)) k h e = absurd (omega arith)

  module _ (byte : (i : ℕ) → byte_at s i < 256) where
    below16 : (at : ℕ) → u16_at s at < 65536
    unfolding u16_at
    below16 at = omega (arith, byte at, byte (at + 1))

    pub stand16 : (at : ℕ) → Stands s at (bytes16 (u16_at s at))
    unfolding bytes16 u16_at
    stand16 at = two at (omega (arith, byte at, byte (at + 1))) (omega (arith, byte at, byte (at + 1)))

    pub stand32 : (at : ℕ) → Stands s at (bytes32 (u32_at s at))
    unfolding bytes32 u32_at
    stand32 at =
        let high : (u16_at s at * 65536 + u16_at s (at + 2)) / 65536 ≡ u16_at s at = omega (arith, below16 (at + 2)) in
        let low : (u16_at s at * 65536 + u16_at s (at + 2)) % 65536 ≡ u16_at s (at + 2) = omega (arith, below16 (at + 2)) in
        rw (high, low) (stands-both (stand16 at) (stand16 (at + 2)) (omega (arith, length16 (u16_at s at))))
