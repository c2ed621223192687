-- Both directions of a movement sheet.
use Prim.Native.Nat.{ℕ, ◌+◌, ◌*◌, ◌≤◌, ◌<◌}
use mathlib.Core.Path.{◌≡◌, refl, ap}
use mathlib.Core.List.{List, [], ◌∷◌, ◌++◌, flat_map}
use mathlib.Core.Option.{none}
use lib.ListN.{length, take, get_or, length-append}
use borrow.Author.Tests.{ltb-false, le-ltb, ne_eqb, eqb-true, not-false}
use native.Mathlib.Omega.{arith}
use Rattle.model.specs.declared.Mode.{Mode}
use Rattle.model.specs.declared.Thing.TheVariants.{Movements}
use Rattle.model.specs.First.{◌▸◌}
use Rattle.model.specs.Nets.{mode_no}
use Rattle.model.proofs.First.{left-none, right-none, none_then, only_if_none}
use Rattle.heads.specs.Bytes.{byte_at}
use Rattle.heads.specs.Layout.{body_length, sheet_end, version, movements_at, movement_at, movement_count}
use Rattle.heads.specs.Checks.{known, head_refusal}
use Rattle.heads.proofs.Heads.{head-holds, first-known}
use Rattle.sheets.specs.lists.Movements.{most_movements, movement_fields, movements_refusal}
use Rattle.sheets.specs.Whole.{bytes_after, whole_movements}
use Rattle.sheets.specs.Decoded.{movements_of}
use Rattle.sheets.specs.Listed.{mode_at, modes_from}
use Rattle.sheets.proofs.Listed.{modes_from_length, movements-are}
use Rattle.sheets.specs.written.Written.{bytes32}
use Rattle.sheets.specs.written.Puts.{part_of}
use Rattle.sheets.proofs.written.Stands.{Stands, stands-both, stands-left, stands-right, stands_self, stands-whole, moved}
use Rattle.sheets.proofs.written.BigEndian.{length16, length32, every_byte, read16, read32, stand16, stand32}
use Rattle.sheets.proofs.written.Sections.{table_is, section_length, section_each, section_stands}
use Rattle.sheets.proofs.written.Puts.{part-is}
use Rattle.damaged.specs.Damaged.{considered, modes_in}
use Rattle.run.proofs.salvage.Considered.{first-long, first-modes}
use Rattle.run.specs.salvage.MovementSheet.{listed_bytes, movement_sheet}
use Rattle.run.specs.salvage.Salvaged.{sheet_of_first}
use Rattle.run.specs.salvage.Promises.{ListWrittenThenRead, ListReadThenWritten}

listed-length : (t : Mode) → length (listed_bytes t) ≡ 2
listed-length t = length16 t.0

-- the version byte and the modes, and the whole sheet
module _ (modes : List Mode) where
  body-length : length (1 ∷ flat_map listed_bytes modes) ≡ 1 + 2 * length modes
  body-length = omega (arith, section_length 2 listed_bytes listed-length (mode_no 0) modes)

  pub sheet-length : length (movement_sheet modes) ≡ 5 + 2 * length modes
  unfolding movement_sheet
  sheet-length = omega (arith, length-append (bytes32 (1 + 2 * length modes)) (1 ∷ flat_map listed_bytes modes), length32 (1 + 2 * length modes), body-length)

-- what is read stands there
module _ (s : List ℕ) (byte : (i : ℕ) → byte_at s i < 256) (v : version s ≡ 1) where
  version-stands : Stands s 4 (1 ∷ [])
  version-stands = record { each = λ j k l q. let j≡0 : j ≡ 0 = omega arith in let k≡4 : k ≡ 4 = omega arith in rw (j≡0, k≡4) v }

  modes_stand_lem : (n : ℕ) → Stands s movements_at (flat_map listed_bytes (modes_from s movements_at n))
  unfolding modes_from mode_at
  modes_stand_lem n = section_stands 2 listed_bytes listed-length n _ (λ i k l e. moved k e (stand16 s byte (movement_at i)))

  body-stands : (n : ℕ) → Stands s 4 (1 ∷ flat_map listed_bytes (modes_from s movements_at n))
  body-stands n = stands-both version-stands (modes_stand_lem n) refl

  sheet-stands : (n : ℕ) → body_length s ≡ 1 + 2 * n → Stands s 0 (movement_sheet (modes_from s movements_at n))
  unfolding movement_sheet
  sheet-stands n e =
      let l = 1 + 2 * length (modes_from s movements_at n) in
      let same : l ≡ body_length s = omega (arith, modes_from_length s movements_at n) in
      let head : Stands s 0 (bytes32 l) = rw same (stand32 s byte 0) in
      stands-both head (body-stands n) (omega (arith, length32 l))

  -- the part of damaged bytes that a fresh sheet has after its length
  pub part-kept : (k : ℕ) → k ≤ considered s → part_of s 4 (1 + 2 * k) ≡ 1 ∷ flat_map listed_bytes (take k (modes_in s))
  part-kept k h =
      rw (first-modes s k h)
      (part-is (body-stands k) (1 + 2 * k) (omega (arith, body-length (modes_from s movements_at k), modes_from_length s movements_at k)))

-- a fresh sheet in two parts
pub first-parts : (s : List ℕ) (k : ℕ) → k ≤ considered s → sheet_of_first s k ≡ bytes32 (1 + 2 * k) ++ (1 ∷ flat_map listed_bytes (take k (modes_in s)))
unfolding movement_sheet
first-parts s k h = ap (λ n. bytes32 (1 + 2 * n) ++ (1 ∷ flat_map listed_bytes (take k (modes_in s)))) (first-long s k h)

-- what stands there is read
module _ (s : List ℕ) (modes : List Mode) (few : length modes ≤ most_movements) (stands : Stands s 0 (movement_sheet modes)) where
  abbrev body : List ℕ
  body = 1 ∷ flat_map listed_bytes modes

  length-read : body_length s ≡ 1 + 2 * length modes
  unfolding movement_sheet
  length-read = read32 s 0 (1 + 2 * length modes) (omega arith) (stands-left (bytes32 (1 + 2 * length modes)) body stands)

  body_at : Stands s 4 body
  unfolding movement_sheet
  body_at = stands-right (bytes32 (1 + 2 * length modes)) body stands 4 (omega (arith, length32 (1 + 2 * length modes)))

  version-read : version s ≡ 1
  version-read = body_at.each 0 4 (omega arith) (omega arith)

  list_at : Stands s movements_at (flat_map listed_bytes modes)
  list_at = stands-right (1 ∷ []) (flat_map listed_bytes modes) body_at movements_at (omega arith)

  modes-read : ((k : ℕ) → k < length modes → (get_or modes k (mode_no 0)).0 < 65536) → movements_of s ≡ modes
  unfolding movements_of
  modes-read each =
      table_is (mode_no 0) modes (movement_count s) _ (omega (arith, length-read))
      (λ k l.
      ap mode_no
      (read16 s (movement_at k) (get_or modes k (mode_no 0)).0 (each k l)
      (section_each 2 listed_bytes listed-length (mode_no 0) modes list_at k (movement_at k) l refl)))

  head-accepts : sheet_end s ≤ length s → head_refusal Movements s ≡ none
  unfolding head_refusal ◌▸◌
  head-accepts there =
      rw
      (le-ltb (length s) 4 (omega arith), le-ltb (length s) (sheet_end s) there, ne_eqb (body_length s) 0 (λ z. omega (arith, length-read)), first-known Movements (version s) version-read)

  fields_accept : movement_fields s ≡ none
  unfolding movement_fields
  fields_accept =
      none_then (rw (le-ltb (movement_at (movement_count s)) (sheet_end s) (omega (arith, length-read))))
      (rw (le-ltb most_movements (movement_count s) (omega (arith, length-read))))

  whole-accepts : length s ≡ 5 + 2 * length modes → whole_movements s ≡ none
  unfolding whole_movements bytes_after movements_refusal
  whole-accepts long =
      none_then (none_then (head-accepts (omega (arith, length-read))) fields_accept)
      (rw (le-ltb (sheet_end s) (length s) (omega (arith, length-read))))

pub list_written-then-read : ListWrittenThenRead
list_written-then-read modes few each =
    let sheet = movement_sheet modes in
    record {
      accepted = whole-accepts sheet modes few (stands_self sheet) (sheet-length modes);
      same = modes-read sheet modes few (stands_self sheet) each;
    }

-- what an accepted sheet says of itself
pub record Listed (s : List ℕ) : Type 0 where
  pub version : version s ≡ 1
  pub long : length s ≡ sheet_end s
  pub even : body_length s ≡ 1 + 2 * movement_count s
  pub few : movement_count s ≤ most_movements

pub listed : (s : List ℕ) → whole_movements s ≡ none → Listed s
unfolding whole_movements bytes_after movements_refusal movement_fields head_refusal known
listed s e =
    let sheet = left-none _ _ e in
    let head : head_refusal Movements s ≡ none = left-none _ _ sheet in
    let fields = right-none (head_refusal Movements s) _ sheet in
    let headed = head-holds Movements s head in
    let none_over : sheet_end s ≤ movement_at (movement_count s) = ltb-false _ _ (only_if_none _ _ (left-none _ _ fields)) in
    let none_after : length s ≤ sheet_end s = ltb-false _ _ (only_if_none _ _ (right-none _ _ e)) in
    record {
      version = eqb-true (version s) 1 (not-false _ (only_if_none _ _ (right-none _ _ (right-none _ _ (right-none _ _ head)))));
      long = omega (arith, headed.there);
      even = omega (arith, headed.versioned);
      few = ltb-false _ _ (only_if_none _ _ (right-none _ _ fields));
    }

pub list_read-then-written : ListReadThenWritten
list_read-then-written s bytes e =
    let is = listed s e in
    let count = modes_from_length s movements_at (movement_count s) in
    rw (movements-are s)
    (stands-whole (sheet-stands s (every_byte s bytes) is.version (movement_count s) is.even)
    (omega (arith, is.long, is.even, sheet-length (modes_from s movements_at (movement_count s)), count)))
