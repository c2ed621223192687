-- Both directions of a sheet.
use Prim.Native.Nat.{ℕ, zero, suc, ◌+◌, ◌*◌, ◌≤◌, ◌<◌}
use mathlib.Core.Path.{◌≡◌, refl, sym, ◌∙◌, ap, subst}
use mathlib.Core.Bool.{true}
use mathlib.Core.List.{List, ◌++◌}
use mathlib.Core.Option.{none}
use lib.ListN.{length, drop, length-append}
use lib.Seq.{drop_at}
use native.Mathlib.Omega.{arith}
use native.Mathlib.Nat.{mul-zero, mul-suc}
use borrow.Author.Tests.{le-ltb, ltb-false, not-false}
use Rattle.model.specs.declared.Thing.TheVariants.{Net}
use Rattle.model.specs.declared.Version.{Version}
use Rattle.model.specs.declared.Version.TheVariants.{One, Two}
use Rattle.model.specs.Nets.{PNet}
use Rattle.model.specs.Refusals.{answer}
use Rattle.model.specs.WellFormed.{WellFormed}
use Rattle.model.proofs.First.{left-none, right-none, none_then, only_if_none}
use Rattle.heads.specs.Bytes.{byte_at}
use Rattle.heads.specs.Layout.{sheet_end, version, rule_at, pair_count, mode_count, pairs_offset, arc_count_at, arcs_offset, arc_count, arc_at, arc_size, tail_size, arcs_after, group_at, group_count}
use Rattle.heads.specs.Version.{version_of}
use Rattle.heads.specs.Rule.{rule_of}
use Rattle.heads.specs.Checks.{known, head_refusal}
use Rattle.sheets.specs.nets.Groups.{group_fields}
use Rattle.sheets.specs.nets.Nets.{arc_fields, arc_section, rule_field, pair_and_arc_fields, net_fields, net_refusal}
use Rattle.sheets.specs.Whole.{bytes_after, whole_net, rest}
use Rattle.sheets.specs.Decoded.{net_of}
use Rattle.sheets.specs.written.Written.{length_of, sheet_of}
use Rattle.sheets.specs.written.Promises.{HasSheet, WrittenThenRead, ReadThenWritten}
use Rattle.heads.proofs.Heads.{head-holds}
use Rattle.sheets.proofs.nets.GroupsRead.{before-none, before-next, GroupRead}
use Rattle.sheets.proofs.nets.Valid.{counts_hold, start-holds, arc-count-holds, arc-holds, groups_hold}
use Rattle.sheets.proofs.Meaning.{rule-is}
use Rattle.sheets.proofs.Accepted.{well_formed_lem}
use Rattle.sheets.proofs.written.Stands.{Stands, stands-left, stands_self, stands-whole}
use Rattle.sheets.proofs.written.BigEndian.{every_byte}
use Rattle.sheets.proofs.written.SheetLength.{sheet-length, sheet-least}
use Rattle.sheets.proofs.written.NetRead.{number_read, version-read, rule-read, body-length-read, net-read}
use Rattle.sheets.proofs.written.NetAccepts.{net-accepts}
use Rattle.sheets.proofs.written.NetStands.{arcs_end, sheet-stands, ends_of}
use Rattle.sheets.proofs.written.Versions.{number_is, version-known}

-- the version byte is one of a net sheet's, and the rule byte of version 2 is 0 or 1
pub known-holds : (s : List ℕ) → head_refusal Net s ≡ none → known Net (version s) ≡ true
unfolding head_refusal
known-holds s e = not-false _ (only_if_none _ _ (right-none _ _ (right-none _ _ (right-none _ _ e))))

rule-holds : (s : List ℕ) → net_fields s ≡ none → version_of s ≡ Two → byte_at s rule_at ≤ 1
unfolding net_fields rule_field
rule-holds s e v =
    let rule : rule_field Two s ≡ none = rw v at (left-none (rule_field (version_of s) s) _ e) in
    ltb-false _ _ (only_if_none _ _ (right-none _ _ rule))

-- parts that are each there are there together
all_there : (size start end n : ℕ) → start ≤ end → ((k : ℕ) → k < n → start + size * k + size ≤ end) → start + size * n ≤ end
all_there size start end zero h each = rw (mul-zero size) (omega arith)
all_there size start end (suc n) h each = rw (mul-suc size n) (omega (arith, each n (omega arith)))

module _ (s : List ℕ) (accepted : net_refusal s ≡ none) where
  section_accepted : arc_section (version_of s) s (mode_count s) (pair_count s) (arc_count_at s) ≡ none
  unfolding net_refusal net_fields pair_and_arc_fields
  section_accepted = right-none _ _ (right-none _ _ (right-none _ _ (right-none _ _ accepted)))

  one-ends : version_of s ≡ One → arcs_end One s ≡ sheet_end s
  unfolding arc_section arc_fields arc_count
  one-ends v =
      let arcs : arc_fields s (mode_count s) (pair_count s) (arc_count_at s) ≡ none = rw v at section_accepted in
      let none_left : sheet_end s ≤ arc_at (arcs_offset s) (arc_count s) = ltb-false _ _ (only_if_none _ _ (right-none _ _ (right-none _ _ arcs))) in
      let there = all_there arc_size (arcs_offset s) (sheet_end s) (arc_count s) (arc-count-holds s accepted v).there (λ k h. (arc-holds s accepted v k h).there) in
      omega arith

  -- the modes' arcs begin where the pairs end
  pub pairs-there : arc_count_at s ≤ sheet_end s
  pairs-there = all_there 8 (pairs_offset s) (sheet_end s) (pair_count s) (counts_hold s accepted).there (λ p h. omega (arith, (start-holds s accepted p h).there))

  module _ (read : (t : ℕ) → t < mode_count s → GroupRead s (pair_count s) (arc_count_at s) t) where
    groups_there : (n : ℕ) → n ≤ mode_count s → group_at s (arc_count_at s) n ≤ sheet_end s
    groups_there zero h = omega (arith, pairs-there, before-none s (arc_count_at s))
    groups_there (suc n) h =
        let group = read n (omega arith) in
        let at = arcs_after (group_at s (arc_count_at s) n) in
        let arcs = all_there tail_size at (sheet_end s) (group_count s (arc_count_at s) n) group.there (λ i l. (group.arcs i l).there) in
        omega (arith, arcs, before-next s (arc_count_at s) n)

  two_ends : version_of s ≡ Two → arcs_end Two s ≡ sheet_end s
  unfolding arc_section group_fields
  two_ends v =
      let groups : group_fields s (pair_count s) (mode_count s) (arc_count_at s) ≡ none = rw v at section_accepted in
      let none_left : sheet_end s ≤ group_at s (arc_count_at s) (mode_count s) = ltb-false _ _ (only_if_none _ _ (right-none _ _ groups)) in
      omega (arith, groups_there (groups_hold s accepted v) (mode_count s) (omega arith))

  ends_by : (v : Version) → version_of s ≡ v → arcs_end v s ≡ sheet_end s
  ends_by One v = one-ends v
  ends_by Two v = two_ends v

  -- the fields of an accepted sheet end where it ends
  pub fields-end : arcs_end (version_of s) s ≡ sheet_end s
  fields-end = ends_by (version_of s) refl

pub read-then-written : ReadThenWritten
unfolding whole_net bytes_after net_refusal
read-then-written s bytes e =
    let net = left-none _ _ e in
    let head = left-none _ _ net in
    let ends = ends_of s (well_formed_lem s net) ∙ fields-end s net in
    let after : length s ≤ sheet_end s = ltb-false _ _ (only_if_none _ _ (right-none _ _ e)) in
    stands-whole (sheet-stands s (every_byte s bytes) (number_is s (known-holds s head)) (rule-holds s (right-none _ _ net)) (omega arith))
    (omega (arith, head-holds Net s head, sheet-length (version_of s) (net_of s)))

-- a net that was read has a sheet of the version it was read from
pub own-sheet : (s : List ℕ) → HasSheet (version_of s) (net_of s)
unfolding rule_of
own-sheet s e = rule-is s ∙ ap (λ v. rule_of v s) e

-- a run begins with a net's sheet: with bytes after it, or alone
record Begins (s : List ℕ) (v : Version) (net : PNet) : Type 0 where
  stands : Stands s 0 (sheet_of v net)
  room : length (sheet_of v net) ≤ length s

alone : (v : Version) (net : PNet) → Begins (sheet_of v net) v net
alone v net = record { stands = stands_self _; room = omega arith }

before : (v : Version) (net : PNet) (more : List ℕ) → Begins (sheet_of v net ++ more) v net
before v net more = record { stands = stands-left _ more (stands_self (sheet_of v net ++ more)); room = omega (arith, length-append (sheet_of v net) more) }

module _ (s : List ℕ) (v : Version) (net : PNet) (well : WellFormed net) (has : HasSheet v net) (begins : Begins s v net) where
  ends : sheet_end s ≡ length (sheet_of v net)
  ends = omega (arith, body-length-read s v net well begins.stands, sheet-length v net)

  read-well : WellFormed (net_of s)
  read-well = subst WellFormed (sym (net-read s v net well begins.stands has)) well

  end_read : arcs_end (version_of s) s ≡ sheet_end s
  end_read =
      let same : length_of (version_of s) (net_of s) ≡ length_of v net = rw (version-read s v net well begins.stands, net-read s v net well begins.stands has) in
      omega (arith, ends_of s read-well, ends, sheet-length v net)

  accepted : net_refusal s ≡ none
  accepted =
      let long = sheet-least v net in
      net-accepts s read-well end_read
      (record { there = omega (arith, ends, begins.room); versioned = omega (arith, ends) })
      (version-known v (version s) (number_read s v net well begins.stands))
      (omega (arith, ends))
      (λ e. rule-read s v net well begins.stands (sym (version-read s v net well begins.stands) ∙ e))

  rest-after : rest (answer (net_refusal s)) s ≡ drop (length (sheet_of v net)) s
  unfolding rest
  rest-after = rw (accepted, ends)

pub written-then-read : WrittenThenRead
unfolding whole_net bytes_after
written-then-read v net well has =
    let sheet = sheet_of v net in
    record {
      version = version-read sheet v net well (alone v net).stands;
      accepted = none_then (accepted sheet v net well has (alone v net)) (rw (le-ltb (sheet_end sheet) (length sheet) (omega (arith, ends sheet v net well has (alone v net)))));
      same = net-read sheet v net well (alone v net).stands has;
      accepted_first = λ more. accepted (sheet ++ more) v net well has (before v net more);
      same_first = λ more. net-read (sheet ++ more) v net well (before v net more).stands has;
      rest_after = λ more. rest-after (sheet ++ more) v net well has (before v net more) ∙ drop_at sheet more _ refl;
    }
