-- The imported net is well formed, and its sheet has these parts.
use Prim.Native.Nat.{ℕ, zero, suc, ◌+◌, ◌-◌, ◌*◌, ◌≤◌, ◌<◌}
use mathlib.Core.Path.{◌≡◌, refl, sym, ◌∙◌, ap}
use mathlib.Core.List.{List, ◌++◌, flat_map, flatten, append_assoc, append-nil}
use lib.ListN.{length, get_or, length-append, replicate, length-replicate, get_or-replicate}
use native.Mathlib.Omega.{arith}
use Rattle.model.specs.declared.Version.TheVariants.{One}
use Rattle.model.specs.Lists.{joined}
use Rattle.model.specs.Numbers.{∞}
use Rattle.model.specs.declared.CapacityRule.TheVariants.{Strong}
use Rattle.model.specs.Nets.{PNet, rule_number, total, pairs, modes, K, count}
use Rattle.model.specs.WellFormed.{WellFormed, Counted}
use Rattle.movement.proofs.Joined.{joined_ext}
use Rattle.sheets.specs.written.Written.{bytes16, pair_bytes, head_bytes, pairs_bytes, total_bytes, section_bytes, length_of, sheet_of}
use Rattle.sheets.specs.written.Puts.{sheet_size}
use Rattle.sheets.proofs.written.BigEndian.{length16, head-length}
use Rattle.sheets.proofs.written.Records.{pair-length}
use Rattle.sheets.proofs.written.Sections.{section_list, section_length, joined_length}
use Rattle.sheets.proofs.written.SheetLength.{sheet-length, sheet-size, version-size}
use Rattle.sheets.proofs.written.ByMode.{by_mode}
use Rattle.pnml.specs.Pnml.{Exportable}
use Rattle.pnml.specs.Singles.{singles, imported_sheet}
use Rattle.grammar.proofs.Generated.{total-some}
use Rattle.import.specs.Parts.{marks_bytes, arcs_bytes, ones_bytes, counts_bytes}

total_ones : (n : ℕ) → total (replicate n 1) ≡ n
total_ones zero = refl
total_ones (suc n) = omega (arith, total_ones n)

ones_counted : (n : ℕ) → n ≤ 64 → Counted (replicate n 1)
ones_counted n h =
    record {
      many = omega (arith, length-replicate {A = ℕ} n 1);
      each = λ i l. rw (get_or-replicate {A = ℕ} n i 1 0 (omega (arith, length-replicate {A = ℕ} n 1))) (omega arith, omega arith);
      in_total = omega (arith, total_ones n);
    }

module _ (net : PNet) where
  pub pairs-same : pairs (singles net) ≡ pairs net
  pairs-same = total_ones (pairs net)

  pub modes-same : modes (singles net) ≡ modes net
  modes-same = total_ones (modes net)

  pub no_bound : (p : ℕ) → p < pairs net → K (singles net) p ≡ ∞
  no_bound p h = get_or-replicate (pairs net) p ∞ ∞ h

  pub singles-well : Exportable net → pairs net ≤ 64 → modes net ≤ 64 → WellFormed (singles net)
  singles-well e few some =
      let w = e.well_formed in
      let ps = pairs-same in
      let ms = modes-same in
      record {
        some_place = omega (arith, length-replicate {A = ℕ} (pairs net) 1, total-some net.colours w.some_place w.places);
        places = ones_counted (pairs net) few;
        transitions = ones_counted (modes net) some;
        capacities = length-replicate (pairs net) ∞ ∙ sym pairs-same;
        capacity_in_range = λ p h. rw (no_bound p (omega (arith, pairs-same))) tt;
        start =
            record {
              one_each = w.start.one_each ∙ sym pairs-same;
              in_range = λ p h. w.start.in_range p (omega (arith, pairs-same));
              within = λ p h. rw (no_bound p (omega (arith, pairs-same))) tt;
            };
        arc_count = w.arc_count;
        each_arc = λ k h.
            let a = w.each_arc k h in
            record { mode = omega (arith, a.mode, modes-same); pair = omega (arith, a.pair, pairs-same); pre = a.pre; post = a.post; inhibitor = a.inhibitor; not_blank = a.not_blank };
        rising = w.rising;
      }

ones_are : (n : ℕ) → flat_map bytes16 (replicate n 1) ≡ ones_bytes n
ones_are n =
    section_list bytes16 0 (replicate n 1)
    ∙ ap (λ k. joined k (λ i. bytes16 (get_or (replicate n 1) i 0))) (length-replicate {A = ℕ} n 1)
    ∙ joined_ext n (λ i. bytes16 (get_or (replicate n 1) i 0)) (λ _. bytes16 1) (λ i h. ap bytes16 (get_or-replicate {A = ℕ} n i 1 0 h))

pub ones_length : (n : ℕ) → length (ones_bytes n) ≡ 2 * n
ones_length n = joined_length 2 (λ _. bytes16 1) (λ i. length16 1) n

pub counts-length : (places modes : ℕ) → length (counts_bytes places modes) ≡ 4 + 2 * places + 2 * modes
counts-length places modes =
    omega (arith, length-append (bytes16 places) (bytes16 modes ++ (ones_bytes places ++ ones_bytes modes)), length-append (bytes16 modes) (ones_bytes places ++ ones_bytes modes), length-append (ones_bytes places) (ones_bytes modes), length16 places, length16 modes, ones_length places, ones_length modes)

pub marks-length : (marks : List ℕ) → length (marks_bytes marks) ≡ 8 * length marks
marks-length marks = section_length 8 (pair_bytes ∞) (λ m. pair-length ∞ m) 0 marks

pub head-five : (l : ℕ) → length (head_bytes One (rule_number Strong) l) ≡ 5
head-five l = omega (arith, head-length One (rule_number Strong) l, version-size One (rule_number Strong))

module _ (net : PNet) (e : Exportable net) where
  marks-are : pairs_bytes (singles net) ≡ marks_bytes net.start
  unfolding pairs_bytes
  marks-are =
      ap (λ n. joined n (λ p. pair_bytes (K (singles net) p) (count net.start p))) (pairs-same net ∙ sym e.well_formed.start.one_each)
      ∙ joined_ext (length net.start) (λ p. pair_bytes (K (singles net) p) (count net.start p)) (λ p. pair_bytes ∞ (count net.start p))
      (λ p h. ap (λ k. pair_bytes k (count net.start p)) (no_bound net p (omega (arith, e.well_formed.start.one_each))))
      ∙ sym (section_list (pair_bytes ∞) 0 net.start)

  -- the head, the counts, the pairs, the arc count and the arcs
  pub sheet-parts : imported_sheet net
      ≡ head_bytes One (rule_number Strong) (length_of One (singles net)) ++ (counts_bytes (pairs net) (modes net) ++ (marks_bytes net.start ++ (bytes16 (length net.arcs) ++ arcs_bytes net.arcs)))
  unfolding sheet_of section_bytes total_bytes flatten
  sheet-parts = rw (length-replicate {A = ℕ} (pairs net) 1, length-replicate {A = ℕ} (modes net) 1, ones_are (pairs net), ones_are (modes net), marks-are) (simp (append_assoc, append-nil))

  module _ (few : pairs net ≤ 64) (some : modes net ≤ 64) where
    pub size_is : length (imported_sheet net) ≡ sheet_size One (pairs net) (modes net) (pairs net) (modes net) (length net.arcs)
    size_is =
        omega (arith, sheet-size One (singles net) (by_mode (singles net) (singles-well net e few some)), length-replicate {A = ℕ} (pairs net) 1, length-replicate {A = ℕ} (modes net) 1, pairs-same net, modes-same net)

    pub length-is : length (imported_sheet net) - 4 ≡ length_of One (singles net)
    length-is = omega (arith, sheet-length One (singles net))
