-- A text is its opening, at most 256 places of at most 85 bytes, at most 256 transitions of 30, at most 2,048 arcs of at most 107 twice, and its closing.
use Prim.Native.Nat.{ℕ, zero, suc, ◌+◌, ◌*◌, ◌≤◌, ◌<◌}
use mathlib.Core.Path.{◌≡◌, refl, sym, ◌∙◌, ap}
use mathlib.Core.List.{List, [], ◌++◌, flat_map}
use mathlib.Core.Option.{none}
use lib.ListN.{length, length-append}
use native.Mathlib.Nat.{mul-suc}
use native.Mathlib.Omega.{arith}
use borrow.Author.Tests.{ltb-false}
use Rattle.model.specs.declared.Version.{Version}
use Rattle.model.specs.declared.Version.TheVariants.{One, Two}
use Rattle.model.specs.Lists.{table, joined}
use Rattle.model.specs.Numbers.{∞, limit}
use Rattle.model.specs.Nets.{NetArc, PNet, pairs, modes, K, count, arc_no}
use Rattle.model.specs.WellFormed.{WellFormed}
use Rattle.model.proofs.First.{left-none, right-none, only_if_none}
use Rattle.model.proofs.Tables.{table-length, table_at}
use Rattle.heads.specs.Layout.{sheet_end}
use Rattle.heads.specs.Version.{version_of}
use Rattle.sheets.specs.nets.Nets.{net_refusal}
use Rattle.sheets.specs.Whole.{bytes_after, whole_net}
use Rattle.sheets.specs.Decoded.{net_of}
use Rattle.sheets.proofs.Accepted as sheets
use Rattle.text.specs.Decimals.{decimal}
use Rattle.text.proofs.Decimals.{length_above}
use Rattle.sheets.specs.written.Written.{of_mode}
use Rattle.sheets.specs.written.Puts.{sheet_size}
use Rattle.sheets.proofs.written.ByMode.{by_mode}
use Rattle.sentences.proofs.Largest.{largest-sheet}
use Rattle.sheets.proofs.written.NetStands.{ends_of}
use Rattle.sheets.proofs.written.RoundTrip.{fields-end}
use Rattle.sheets.proofs.written.Sections.{section_joined, section_list}
use Rattle.sheets.proofs.written.SheetLength.{sheet-length, sheet-size}
use Rattle.pnml.specs.Pnml.{opening, closing, place_text, arc_text, mode_text, body, pnml, Exportable}
use Rattle.export.specs.elements.Sizes.{place_size, weight_size}
use Rattle.export.proofs.elements.Lengths.{place-length, place-most, weight-some, weight-most}
use Rattle.export.specs.texts.Parts.{place_of, arc_no_text}
use Rattle.export.proofs.texts.Texts.{arc-long, mode-long, closing-length}
use Rattle.sentences.specs.more.LongestText.{LongestText}

opening-length : length opening ≡ 187
unfolding opening
opening-length = refl

joined-most : {B : Type 0} (size : ℕ) (f : ℕ → List B) (n : ℕ) → ((i : ℕ) → i < n → length (f i) ≤ size) → length (joined n f) ≤ size * n
unfolding joined
joined-most size f zero h = omega arith
joined-most size f (suc n) h = rw (mul-suc, length-append) (omega (arith, h n (omega arith), joined-most size f n (λ i l. h i (omega arith))))

joined-least : {B : Type 0} (size : ℕ) (f : ℕ → List B) (n : ℕ) → ((i : ℕ) → i < n → size ≤ length (f i)) → size * n ≤ length (joined n f)
unfolding joined
joined-least size f zero h = omega arith
joined-least size f (suc n) h = rw (mul-suc, length-append) (omega (arith, h n (omega arith), joined-least size f n (λ i l. h i (omega arith))))

modes-long : (arcs : List NetArc) (n : ℕ) → length (joined n (mode_text arcs)) ≡ 30 * n + length (joined n (λ t. flat_map arc_text (of_mode arcs t)))
unfolding joined
modes-long arcs zero = refl
modes-long arcs (suc n) = simp length-append (omega (arith, mode-long arcs n, modes-long arcs n))

module _ (net : PNet) (well : WellFormed net) where
  -- the arcs of all modes are the net's
  arcs-are : joined (modes net) (λ t. flat_map arc_text (of_mode net.arcs t)) ≡ joined (length net.arcs) (arc_no_text net)
  arcs-are =
      sym (section_joined arc_text (modes net) (of_mode net.arcs)) ∙ ap (flat_map arc_text) (by_mode net well).is ∙ section_list arc_text (arc_no [] 0) net.arcs

  text-long : length (pnml net) ≡ 216 + length (joined (pairs net) (place_of net)) + 30 * modes net + length (joined (length net.arcs) (arc_no_text net))
  unfolding pnml body
  text-long =
      let places = joined (pairs net) (place_of net) in
      let transitions = joined (modes net) (mode_text net.arcs) in
      omega (
        arith,
        opening-length,
        closing-length,
        length-append opening ((places ++ transitions) ++ closing),
        length-append (places ++ transitions) closing,
        length-append places transitions,
        modes-long net.arcs (modes net),
        ap length arcs-are,
      )

  places-most : length (joined (pairs net) (place_of net)) ≤ 85 * pairs net
  places-most =
      joined-most 85 (place_of net) (pairs net)
      (λ p h. omega (arith, place-length p (count net.start p), place-most (count net.start p) (well.start.in_range p h)))

  arcs-most : length (joined (length net.arcs) (arc_no_text net)) ≤ 214 * length net.arcs
  arcs-most =
      joined-most 214 (arc_no_text net) (length net.arcs)
      (λ k h.
      let a = arc_no net.arcs k in
      let own = well.each_arc k h in
      omega (arith, arc-long a, weight-most a.entry.pre own.pre, weight-most a.entry.post own.post))

text-most : (net : PNet) → WellFormed net → length (pnml net) ≤ 467928
text-most net well =
    omega (arith, text-long net well, places-most net well, arcs-most net well, well.places.in_total, well.transitions.in_total, well.arc_count)

-- A net with as many pairs, modes and arcs as any: the largest sheet of version 2 has them.
at-limits : (v : Version) (places transitions pairs modes arcs : ℕ) → v ≡ Two → places ≤ 64 → transitions ≤ 64 → pairs ≤ 256 → modes ≤ 256 → arcs ≤ 2048
    → 31498 ≤ sheet_size v places transitions pairs modes arcs → (256 ≤ pairs) × (256 ≤ modes) × (2048 ≤ arcs)
at-limits One places transitions pairs modes arcs e a b c d f h = let z : ◌≡◌ {A = ℕ} 0 1 = cc in absurd (omega arith)
at-limits Two places transitions pairs modes arcs e a b c d f h = (omega arith, omega arith, omega arith)

record AtLimits (net : PNet) : Type 0 where
  well : WellFormed net
  many : (256 ≤ pairs net) × (256 ≤ modes net) × (2048 ≤ length net.arcs)

limits : (s : List ℕ) → version_of s ≡ Two → whole_net s ≡ none → length s ≡ 31498 → AtLimits (net_of s)
unfolding whole_net bytes_after
limits s v e l =
    let accepted : net_refusal s ≡ none = left-none _ _ e in
    let net = net_of s in
    let w = sheets.well_formed_lem s accepted in
    let after : length s ≤ sheet_end s = ltb-false _ _ (only_if_none _ _ (right-none _ _ e)) in
    record {
      well = w;
      many =
          at-limits (version_of s) (length net.colours) (length net.modes_of) (pairs net) (modes net) (length net.arcs) v w.places.many w.transitions.many w.places.in_total w.transitions.in_total w.arc_count
          (omega (arith, fields-end s accepted, ends_of s w, sheet-length (version_of s) net, sheet-size (version_of s) net (by_mode net w)));
    }

-- Every number of it made the largest.
full : NetArc → NetArc
full a = record { mode = a.mode; pair = a.pair; entry = record { pre = limit; post = limit; inhibitor = ∞ } }

abbrev full_arc : PNet → ℕ → NetArc
full_arc net k = full (arc_no net.arcs k)

filled : PNet → PNet
filled net =
    record {
      rule = net.rule;
      colours = net.colours;
      modes_of = net.modes_of;
      capacity = table (pairs net) (λ p. ∞);
      start = table (pairs net) (λ p. limit);
      arcs = table (length net.arcs) (full_arc net);
    }

module _ (net : PNet) where
  arcs-long : length (filled net).arcs ≡ length net.arcs
  unfolding filled
  arcs-long = table-length (length net.arcs) (full_arc net)

  arc-at : (k : ℕ) → k < length (filled net).arcs → arc_no (filled net).arcs k ≡ full_arc net k
  unfolding filled
  arc-at k h = table_at (length net.arcs) (full_arc net) (arc_no [] 0) k (omega (arith, arcs-long))

  capacity-at : (p : ℕ) → p < pairs net → K (filled net) p ≡ ∞
  unfolding filled
  capacity-at p h = table_at (pairs net) (λ p. ∞) ∞ p h

  start-at : (p : ℕ) → p < pairs net → count (filled net).start p ≡ limit
  unfolding filled
  start-at p h = table_at (pairs net) (λ p. limit) 0 p h

  filled-well : WellFormed net → WellFormed (filled net)
  unfolding filled full
  filled-well well =
      record {
        some_place = well.some_place;
        places = well.places;
        transitions = well.transitions;
        capacities = table-length (pairs net) (λ p. ∞);
        capacity_in_range = λ p h. rw (capacity-at p h) tt;
        start =
            record {
              one_each = table-length (pairs net) (λ p. limit);
              in_range = λ p h. omega (arith, start-at p h);
              within = λ p h. rw (capacity-at p h) tt;
            };
        arc_count = omega (arith, arcs-long, well.arc_count);
        each_arc = λ k h.
            let own = well.each_arc k (omega (arith, arcs-long)) in
            rw (arc-at k h)
            (record { mode = own.mode; pair = own.pair; pre = omega arith; post = omega arith; inhibitor = tt; not_blank = λ b. omega (arith, b.pre) });
        rising = λ k h. rw (arc-at k (omega arith), arc-at (k + 1) h) (well.rising k (omega (arith, arcs-long)));
      }

  filled-exportable : WellFormed net → Exportable (filled net)
  unfolding filled full
  filled-exportable well = record { well_formed = filled-well well; capacities = capacity-at; inhibitors = λ k h. rw (arc-at k h) refl }

seven : 7 ≤ length (decimal limit)
seven = length_above limit 6 (omega arith)

weight-full : 107 ≤ weight_size limit
weight-full = omega (arith, weight-some limit (λ e. omega arith), seven)

filled-long : (net : PNet) → AtLimits net → 467928 ≤ length (pnml (filled net))
unfolding filled full place_size
filled-long net at =
    let f = filled net in
    let places =
    joined-least 85 (place_of f) (pairs f)
    (λ p h. let e = start-at net p h in omega (arith, ap (λ n. length (place_text p n)) e, place-length p limit, seven)) in
    let arcs =
    joined-least 214 (arc_no_text f) (length f.arcs)
    (λ k h. omega (arith, ap (λ a. length (arc_text a)) (arc-at net k h), arc-long (full_arc net k), weight-full)) in
    omega (arith, text-long f (filled-well net at.well), places, arcs, arcs-long net, at.many)

pub longest-text : LongestText
longest-text =
    let r = largest-sheet.reached Two in
    let at = limits r.0 r.2 r.3 r.4 in
    let x = filled-exportable (net_of r.0) at.well in
    record {
      most = λ net e. text-most net e.well_formed;
      reached = (filled (net_of r.0), x, omega (arith, filled-long (net_of r.0) at, text-most (filled (net_of r.0)) x.well_formed));
    }
