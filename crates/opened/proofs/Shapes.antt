-- What a look into an accepted net sheet finds, where the sheet's shape says that it stands.
use Prim.Native.Nat.{ℕ, ◌+◌, ◌*◌, ◌≤◌, ◌<◌}
use mathlib.Core.Path.{◌≡◌, sym, ◌∙◌, ap}
use mathlib.Core.List.{List}
use lib.ListN.{length, get_or}
use native.Mathlib.Omega.{arith}
use Rattle.model.specs.declared.Arc.{Arc}
use Rattle.model.specs.Numbers.{limit}
use Rattle.model.specs.declared.Version.TheVariants.{Two}
use Rattle.model.specs.Nets.{pairs, modes, K, count, arc_no, mode_no, pair_no}
use Rattle.model.specs.WellFormed.{ArcOf, Counted, WellFormed}
use Rattle.opened.specs.declared.shape.NetShape.{NetShape}
use Rattle.heads.specs.Bytes.{u16_at, u32_at}
use Rattle.heads.specs.Layout.{colours_at, modes_at, counts, place_count, transition_count, pair_count, mode_count, pairs_offset, arc_count_at, arcs_before, count_at, pair_at, tail_size, tail_pair_at, tail_pre_at, tail_post_at, tail_inhibitor_at, capacity_at, start_at}
use Rattle.heads.specs.Version.{version_of}
use Rattle.fields.specs.Numbers.{bound}
use Rattle.sheets.specs.Decoded.{net_arc_in, net_of, net_arc}
use Rattle.opened.specs.Shape.{shape_of, Open, ArcIs, tail_at, Before}
use Rattle.opened.specs.Starts.{FirstFrom}
use Rattle.heads.proofs.Heads.{fields-at-most}
use Rattle.sheets.proofs.nets.Valid.{headed, counts_hold, colours_hold, modes_hold, start-holds}
use Rattle.sheets.proofs.Meaning.{counts-length, counts-at, colours-are, modes-of-are, pairs-are, modes-are, capacity-at, start-at}
use Rattle.sheets.proofs.Accepted.{well_formed_lem}
use Rattle.opened.proofs.Versions.{two-first, tail-arc, tail-there}
use Rattle.opened.proofs.Segments.{first-same}

-- each part of a shape is what the layout says
pub record Shaped (s : List ℕ) (net : NetShape) : Type 0 where
  pub version : net.version ≡ version_of s
  pub rule : net.rule ≡ (net_of s).rule
  pub places : net.places ≡ place_count s
  pub transitions : net.transitions ≡ transition_count s
  pub pairs : net.pairs ≡ pair_count s
  pub modes : net.modes ≡ mode_count s
  pub arcs : net.arcs ≡ length (net_of s).arcs
  pub pairs_offset : net.pairs_at ≡ pairs_offset s
  pub arcs_offset : net.arcs_at ≡ arc_count_at s

-- the net that an open sheet means is well formed, and as large as its shape says
pub record Sizes (s : List ℕ) (net : NetShape) : Type 0 where
  pub places : net.places ≡ length (net_of s).colours
  pub transitions : net.transitions ≡ length (net_of s).modes_of
  pub pairs : net.pairs ≡ pairs (net_of s)
  pub modes : net.modes ≡ modes (net_of s)
  pub arcs : net.arcs ≡ length (net_of s).arcs
  pub pairs_within : net.pairs ≤ 256
  pub modes_within : net.modes ≤ 256
  pub arcs_within : net.arcs ≤ 2048
  pub well_formed : WellFormed (net_of s)

pub shape_is : {s : List ℕ} {net : NetShape} → Shaped s net → net ≡ shape_of s
unfolding shape_of
shape_is z =
    λ i.
    record {
      version = z.version i;
      rule = z.rule i;
      places = z.places i;
      transitions = z.transitions i;
      pairs = z.pairs i;
      modes = z.modes i;
      arcs = z.arcs i;
      pairs_at = z.pairs_offset i;
      arcs_at = z.arcs_offset i;
    }

-- one of a net's counts, from where it stands
count-read : (s : List ℕ) (start n : ℕ) {xs : List ℕ} → xs ≡ counts s start n → Counted xs → (i r : ℕ) → i < n → r ≡ u16_at s (count_at start i)
    → (r ≡ get_or xs i 0) × (1 ≤ r) × (r ≤ 64)
count-read s start n {xs} are counted i r h e =
    let is : r ≡ get_or xs i 0 = e ∙ sym (rw are (counts-at s start n i h)) in
    let limits = counted.each i (omega (arith, ap length are, counts-length s start n)) in
    (is, omega arith, omega arith)

module _ {s : List ℕ} {net : NetShape} (o : Open s net) where
  pub shaped : Shaped s net
  unfolding shape_of
  shaped =
      record {
        version = ap (λ n. n.version) o.shape;
        rule = ap (λ n. n.rule) o.shape;
        places = ap (λ n. n.places) o.shape;
        transitions = ap (λ n. n.transitions) o.shape;
        pairs = ap (λ n. n.pairs) o.shape;
        modes = ap (λ n. n.modes) o.shape;
        arcs = ap (λ n. n.arcs) o.shape;
        pairs_offset = ap (λ n. n.pairs_at) o.shape;
        arcs_offset = ap (λ n. n.arcs_at) o.shape;
      }

  pub sizes : Sizes s net
  sizes =
      record {
        places = shaped.places ∙ sym (ap length (colours-are s) ∙ counts-length s _ _);
        transitions = shaped.transitions ∙ sym (ap length (modes-of-are s) ∙ counts-length s _ _);
        pairs = shaped.pairs ∙ sym (pairs-are s);
        modes = shaped.modes ∙ sym (modes-are s);
        arcs = shaped.arcs;
        pairs_within = rw shaped.pairs (counts_hold s o.accepted).pairs;
        modes_within = rw shaped.modes (counts_hold s o.accepted).modes;
        arcs_within = rw shaped.arcs (well_formed_lem s o.accepted).arc_count;
        well_formed = well_formed_lem s o.accepted;
      }

  -- a place, a transition and a pair that the shape counts are in the sheet
  pub place-there : (i : ℕ) → i < net.places → colours_at s + 2 * i + 2 ≤ length s
  place-there i h = omega (arith, shaped, headed s o.accepted, colours_hold s o.accepted i (rw (← shaped.places) h))

  pub transition-there : (i : ℕ) → i < net.transitions → colours_at s + 2 * net.places + 2 * i + 2 ≤ length s
  transition-there i h =
      omega (arith, shaped, headed s o.accepted, modes_hold s o.accepted i (rw (← shaped.transitions) h))

  pub pair-there : (p : ℕ) → p < net.pairs → pair_at (pairs_offset s) p + 8 ≤ length s
  pair-there p h = omega (arith, headed s o.accepted, start-holds s o.accepted p (rw (← shaped.pairs) h))

  pub arcs-at-most : net.arcs_at ≤ 4000
  arcs-at-most =
      let c = counts_hold s o.accepted in
      omega (arith, shaped, fields-at-most s, c.pairs, c.sized.places, c.sized.transitions)

  -- in version 2 the first arc of mode t stands after those of the modes below
  pub group_before : {t k : ℕ} → net.version ≡ Two → t ≤ net.modes → FirstFrom (net_of s).arcs t k → Before s net.arcs_at t k
  group_before {t} {k} e l first =
      let two = sym shaped.version ∙ e in
      let many : k ≡ arcs_before s (arc_count_at s) t = first-same _ t k _ first (two-first s o.accepted two t (omega (arith, shaped.modes))) in
      record { accepted = o.accepted; version = two; place = shaped.arcs_offset; many = rw shaped.arcs_offset many }

  -- and what stands there is what the net has
  pub colours-read : (i r : ℕ) → i < net.places → r ≡ u16_at s (colours_at s + 2 * i) → (r ≡ get_or (net_of s).colours i 0) × (1 ≤ r) × (r ≤ 64)
  colours-read i r h e = count-read s _ _ (colours-are s) sizes.well_formed.places i r (rw (← shaped.places) h) e

  pub modes-read : (i r : ℕ) → i < net.transitions → r ≡ u16_at s (colours_at s + 2 * net.places + 2 * i)
      → (r ≡ get_or (net_of s).modes_of i 0) × (1 ≤ r) × (r ≤ 64)
  modes-read i r h e =
      let q : colours_at s + 2 * net.places ≡ modes_at s = omega (arith, shaped) in
      count-read s _ _ (modes-of-are s) sizes.well_formed.transitions i r (rw (← shaped.transitions) h) (rw q at e)

  pub capacity-read : (p : ℕ) → p < net.pairs → bound (u32_at s (capacity_at (pair_at (pairs_offset s) p))) ≡ K (net_of s) p
  capacity-read p h = sym (capacity-at s p (rw (← shaped.pairs) h))

  pub start-read : (p r : ℕ) → p < net.pairs → r ≡ u32_at s (start_at (pair_at (pairs_offset s) p)) → (r ≡ count (net_of s).start p) × (r ≤ limit)
  start-read p r h e =
      let is : r ≡ count (net_of s).start p = e ∙ sym (start-at s p (rw (← shaped.pairs) h)) in
      (is, rw is (sizes.well_formed.start.in_range p (rw (← sizes.pairs) h)))

  -- the k-th arc is one of mode t's
  module _ (t k : ℕ) (h : k < length (net_of s).arcs) (own : (arc_no (net_of s).arcs k).mode.0 ≡ t) where
    pub arc-there : tail_at s t k + tail_size ≤ length s
    arc-there = tail-there s o.accepted t k h own

    -- fewer than 256 pairs: an arc's is in its second byte
    pub arc-small : u16_at s (tail_pair_at (tail_at s t k)) < 256
    unfolding net_arc_in
    arc-small =
        let is = tail-arc s o.accepted t k h own in
        let w = sizes.well_formed.each_arc k h in
        let z = sizes in
        omega (arith, ap (λ a. a.pair.0) is)

    pub arc-read : (a : Arc) → net_arc a ≡ net_arc_in s t (tail_at s t k) → ArcIs s net k a
    arc-read a e =
        let is : net_arc a ≡ arc_no (net_of s).arcs k = e ∙ tail-arc s o.accepted t k h own in
        let w : ArcOf (net_of s) (net_arc a) = rw is (sizes.well_formed.each_arc k h) in
        let z = sizes in
        record { is = is; mode = omega arith; pair = omega arith; pre = w.pre; post = w.post; inhibitor = w.inhibitor }

    -- each field read where the arc's 14 bytes stand
    pub fields_read : {a : Arc} {at : ℕ} → at ≡ tail_at s t k → a.mode.0 ≡ t → a.pair.0 ≡ u16_at s (tail_pair_at at)
        → a.pre ≡ u32_at s (tail_pre_at at) → a.post ≡ u32_at s (tail_post_at at) → a.inhibitor ≡ u32_at s (tail_inhibitor_at at) → ArcIs s net k a
    unfolding net_arc_in
    fields_read {a} {at} stands mode pair pre post inhibitor =
        let read : net_arc a ≡ net_arc_in s t at =
        λ i. record { mode = mode_no (mode i); pair = pair_no (pair i); entry = record { pre = pre i; post = post i; inhibitor = bound (inhibitor i) } } in
        arc-read a (read ∙ ap (net_arc_in s t) stands)
