-- The arcs of an accepted net in the two versions of its sheet: how many there are, where each stands, where a mode's begin.
use Prim.Native.Nat.{ℕ, zero, suc, ◌+◌, ◌*◌, ◌-◌, ◌≤◌, ◌<◌}
use mathlib.Core.Path.{◌≡◌, refl, sym, ◌∙◌, ap}
use mathlib.Core.List.{List}
use mathlib.Core.Logic.{⊎_elim}
use mathlib.Core.Option.{none}
use lib.ListN.{length}
use mir.Syntax.{w64}
use mir.Val.{Fits}
use native.Mathlib.Omega.{arith}
use Rattle.model.specs.declared.Version.{Version}
use Rattle.model.specs.declared.Version.TheVariants.{One, Two}
use Rattle.model.specs.Nets.{arc_no}
use Rattle.model.proofs.First.{below_or}
use Rattle.heads.specs.Bytes.{u16_at}
use Rattle.heads.specs.Layout.{mode_count, arc_count, arc_count_at, arcs_after, arcs_offset, arc_at, arc_size, arc_mode_at, arc_tail_at, tail_size, tail_inhibitor_at, group_arc_at, arcs_before, group_at, group_count}
use Rattle.heads.specs.Version.{version_of}
use Rattle.sheets.specs.nets.Nets.{net_refusal}
use Rattle.sheets.proofs.nets.GroupsRead.{before-next, before_more}
use Rattle.sheets.proofs.nets.Valid.{headed, arc-count-holds, arc-holds, groups_hold}
use Rattle.sheets.specs.Decoded.{net_arc_in, arcs_of, net_of}
use Rattle.sheets.proofs.Meaning.{modes-are, arcs-length, arc-at, arcs-two}
use Rattle.sheets.proofs.GroupArcs.{group_arcs-length, modes-below, modes_from_lem, arc-is}
use Rattle.sheets.proofs.Accepted.{well_formed_lem}
use Rattle.opened.specs.Shape.{arc_offset, inhibitor_by, inhibitor_offset, lead_of, stride_of, tail_at, Before}
use Rattle.opened.specs.Starts.{FirstFrom}

module _ (s : List ℕ) (base : ℕ) where
  before-up : (t m : ℕ) → arcs_before s base t ≤ arcs_before s base (t + m)
  before-up t zero = let e : t + 0 ≡ t = omega arith in rw e (omega arith)
  before-up t (suc m) = let e : t + suc m ≡ suc (t + m) = omega arith in rw e (omega (arith, before-up t m, before-next s base (t + m)))

  first-split : (t m : ℕ) → FirstFrom (arcs_of s base (t + m)) t (arcs_before s base t)
  first-split t m =
      record {
        inside = omega (arith, before-up t m, group_arcs-length s base (t + m));
        before = record { each = modes-below s base t m };
        after = λ j h l. modes_from_lem s base t m j h (omega (arith, group_arcs-length s base (t + m)));
      }

  first_group : (n t : ℕ) → t ≤ n → FirstFrom (arcs_of s base n) t (arcs_before s base t)
  first_group n t l = let e : t + (n - t) ≡ n = omega arith in rw e at (first-split t (n - t))

  -- the k-th arc, if it is one of mode t's
  group_arc : (n t k : ℕ) → t < n → arcs_before s base t ≤ k → k < arcs_before s base (t + 1)
      → arc_no (arcs_of s base n) k ≡ net_arc_in s t (base + lead_of Two t + stride_of Two * k)
  group_arc n t k l h g =
      let i = k - arcs_before s base t in
      let e : suc t + (n - suc t) ≡ n = omega arith in
      let q : arcs_before s base t + i ≡ k = omega arith in
      let at : group_arc_at (arcs_after (group_at s base t)) i ≡ base + lead_of Two t + stride_of Two * k = omega arith in
      rw (e, q, at) at (arc-is s base t (n - suc t) i (omega (arith, before_more s base t)))

module _ (s : List ℕ) (accepted : net_refusal s ≡ none) where
  module _ (one : version_of s ≡ One) where
    pub count-there : arc_count_at s + 2 ≤ length s
    count-there = omega (arith, headed s accepted, arc-count-holds s accepted one)

    one-there : (k : ℕ) → k < length (net_of s).arcs → arc_at (arcs_offset s) k + arc_size ≤ length s
    one-there k h = omega (arith, headed s accepted, arc-holds s accepted one k (rw (← arcs-length s one) h))

    one-mode : (k : ℕ) → k < length (net_of s).arcs → (arc_no (net_of s).arcs k).mode.0 ≡ u16_at s (arc_mode_at (arc_at (arcs_offset s) k))
    unfolding net_arc_in
    one-mode k h = ap (λ a. a.mode.0) (arc-at s one k (rw (← arcs-length s one) h))

  module _ (two : version_of s ≡ Two) where
    two-length : length (net_of s).arcs ≡ arcs_before s (arc_count_at s) (mode_count s)
    two-length = ap length (arcs-two s two) ∙ group_arcs-length s (arc_count_at s) (mode_count s)

    pub two-first : (t : ℕ) → t ≤ mode_count s → FirstFrom (net_of s).arcs t (arcs_before s (arc_count_at s) t)
    two-first t l = rw (arcs-two s two) (first_group s (arc_count_at s) (mode_count s) t l)

  -- the k-th arc, one of mode t's, has its 14 bytes there
  module _ (t k : ℕ) (h : k < length (net_of s).arcs) (own : (arc_no (net_of s).arcs k).mode.0 ≡ t) where
    among : t < mode_count s
    among = omega (arith, modes-are s, ((well_formed_lem s accepted).each_arc k h).mode)

    module _ (two : version_of s ≡ Two) where
      not_before : arcs_before s (arc_count_at s) t ≤ k
      not_before =
          ⊎_elim (λ (b : k < arcs_before s (arc_count_at s) t). absurd (omega (arith, (two-first two t (omega (arith, among))).before.each k b)))
          (λ (b : arcs_before s (arc_count_at s) t ≤ k). b) (below_or k (arcs_before s (arc_count_at s) t))

      not_after : k < arcs_before s (arc_count_at s) (t + 1)
      not_after =
          ⊎_elim (λ (b : k < arcs_before s (arc_count_at s) (t + 1)). b)
          (λ (b : arcs_before s (arc_count_at s) (t + 1) ≤ k). absurd (omega (arith, (two-first two (t + 1) (omega (arith, among))).after k b h)))
          (below_or k (arcs_before s (arc_count_at s) (t + 1)))

      two-there : arc_count_at s + lead_of Two t + stride_of Two * k + tail_size ≤ length s
      two-there =
          let base = arc_count_at s in
          let i = k - arcs_before s base t in
          let i<n : i < group_count s base t = omega (arith, not_before, not_after, before_more s base t) in
          omega (arith, not_before, headed s accepted, ((groups_hold s accepted two t among).arcs i i<n).there)

    arc-by : (v : Version) → version_of s ≡ v → net_arc_in s t (arc_count_at s + lead_of v t + stride_of v * k) ≡ arc_no (net_of s).arcs k
    arc-by One v =
        let at : arc_count_at s + lead_of One t + stride_of One * k ≡ arc_tail_at (arc_at (arcs_offset s) k) = omega arith in
        let mode : t ≡ u16_at s (arc_mode_at (arc_at (arcs_offset s) k)) = sym own ∙ one-mode v k h in
        ap (net_arc_in s t) at ∙ ap (λ m. net_arc_in s m (arc_tail_at (arc_at (arcs_offset s) k))) mode ∙ sym (arc-at s v k (rw (← arcs-length s v) h))
    arc-by Two v =
        sym (ap (λ arcs. arc_no arcs k) (arcs-two s v) ∙ group_arc s (arc_count_at s) (mode_count s) t k among (not_before v) (not_after v))

    there-by : (v : Version) → version_of s ≡ v → arc_count_at s + lead_of v t + stride_of v * k + tail_size ≤ length s
    there-by One v = omega (arith, one-there v k h)
    there-by Two v = two-there v

    pub tail-arc : net_arc_in s t (tail_at s t k) ≡ arc_no (net_of s).arcs k
    unfolding tail_at
    tail-arc = arc-by (version_of s) refl

    pub tail-there : tail_at s t k + tail_size ≤ length s
    unfolding tail_at
    tail-there = there-by (version_of s) refl

    -- its first byte: its mode's, 2 bytes before, or the first of the 14
    pub offset-one : version_of s ≡ One → tail_at s t k ≡ arc_offset s k + 2
    unfolding tail_at arc_offset
    offset-one v = rw v (omega arith)

    pub offset-two : version_of s ≡ Two → tail_at s t k ≡ arc_offset s k
    unfolding tail_at arc_offset
    offset-two v = rw (v, own) (omega arith)

    -- its I, after the 10 bytes of its pair, Pre and Post
    pub inhibitor-there : tail_inhibitor_at (tail_at s t k) ≡ inhibitor_offset s k
    unfolding inhibitor_offset
    inhibitor-there = go (version_of s) refl
      where
        go : (v : Version) → version_of s ≡ v → tail_inhibitor_at (tail_at s t k) ≡ inhibitor_by v (arc_offset s k)
        go One e = omega (arith, offset-one e)
        go Two e = omega (arith, offset-two e)

  -- version 1: the mode of an arc, in its first field
  module _ (one : version_of s ≡ One) (k : ℕ) (h : k < length (net_of s).arcs) where
    pub mode-there : arc_count_at s + 2 + 16 * k + 2 ≤ length s
    mode-there = omega (arith, one-there one k h)

    pub mode-read : u16_at s (arc_count_at s + 2 + 16 * k) ≡ (arc_no (net_of s).arcs k).mode.0
    mode-read = sym (one-mode one k h)

-- version 2: the arcs of the next mode begin after those of this one
module _ {s : List ℕ} {base t k : ℕ} (b : Before s base t k) where
  pub before-first : t ≤ mode_count s → FirstFrom (net_of s).arcs t k
  before-first l = rw (b.many, b.place) (two-first s b.accepted b.version t l)

  module _ (l : t < mode_count s) where
    pub group_there : base + 2 * t + 14 * k + 2 ≤ length s
    group_there =
        let there = (groups_hold s b.accepted b.version t l).there in
        rw (b.many, b.place) (omega (arith, headed s b.accepted, there))

    pub group_small : k + u16_at s (base + 2 * t + 14 * k) ≤ 2048
    group_small = rw (b.many, b.place) (groups_hold s b.accepted b.version t l).in_total

    pub group_next : {n : ℕ} → n ≡ k + u16_at s (base + 2 * t + 14 * k) → Before s base (t + 1) n
    group_next e =
        record {
          accepted = b.accepted;
          version = b.version;
          place = b.place;
          many = e ∙ rw b.many (sym (before_more s base t));
        }

-- the sum of the three numbers, and that it fits
pub tail-is : (s : List ℕ) (t k : ℕ) {base before step : ℕ} → base ≡ arc_count_at s → before ≡ lead_of (version_of s) t → step ≡ stride_of (version_of s)
    → base + before + step * k ≡ tail_at s t k
unfolding tail_at
tail-is s t k e f g = rw (e, f, g)

pub steps-small : {step : ℕ} (v : Version) (k : ℕ) → step ≡ stride_of v → k ≤ 2048 → step * k ≤ 32768
steps-small One k e h = rw e (omega arith)
steps-small Two k e h = rw e (omega arith)

pub fits : {x : ℕ} → x ≤ 32768 → Fits w64 x
fits h = omega arith

pub sum_fits : {base before x : ℕ} → base ≤ 4000 → before ≤ 131074 → x ≤ 32768 → Fits w64 (base + before + x)
sum_fits h l m = omega arith

pub count-one : (s : List ℕ) → version_of s ≡ One → length (net_of s).arcs ≡ u16_at s (arc_count_at s)
unfolding arc_count
count-one s one = arcs-length s one

pub count-two : {s : List ℕ} {base n k : ℕ} → Before s base n k → n ≡ mode_count s → k ≡ length (net_of s).arcs
count-two {s} b e = b.many ∙ rw (b.place, e) (sym (two-length s b.accepted b.version))
