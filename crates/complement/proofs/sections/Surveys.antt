-- A survey on its way: what is known of the arcs of the modes below t, wherever the arcs of t start, and of the first i arcs of a mode.
use Prim.Native.Nat.{ℕ, ◌+◌, ◌≤◌, ◌<◌}
use mathlib.Core.Path.{◌≡◌, refl, sym, ◌∙◌, ap, ap₂}
use mathlib.Core.Bool.{Bool, true, false, ◌&&◌, ◌||◌}
use mathlib.Core.List.{List}
use lib.ListN.{length}
use native.Mathlib.Omega.{arith}
use Rattle.model.specs.declared.Mode.{Mode}
use Rattle.model.specs.Nets.{PNet, modes, mode_no}
use Rattle.model.specs.WellFormed.{WellFormed}
use Rattle.second_form.specs.Dead.{found, is_dead}
use Rattle.second_form.proofs.Dead.{arc_kills, Passed}
use Rattle.sheets.specs.Decoded.{net_of}
use Rattle.opened.specs.declared.shape.NetShape.{NetShape}
use Rattle.opened.specs.declared.starts.Segment.{Segment}
use Rattle.opened.specs.Shape.{Open}
use Rattle.opened.specs.Starts.{FirstFrom, ModeArcs, SegmentOf}
use Rattle.opened.proofs.Segments.{first-arc, first_ends, first-same}
use Rattle.opened.proofs.dead.Searches.{passed-more, none-kills, one-kills}
use Rattle.complement.specs.sections.Arcs.{clear_at, every}
use Rattle.complement.proofs.sections.Every.{every-none, every-split}

abbrev pub ClearBelow : PNet → ℕ → Bool → Type 0
ClearBelow net t clear = (k : ℕ) → FirstFrom net.arcs t k → clear ≡ every k (clear_at net)

module _ (net : PNet) where
  pub clear_none : ClearBelow net 0 true
  clear_none k f = rw (first-same net.arcs 0 k 0 f (first-arc net.arcs)) (every-none (clear_at net))

  pub clear_more : (t : ℕ) {clear here next : Bool} {segment : Segment} → ClearBelow net t clear → SegmentOf net.arcs (mode_no t) segment
      → here ≡ every segment.count (λ i. clear_at net (segment.start + i)) → next ≡ clear && here → ClearBelow net (t + 1) next
  clear_more t {segment = segment} before is e q k f =
      let end : k ≡ segment.start + segment.count = first-same net.arcs (t + 1) k (segment.start + segment.count) f is.ends in
      rw end (q ∙ ap₂ ◌&&◌ (before segment.start is.starts) e ∙ sym (every-split (clear_at net) segment.start segment.count))

  pub clear_all : WellFormed net → (t : ℕ) {clear : Bool} → modes net ≤ t → ClearBelow net t clear → clear ≡ every (length net.arcs) (clear_at net)
  clear_all well t h below = below _ (first_ends net.arcs t (length net.arcs) refl (record { each = λ k l. omega (arith, (well.each_arc k l).mode) }))

-- a search over all arcs of a mode for one that makes it dead
abbrev pub Searched : PNet → Mode → ℕ → ℕ → Bool → Type 0
Searched net t start i dead = (dead ≡ true → is_dead net t ≡ true) × (dead ≡ false → Passed net start (start + i))

module _ {s : List ℕ} {net : NetShape} (o : Open s net) (t : Mode) (start count : ℕ) (arcs : ModeArcs (net_of s).arcs t start count) where
  pub searched_none : Searched (net_of s) t start 0 false
  searched_none = (λ e. let z : ◌≡◌ {A = ℕ} 0 1 = cc in absurd (omega arith), λ e k h l. absurd (omega arith))

  pub searched_more : (i : ℕ) (dead here : Bool) {next : Bool} → i < count → Searched (net_of s) t start i dead → here ≡ arc_kills (net_of s) (start + i)
      → next ≡ dead || here → Searched (net_of s) t start (i + 1) next
  unfolding is_dead
  searched_more i true here l so_far e q = (λ _. so_far.0 refl, λ n. let z : ◌≡◌ {A = ℕ} 0 1 = cc in absurd (omega arith))
  searched_more i false true l so_far e q = (
    λ _. ap found (one-kills o t start count arcs (start + i) (omega arith) (omega arith) (so_far.1 refl) (sym e)),
    λ n. let z : ◌≡◌ {A = ℕ} 0 1 = cc in absurd (omega arith),
  )
  searched_more i false false l so_far e q = (
    λ n. let z : ◌≡◌ {A = ℕ} 0 1 = cc in absurd (omega arith),
    λ _. passed-more (net_of s) start i (so_far.1 refl) (sym e),
  )

  pub none-dead : Passed (net_of s) start (start + count) → false ≡ is_dead (net_of s) t
  unfolding is_dead
  none-dead passed = sym (ap found (none-kills o t start count arcs passed))

  pub searched_all : (dead : Bool) → Searched (net_of s) t start count dead → dead ≡ is_dead (net_of s) t
  searched_all true so_far = sym (so_far.0 refl)
  searched_all false so_far = none-dead (so_far.1 refl)
