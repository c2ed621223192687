-- The complement's arcs of a mode are what the mode's arcs become: the originals, then those on complement pairs.
use Prim.Native.Nat.{ℕ, zero, suc, ◌+◌, ◌*◌, ◌≤◌}
use mathlib.Core.Path.{◌≡◌, refl, sym, ◌∙◌, ap, ap₂}
use mathlib.Core.Bool.{Bool, true, false, not}
use mathlib.Core.List.{List, [], ◌∷◌, ◌++◌, flat_map}
use lib.ListN.{length, get_or, length-append}
use native.Mathlib.Omega.{arith}
use Rattle.model.specs.declared.Version.{Version}
use Rattle.model.specs.declared.Mode.{Mode}
use Rattle.model.specs.Nets.{NetArc, PNet, pairs, modes, pair_no, mode_no, K, row}
use Rattle.model.specs.WellFormed.{WellFormed}
use Rattle.second_form.specs.Dead.{is_dead}
use Rattle.second_form.specs.Complement.{blank, arcs_of, complement}
use Rattle.model.specs.Lists.{joined, list_if}
use Rattle.movement.proofs.Joined.{joined_ext}
use Rattle.both_forms.proofs.ArcByArc.{arcs_of_mode, mode-by-arcs}
use Rattle.opened.specs.declared.shape.NetShape.{NetShape}
use Rattle.sheets.specs.Decoded.{net_of}
use Rattle.opened.specs.Shape.{Open}
use Rattle.opened.specs.Starts.{ModeArcs}
use Rattle.sheets.specs.written.Written.{arc_bytes}
use Rattle.sheets.proofs.written.Sections.{section_append, section_joined}
use Rattle.opened.proofs.Shapes.{sizes}
use Rattle.opened.proofs.Segments.{mode_lists}
use Rattle.halves.specs.declared.half.Half.{Half}
use Rattle.halves.specs.declared.half.Half.TheVariants.{Original, Complement}
use Rattle.complement.specs.sections.Arcs.{kept, half_arc, half_bytes, row_arcs}

-- the two halves, in order
abbrev pub half_no : ℕ → Half
half_no h = get_or (Original ∷ Complement ∷ []) h Original

module _ (net : PNet) where
  abbrev pub kept_half : Half → ℕ → List NetArc
  kept_half half k = kept (half_arc net half k)

  module _ (wf : WellFormed net) (t start count : ℕ) (arcs : ModeArcs net.arcs (mode_no t) start count) where
    row_halves : row_arcs net t ≡ joined count (λ i. kept_half Original (start + i)) ++ joined count (λ i. kept_half Complement (start + i))
    unfolding row_arcs arcs_of_mode
    row_halves =
        mode-by-arcs (mode_no t) net.rule (is_dead net (mode_no t)) (pairs net) (K net) (row net (mode_no t)) count _ (mode_lists net wf (mode_no t) start count arcs)
        ∙ ap₂ (λ xs ys. xs ++ ys) (joined_ext count _ _ (λ i h. rw (← arcs.own i h))) (joined_ext count _ _ (λ i h. rw (← arcs.own i h)))

    row_bytes_lem : (v : Version) → flat_map (arc_bytes v) (row_arcs net t) ≡ joined 2 (λ h. joined count (half_bytes net v (half_no h) start))
    unfolding joined
    row_bytes_lem v =
        ap (flat_map (arc_bytes v)) row_halves
        ∙ section_append (arc_bytes v) (joined count (λ i. kept_half Original (start + i))) _
        ∙ ap₂ (λ xs ys. xs ++ ys) (section_joined (arc_bytes v) count _) (section_joined (arc_bytes v) count _)

  -- How many there are, counted arc by arc.
  abbrev pub both_halves : ℕ → List NetArc
  both_halves k = kept_half Original k ++ kept_half Complement k

both-length : {A : Type 0} (n : ℕ) (f g : ℕ → List A) → length (joined n (λ i. f i ++ g i)) ≡ length (joined n f ++ joined n g)
unfolding joined
both-length zero f g = refl
both-length (suc n) f g = simp length-append (omega (arith, both-length n f g, length-append (joined n f) (joined n g)))

pub joined-few : {A : Type 0} (n : ℕ) (f : ℕ → List A) → ((i : ℕ) → length (f i) ≤ 1) → length (joined n f) ≤ n
unfolding joined
joined-few zero f h = omega arith
joined-few (suc n) f h = omega (arith, length-append (joined n f) (f n), h n, joined-few n f h)

pub one_if : {A : Type 0} (b : Bool) (a : A) → length (list_if b a) ≤ 1
one_if true a = omega arith
one_if false a = omega arith

kept-few : (a : NetArc) → length (kept a) ≤ 1
kept-few a = one_if (not (blank a.entry)) (record { mode = a.mode; pair = pair_no a.pair.0; entry = a.entry })

module _ (net : PNet) (wf : WellFormed net) (t start count : ℕ) (arcs : ModeArcs net.arcs (mode_no t) start count) where
  pub mode-few : length (row_arcs net t) ≤ 2 * count
  mode-few =
      let f : ℕ → List NetArc = λ i. kept_half net Original (start + i) in
      let g : ℕ → List NetArc = λ i. kept_half net Complement (start + i) in
      rw (row_halves net wf t start count arcs) (omega (arith, length-append (joined count f) (joined count g), joined-few count f (λ i. kept-few (half_arc net Original (start + i))), joined-few count g (λ i. kept-few (half_arc net Complement (start + i)))))

  pub mode-count : length (joined count (λ i. both_halves net (start + i))) ≡ length (row_arcs net t)
  mode-count = both-length count (λ i. kept_half net Original (start + i)) (λ i. kept_half net Complement (start + i)) ∙ ap length (sym (row_halves net wf t start count arcs))

-- all of them, mode by mode
pub complement-arcs : (net : PNet) → (complement net).arcs ≡ joined (modes net) (row_arcs net)
unfolding complement arcs_of row_arcs
complement-arcs net = refl

-- The bytes of a mode's, of an open net.
pub mode-part : {s : List ℕ} {net : NetShape} → Open s net → (t : Mode) (start count : ℕ) → ModeArcs (net_of s).arcs t start count → (v : Version)
    → flat_map (arc_bytes v) (row_arcs (net_of s) t.0) ≡ joined 2 (λ h. joined count (half_bytes (net_of s) v (half_no h) start))
mode-part {s} o t start count arcs = row_bytes_lem (net_of s) (sizes o).well_formed t.0 start count arcs
