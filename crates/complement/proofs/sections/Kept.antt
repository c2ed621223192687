-- Which arcs are written.
use mathlib.Core.Path.{◌≡◌, sym, ◌∙◌, ap}
use mathlib.Core.Bool.{Bool, true, false, not}
use mathlib.Core.List.{[], ◌∷◌, flat_map}
use Rattle.model.specs.declared.Version.{Version}
use Rattle.model.specs.Nets.{NetArc}
use Rattle.second_form.specs.Complement.{blank}
use Rattle.model.specs.Lists.{list_if}
use Rattle.sheets.specs.written.Written.{arc_bytes}
use Rattle.sheets.proofs.written.Sections.{section_one}
use Rattle.complement.specs.sections.Arcs.{kept, kept_bytes}

-- "Blank arcs are left out."
module _ (a : NetArc) {t : Bool} (e : t ≡ blank a.entry) where
  pub kept-none : t ≡ true → kept a ≡ []
  kept-none h = ap (λ b. list_if (not b) a) (sym e ∙ h)

  pub kept-one : t ≡ false → kept a ≡ a ∷ []
  kept-one h = ap (λ b. list_if (not b) a) (sym e ∙ h)

  no_bytes : (v : Version) → t ≡ true → [] ≡ kept_bytes v a
  unfolding flat_map
  no_bytes v h = ap (flat_map (arc_bytes v)) (sym (kept-none h))

  one_bytes : (v : Version) → t ≡ false → arc_bytes v a ≡ kept_bytes v a
  one_bytes v h = sym (ap (flat_map (arc_bytes v)) (kept-one h) ∙ section_one (arc_bytes v) a)

-- the same of an arc that was worked out, and what it is
module _ {a x : NetArc} (is : a ≡ x) {t : Bool} (e : t ≡ blank a.entry) where
  pub left_out : (v : Version) → t ≡ true → [] ≡ kept_bytes v x
  left_out v h = no_bytes x (e ∙ ap (λ b. blank b.entry) is) v h

  pub put_whole : (v : Version) → t ≡ false → arc_bytes v x ≡ kept_bytes v x
  put_whole v h = one_bytes x (e ∙ ap (λ b. blank b.entry) is) v h
