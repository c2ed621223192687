-- The 14 bytes that an arc has in both versions: what is refused of its numbers.
use Rattle.std.specs.Prelude.{ℕ, Bool, ◌&&◌, List, eqb}
use Rattle.std.proofs.Math.Option.{Option}
use Rattle.model.specs.declared.Thing.TheVariants.{Net}
use Rattle.model.specs.declared.Fault.TheVariants.{Blank}
use Rattle.model.specs.declared.Refusal.{Refusal}
use Rattle.model.specs.First.{◌▸◌, only_if}
use Rattle.model.specs.Refusals.{wrong}
use Rattle.heads.specs.Bytes.{u32_at}
use Rattle.heads.specs.Layout.{tail_pre_at, tail_post_at, tail_inhibitor_at}
use Rattle.fields.specs.Numbers.{unbounded, number_refusal, bound_refusal}

-- "An arc with Pre = Post = 0 and I unbounded is blank"
abbrev pub blank : ℕ → ℕ → ℕ → Bool
blank pre post inhibitor = eqb pre 0 && eqb post 0 && eqb inhibitor unbounded

unfoldable pub tail_blank : List ℕ → ℕ → Bool
tail_blank s tail = blank (u32_at s (tail_pre_at tail)) (u32_at s (tail_post_at tail)) (u32_at s (tail_inhibitor_at tail))

-- "5 for Pre, Post and I in turn, 8", of the arc at `arc` whose 14 bytes stand at `tail`
unfoldable pub tail_numbers : List ℕ → ℕ → ℕ → Option Refusal
tail_numbers s arc tail =
    number_refusal s (tail_pre_at tail)
    ▸ number_refusal s (tail_post_at tail)
    ▸ bound_refusal s (tail_inhibitor_at tail)
    ▸ only_if (tail_blank s tail) (wrong Net (Blank arc))
