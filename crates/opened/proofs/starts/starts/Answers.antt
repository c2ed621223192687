use Prim.Native.Nat.{◌≤◌, ◌<◌}
use mathlib.Core.Path.{◌∙◌}
use mathlib.Core.Logic.{⊎_elim}
use lib.ListN.{length-set, length-replicate, get_or-replicate}
use lib.Seq.{get_or-set_other}
use native.Mathlib.Omega.{arith}
use Rattle.model.proofs.First.{below_or}
use Rattle.model.proofs.Tables.{filled_more}
use Rattle.sheets.specs.Decoded.{net_of}
use Rattle.opened.specs.Starts.{FirstFrom}
use Rattle.opened.proofs.Shapes.{sizes}
use Rattle.opened.proofs.Segments.{first-arc, first_ends}
use Rattle.opened.proofs.starts.starts.Goals as goal

pub loop-t-init : goal.loop-t-init
loop-t-init c = (
  length-replicate 257 c.args.net.now.shape.arcs,
  first-arc _,
  λ t h. absurd (omega arith),
  λ u l h. get_or-replicate 257 u c.args.net.now.shape.arcs 0 h,
)

pub loop-t-preserved : goal.loop-t-preserved
loop-t-preserved c =
    let z = sizes c.args.net.now.is_open in
    let l = c.loop-t in (
      length-set l.table _ _ ∙ l.invariant.0,
      c.next_start-k.ensures,
      filled_more (FirstFrom (net_of c.args.net.now.sheet.now).arcs) 0 l.table l.t _ (omega arith) l.invariant.2 l.invariant.1,
      λ u b h. get_or-set_other l.table l.t u _ 0 (λ e. omega arith) ∙ l.invariant.3 u (omega arith) h,
    )

pub returns : goal.returns
returns c =
    let l = c.loop-t in
    let z = sizes c.args.net.now.is_open in
    let arcs = (net_of c.args.net.now.sheet.now).arcs in
    record {
      each =
          λ u h.
          ⊎_elim (λ (b : u < l.t). l.invariant.2 u b)
          (λ (b : l.t ≤ u). rw (l.invariant.3 u b h) (first_ends arcs u _ z.arcs (record { each = λ j i. omega (arith, z.modes, (z.well_formed.each_arc j (omega (arith, z.arcs))).mode) })))
          (below_or u l.t);
    }

pub overflow_cast-table : goal.overflow_cast-table
overflow_cast-table c = omega (arith, sizes c.args.net.now.is_open)

pub overflow_cast-table-in-loop-t : goal.overflow_cast-table-in-loop-t
overflow_cast-table-in-loop-t c = omega (arith, c.loop-t.invariant.1.inside, sizes c.args.net.now.is_open)

pub offset_bounds-table-t : goal.offset_bounds-table-t
offset_bounds-table-t c = omega (arith, sizes c.args.net.now.is_open)

pub bounds-table-t : goal.bounds-table-t
bounds-table-t c = omega (arith, sizes c.args.net.now.is_open)

pub next_start-k-requires : goal.next_start-k-requires
next_start-k-requires c = record { t_lt_modes = c.loop-t-test.true; first_from = c.loop-t.invariant.1 }
