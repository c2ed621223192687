use mathlib.Core.Path.{refl, ◌∙◌, ap}
use mathlib.Core.Bool.{false}
use lib.ListN.{length-set}
use native.Mathlib.Omega.{arith}
use Rattle.second_form.specs.Dead.{is_dead}
use Rattle.model.proofs.Tables.{filled_more}
use Rattle.sheets.specs.Decoded.{net_of}
use Rattle.opened.proofs.Shapes.{sizes}
use Rattle.complement.proofs.sections.Surveys.{clear_none, clear_more, clear_all}
use Rattle.complement.proofs.sections.survey.survey.Invariants.{IsDead}
use Rattle.complement.proofs.sections.survey.survey.Goals as goal

pub loop-t-init : goal.loop-t-init
loop-t-init c = (c.requires.dead_len, clear_none _, λ u h. absurd (omega arith))

pub loop-t-preserved : goal.loop-t-preserved
loop-t-preserved c =
    let segment = c.arcs_of.ensures in
    let l = c.loop-t in
    let s = c.args.net.now.sheet.now in
    let within = (sizes c.args.net.now.is_open).modes_within in
    let one = c.survey_mode-one.ensures in
    let is = one.1 ∙ ap (is_dead (net_of s)) segment.mode in (
      length-set l.dead _ _ ∙ l.invariant.0,
      clear_more (net_of s) l.t l.invariant.1 segment one.0 refl,
      filled_more (IsDead s) false l.dead l.t _ (omega (arith, c.loop-t-test.true)) l.invariant.2 is,
    )

pub returns : goal.returns
returns c =
    let l = c.loop-t in
    let z = sizes c.args.net.now.is_open in (
      clear_all _ z.well_formed l.t (omega (arith, z.modes, c.loop-t-test.false)) l.invariant.1,
      record { each = λ t h. l.invariant.2 t (omega (arith, c.loop-t-test.false, z.modes)) },
    )

pub overflow_cast-t : goal.overflow_cast-t
overflow_cast-t c = omega (arith, (sizes c.args.net.now.is_open).modes_within)

pub bounds-dead-t : goal.bounds-dead-t
bounds-dead-t c = omega (arith, (sizes c.args.net.now.is_open).modes_within, c.loop-t-test.true, c.loop-t.invariant.0)
