-- Nothing, or the line of its weight.
use mathlib.Core.Path.{sym, ◌∙◌}
use Rattle.sheets.proofs.written.Puts.{nothing, puts_as}
use Rattle.export.specs.elements.Sides.{line_text}
use Rattle.export.proofs.texts.Texts.{put_of, positive-none, positive-some, line-fits}
use Rattle.export.proofs.texts.puts.put_side.Goals as goal

pub returns-then-weight-eq0 : goal.returns-then-weight-eq0
returns-then-weight-eq0 c =
    let a = c.args.a in
    puts_as (sym (positive-none (line_text c.args.side a.mode.0 a.pair.0) _ (sym c.weight.ensures ∙ c.if-weight-eq0.true))) nothing

pub put_line-requires : goal.put_line-requires
put_line-requires c =
    let pre = c.requires in
    record {
      mode_bound = pre.mode_bound;
      at_in_bounds = line-fits _ _ _ _ (λ e. c.if-weight-eq0.false (c.weight.ensures ∙ e)) pre.room_for;
    }

pub returns : goal.returns
returns c =
    let a = c.args.a in
    puts_as (sym (positive-some (line_text c.args.side a.mode.0 a.pair.0) _ (λ e. c.if-weight-eq0.false (c.weight.ensures ∙ e)))) (put_of c.put_line.ensures)
