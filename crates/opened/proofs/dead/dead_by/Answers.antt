use borrow.Author.Rules.{rules}
use mathlib.Core.Path.{sym, ◌∙◌}
use native.Mathlib.Omega.{arith}
use Rattle.second_form.specs.Dead.{is_dead}
use Rattle.sheets.specs.Decoded.{net_of}
use Rattle.opened.proofs.dead.Searches.{arc-kills, passed-more, none-kills, one-kills}
use Rattle.opened.proofs.dead.dead_by.Goals as goal

pub returns-then-kills : goal.returns-then-kills
unfolding is_dead
returns-then-kills c =
    let l = c.loop-i in
    let i = c.loop-i-test.true in
    rw (one-kills c.args.net.now.is_open _ _ _ c.requires.mode_arcs _ (omega arith) (omega arith) l.invariant
    (sym (arc-kills c.arc.ensures c.kills.ensures) ∙ c.if-kills.true))

pub loop-i-preserved : goal.loop-i-preserved
loop-i-preserved c =
    let l = c.loop-i in
    passed-more (net_of c.args.net.now.sheet.now) c.args.arcs.start l.i l.invariant (sym (arc-kills c.arc.ensures c.kills.ensures) ∙ c.if-kills.false)

pub returns : goal.returns
unfolding is_dead
returns c =
    let l = c.loop-i in
    rw (none-kills c.args.net.now.is_open _ _ _ c.requires.mode_arcs (λ i h. l.invariant i (omega (arith, c.loop-i-test.false))))

pub loop-i-init : goal.loop-i-init
loop-i-init c = λ k h l. absurd (omega arith)
