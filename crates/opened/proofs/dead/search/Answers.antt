use borrow.Author.Rules.{rules}
use borrow.Author.Count.{below_more}
use mathlib.Core.Path.{sym, ◌∙◌}
use native.Mathlib.Omega.{arith}
use Rattle.sheets.specs.Decoded.{net_of}
use Rattle.opened.proofs.Shapes.{sizes}
use Rattle.opened.proofs.Segments.{segment-own}
use Rattle.opened.proofs.dead.Searches.{arc-kills, passed-more, none-kills, none_named, one-named}
use Rattle.opened.proofs.dead.search.Goals as goal

pub search-init : goal.search-init
search-init c = (search rules, λ u h. absurd (omega arith))

pub arcs_at-arcs-requires : goal.arcs_at-arcs-requires
arcs_at-arcs-requires c = let pre = c.args.net.now.is_open in record { starts_are = c.starts-table.ensures; t_lt_modes = (c.search-test.true, (sizes pre).modes_within) }

pub arc-here-requires : goal.arc-here-requires
arc-here-requires c = record { own_arc = record { own = c.arcs_at-arcs.ensures.own; there = c.loop-i-test.true } }

pub loop-i-preserved : goal.loop-i-preserved
loop-i-preserved c =
    let l = c.loop-i in (
      l.invariant.0,
      passed-more (net_of c.args.net.now.sheet.now) c.arcs_at-arcs.result.start l.i l.invariant.1 (sym (arc-kills c.arc-here.ensures c.kills.ensures) ∙ c.if-kills.false),
    )

pub search-preserved : goal.search-preserved
search-preserved c =
    let l = c.loop-i in (
      l.invariant.0,
      below_more _ _ c.search.invariant.1
          (none-kills c.args.net.now.is_open _ _ _ (segment-own c.arcs_at-arcs.ensures) (λ i h. l.invariant.1 i (omega (arith, c.loop-i-test.false)))),
    )

pub returns-after-search : goal.returns-after-search
returns-after-search c =
    c.search.invariant.0 ∙ sym (none_named c.args.net.now.is_open c.search-test.false c.search.invariant.1)

pub returns-then-kills : goal.returns-then-kills
returns-then-kills c =
    let l = c.loop-i in
    let m = c.search in
    one-named c.args.net.now.is_open m.t c.arcs_at-arcs.result l.i c.search-test.true m.invariant.1 c.arcs_at-arcs.ensures c.loop-i-test.true l.invariant.1
    c.arc-here.ensures c.kills.ensures c.if-kills.true

pub loop-i-init : goal.loop-i-init
loop-i-init c = (c.search.invariant.0, λ k h l. absurd (omega arith))

pub kills-requires : goal.kills-requires
kills-requires c = record { pair_lt_pairs = c.arc-here.ensures.pair }
