-- The four tests as the definition has them, each field read once.
use Rattle.sheets.proofs.nets.TailTests.{pre-outside, post-outside, inhibitor-outside, all-blank, all_pass}
use Rattle.sheets.proofs.nets.tails.read_numbers.Goals as goal

pub returns-then-pre-gt1000000 : goal.returns-then-pre-gt1000000
returns-then-pre-gt1000000 c =
    let a = c.args in
    pre-outside a.s.now a.arc a.tail c.u32_at-pre.ensures.0 c.u32_at-post.ensures.0 c.u32_at-inhibitor.ensures.0
    c.if-pre-gt1000000.true c.refused.ensures

pub returns-then-post-gt1000000 : goal.returns-then-post-gt1000000
returns-then-post-gt1000000 c =
    let a = c.args in
    post-outside a.s.now a.arc a.tail c.u32_at-pre.ensures.0 c.u32_at-post.ensures.0 c.u32_at-inhibitor.ensures.0
    c.if-pre-gt1000000.false c.if-post-gt1000000.true c.refused-then-post-gt1000000.ensures

pub returns-then-bound_outside : goal.returns-then-bound_outside
returns-then-bound_outside c =
    let a = c.args in
    inhibitor-outside a.s.now a.arc a.tail c.u32_at-pre.ensures.0 c.u32_at-post.ensures.0 c.u32_at-inhibitor.ensures.0
    c.if-pre-gt1000000.false c.if-post-gt1000000.false c.bound_outside.ensures c.if-bound_outside.true c.refused-then-bound_outside.ensures

pub returns-then-is_blank : goal.returns-then-is_blank
returns-then-is_blank c =
    let a = c.args in
    all-blank a.s.now a.arc a.tail c.u32_at-pre.ensures.0 c.u32_at-post.ensures.0 c.u32_at-inhibitor.ensures.0
    c.if-pre-gt1000000.false c.if-post-gt1000000.false c.bound_outside.ensures c.if-bound_outside.false c.is_blank.ensures c.if-is_blank.true c.refused-then-is_blank.ensures

pub returns : goal.returns
returns c =
    let a = c.args in
    all_pass a.s.now a.arc a.tail c.u32_at-pre.ensures.0 c.u32_at-post.ensures.0 c.u32_at-inhibitor.ensures.0
    c.if-pre-gt1000000.false c.if-post-gt1000000.false c.bound_outside.ensures c.if-bound_outside.false c.is_blank.ensures c.if-is_blank.false
