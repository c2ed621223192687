-- What fits with more arcs fits; else they are counted.
use mathlib.Core.Path.{◌≡◌, refl, sym, ◌∙◌, ap}
use mathlib.Core.Bool.{true, false≢true}
use mathlib.Core.Option.{Option, none, some}
use native.Mathlib.Omega.{arith}
use Rattle.std.specs.Result.{is_ok}
use Rattle.model.specs.declared.Refusal.{Refusal}
use Rattle.model.specs.Refusals.{Answer, answer}
use Rattle.sheets.specs.Decoded.{net_of}
use Rattle.opened.proofs.Shapes.{sizes}
use Rattle.complement.specs.Sizes.{sizes_refusal}
use Rattle.complement.proofs.SheetParts.{sizes-is}
use Rattle.complement.proofs.Answers.{still-fits}
use Rattle.complement.proofs.room.counted_answer.Goals as goal

none_if_ok : (o : Option Refusal) {a : Answer} → a ≡ answer o → true ≡ is_ok a → o ≡ none
none_if_ok none e h = refl
none_if_ok (some r) e h = absurd (false≢true (sym (h ∙ ap is_ok e)))

pub room_answer-requires-clause-transitions_bound : goal.room_answer-requires-clause-transitions_bound
room_answer-requires-clause-transitions_bound c = let z = sizes c.args.bounded.now.net.now.is_open in (omega (arith, z.transitions, z.well_formed.transitions.many), z.modes_within)

pub returns-then-is_ok : goal.returns-then-is_ok
returns-then-is_ok c =
    let pre = c.requires in
    ap answer (sym (still-fits c.args.bounded.now.net.now.is_open _ pre.starts_are pre.sizes_with.0 (none_if_ok _ c.room_answer.ensures (sym c.if-is_ok.true ∙ c.is_ok.ensures.value))))

pub room_answer-requires-2-clause-transitions_bound : goal.room_answer-requires-2-clause-transitions_bound
room_answer-requires-2-clause-transitions_bound c = let z = sizes c.args.bounded.now.net.now.is_open in (omega (arith, z.transitions, z.well_formed.transitions.many), z.modes_within)

pub returns : goal.returns
returns c =
    let a = c.args in
    let with = c.requires.sizes_with.0 in
    c.room_answer-2.ensures
    ∙ ap (λ of. answer (sizes_refusal a.bounded.now.net.now.shape of a.room)) (sizes-is (net_of a.bounded.now.net.now.sheet.now) (record { places = with.places; pairs = with.pairs; arcs = c.count_arcs.ensures.0 }))
