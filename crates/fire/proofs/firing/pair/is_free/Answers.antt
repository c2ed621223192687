-- No test of the four stops the mode.
use mathlib.Core.Path.{◌≡◌}
use mathlib.Core.Bool.{◌||◌}
use Rattle.model.specs.declared.Why.{Why}
use Rattle.model.specs.declared.Why.TheVariants.{Lacking, OverCapacity, Inhibited}
use Rattle.model.specs.Firing.{stops}
use Rattle.fields.specs.Arcs.{net_arc}
use Rattle.fields.specs.Numbers.{bound}
use Rattle.rule.proofs.FourTests.{unless-stopped, or-first, or-second}
use Rattle.fire.proofs.firing.pair.is_free.Goals.{then-is_stopped, else-is_stopped, then-is_stopped-2, else-is_stopped-2, then-is_stopped-3, else-is_stopped-3}
use Rattle.fire.proofs.firing.pair.is_free.Goals as goal

pub returns : goal.returns
returns c =
    let at = c.args.at in
    let by = λ (why : Why). stops why (net_arc at.arc).entry (bound at.capacity) at.count in
    let two : c.if-is_stopped.value ≡ by Lacking || by OverCapacity =
    elim c.if-is_stopped.branch [
      | then-is_stopped w ↦ or-first _ c.is_stopped.ensures w.if-is_stopped.true w.value-is
      | else-is_stopped w ↦ or-second c.is_stopped.ensures w.if-is_stopped.false w.is_stopped-else-is_stopped.ensures w.value-is
    ] in
    let three : c.if-is_stopped-2.value ≡ by Lacking || by OverCapacity || by Inhibited =
    elim c.if-is_stopped-2.branch [
      | then-is_stopped-2 w ↦ or-first _ two w.if-is_stopped-2.true w.value-is
      | else-is_stopped-2 w ↦ or-second two w.if-is_stopped-2.false w.is_stopped-else-is_stopped-2.ensures w.value-is
    ] in
    unless-stopped _ _ _
    (elim c.if-is_stopped-3.branch [
      | then-is_stopped-3 w ↦ or-first _ three w.if-is_stopped-3.true w.result-is
      | else-is_stopped-3 w ↦ or-second three w.if-is_stopped-3.false w.is_stopped-else-is_stopped-3.ensures w.result-is
    ])
