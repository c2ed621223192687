-- 4, then 10, or the sheet.
use Prim.Native.Nat.{◌≤◌, ◌<◌}
use mathlib.Core.Logic.{inl, inr, ⊎_elim}
use Rattle.import.proofs.Answers.{imported-many, imported-short, imported-whole}
use Rattle.import.proofs.import_export.Goals as goal

pub returns-then-q-gt64 : goal.returns-then-q-gt64
returns-then-q-gt64 c = imported-many c.requires (⊎_elim (λ (h : 64 < c.args.q.places). inl h) (λ (h : (c.args.q.places ≤ 64) × (64 < c.args.q.modes)). inr h.1) c.then-q-gt64.either) c.refused.ensures

pub returns-then-out-size : goal.returns-then-out-size
returns-then-out-size c = imported-short c.requires c.if-q-gt64.false c.if-q-gt64-2.false c.sheet_size-size.ensures c.if-out-size.true c.refused-then-out-size.ensures

pub returns : goal.returns
returns c = imported-whole c.requires c.if-q-gt64.false c.if-q-gt64-2.false c.sheet_size-size.ensures c.if-out-size.false c.put_sheet.ensures
