-- Three digits, each within the range of the tenths that it begins.
use Prim.Native.Nat.{ℕ, ◌+◌, ◌-◌, ◌≤◌, ◌<◌}
use mathlib.Core.Path.{◌≡◌}
use native.Mathlib.Omega.{arith}
use Rattle.grammar.proofs.HandedOn.{handed_on}
use Rattle.grammar.proofs.parts.Threes.{stops_1, stops_2, third}
use Rattle.grammar.proofs.parts.Values.{reads-stop}
use Rattle.grammar.proofs.parts.three.read_three.Goals as goal

-- the largest number of the range
top : {low high : ℕ} → (low < high) × (high ≤ 999) → (high ≡ high - 1 + 1) × (low ≤ high - 1) × (high - 1 < 999)
top h = (omega arith, omega arith, omega arith)

pub returns-in_err-one : goal.returns-in_err-one
returns-in_err-one c =
    let pre = c.requires in
    let t = top (pre.1, pre.2) in
    reads-stop (handed_on c.from_residual.ensures) (stops_1 _ _ _ t.0 t.1 t.2 pre.0 c.in_err-one.ensures.how)

pub returns-in_err-two : goal.returns-in_err-two
returns-in_err-two c =
    let pre = c.requires in
    let t = top (pre.1, pre.2) in
    reads-stop (handed_on c.from_residual-in_err-two.ensures) (stops_2 _ _ _ t.0 t.1 t.2 pre.0 c.in_ok-one.ensures.how c.in_err-two.ensures.how)

pub returns : goal.returns
returns c =
    let pre = c.requires in
    let t = top (pre.1, pre.2) in
    third _ _ _ t.0 t.1 t.2 pre.0 c.in_ok-one.ensures.how c.in_ok-two.ensures.how _ c.read_digit-3.ensures
