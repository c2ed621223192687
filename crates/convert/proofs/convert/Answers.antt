-- The source version's refusals, then 10.
use mathlib.Core.Path.{◌≡◌, refl}
use lib.ListN.{length}
use Rattle.model.proofs.First.{none_then, some_then, left-none}
use Rattle.sheets.specs.Whole.{whole_net}
use Rattle.sheets.proofs.Emits.{refused}
use Rattle.convert.specs.Converted.{of_version, converted_sheet, open_refusal, convert_refusal}
use Rattle.convert.proofs.Answers.{read_whole}
use Rattle.model.proofs.Asking.{handed_on}
use Rattle.convert.proofs.convert.Goals as goal

pub returns-in_err-net : goal.returns-in_err-net
unfolding convert_refusal
returns-in_err-net c = rw (handed_on c.from_residual.ensures) (let a = c.args in
    let sheet = converted_sheet a.target a.s.now in
    let stopped = c.in_err-net.ensures in
    let r = refused (length sheet) sheet a.out.now (some_then (open_refusal a.target a.s.now (length a.out.now)) stopped) in
    record { value = r.0; out_after = r.1 })

pub returns : goal.returns
unfolding convert_refusal
returns c =
    let a = c.args in
    let then : convert_refusal a.source a.target a.s.now (length a.out.now) ≡ open_refusal a.target a.s.now (length a.out.now) =
    none_then c.in_ok-net.ensures.0 refl
    in
    record { value = rw then (rw c.in_ok-net.ensures.1 at c.convert_open.ensures.value); out_after = rw then (rw c.in_ok-net.ensures.1 at c.convert_open.ensures.out_after) }
