-- A run of bytes: with room it is written, without none of it is.
use mathlib.Core.Path.{refl, ap, ◌∙◌, sym}
use Rattle.std.specs.Prelude.{Some}
use Rattle.text.proofs.Puts.{end-found, put-found, put-full}
use Rattle.text.proofs.put_bytes.Goals as goal

pub returns-in_err-end_within : goal.returns-in_err-end_within
returns-in_err-end_within c = put-full _ _ _ _ refl c.in_err-end_within.ensures c.from_residual.ensures

pub write_bytes-requires : goal.write_bytes-requires
write_bytes-requires c = (end-found _ _ _ c.in_ok-end_within.ensures).0

pub returns : goal.returns
returns c =
    let e = c.in_ok-end_within.ensures in
    (ap Some (c.write_bytes.ensures.next ∙ sym (end-found _ _ _ e).1) ∙ put-found _ _ _ _ refl e, c.write_bytes.ensures.holds)
