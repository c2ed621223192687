-- The arcs mode by mode, and before them their count where the version says it.
use mathlib.Core.Path.{refl, sym}
use lib.ListN.{length}
use native.Mathlib.Omega.{arith}
use Rattle.second_form.specs.Complement.{complement}
use Rattle.sheets.specs.Decoded.{net_of}
use Rattle.sheets.proofs.written.Puts.{put_length, puts_as, puts-before}
use Rattle.sheets.proofs.written.Versions.{total-length}
use Rattle.complement.proofs.sections.Fields.{ends_as}
use Rattle.complement.proofs.SheetParts.{arc-parts}
use Rattle.complement.proofs.Last.{rows-room, total-room, total-is, total-few}
use Rattle.complement.proofs.sheet.put_counted_arcs.Goals as goal

pub overflow_add-start : goal.overflow_add-start
overflow_add-start c =
    let pre = c.requires in
    let room = rows-room c.args.bounded.now.net.now.is_open pre.room c.total_size.ensures refl in
    omega (arith, room.fits)

pub put_arcs-end-requires : goal.put_arcs-end-requires
put_arcs-end-requires c = let pre = c.requires in record { starts_are = pre.starts_are; dead_are = pre.dead_are; room = rows-room c.args.bounded.now.net.now.is_open pre.room c.total_size.ensures refl }

pub put_total-requires : goal.put_total-requires
put_total-requires c = let put = c.put_arcs-end.ensures in
    let pre = c.requires in record { room = total-room c.args.bounded.now.net.now.is_open pre.room put _; arcs_bound = total-few c.args.bounded.now.net.now.is_open put pre.starts_are }

pub returns : goal.returns
returns c =
    let put = c.put_arcs-end.ensures in
    let o = c.args.bounded.now.net.now.is_open in
    let total = puts_as (total-is o put) c.put_total.ensures in
    puts_as (sym (arc-parts o)) (put_length (puts-before put (ends_as (omega (arith, c.total_size.ensures, total-length c.args.bounded.now.net.now.shape.version (length (complement (net_of c.args.bounded.now.net.now.sheet.now)).arcs))) total)))
