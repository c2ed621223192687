-- The transition, then its arcs.
use mathlib.Core.Path.{sym}
use Rattle.sheets.proofs.written.Puts.{puts_as, puts-both}
use Rattle.export.proofs.texts.Texts.{put_of, mode-parts, for_as, for_first, for_next, transition-fits}
use Rattle.export.proofs.texts.puts.put_mode.Goals as goal

pub put_transition-next-requires : goal.put_transition-next-requires
put_transition-next-requires c = let pre = c.requires in record { mode_bound = pre.mode_bound; at_in_bounds = transition-fits _ (for_first _ _ (for_as (mode-parts _ _) pre.room_for)) }

pub put_arcs-requires : goal.put_arcs-requires
put_arcs-requires c = let pre = c.requires in
    let room = for_next _ _ (for_as (mode-parts _ _) pre.room_for) (put_of c.put_transition-next.ensures) in record { mode_arcs = pre.mode_arcs; room_for = room }

pub returns : goal.returns
returns c = puts_as (sym (mode-parts _ _)) (puts-both (put_of c.put_transition-next.ensures) c.put_arcs.ensures)
