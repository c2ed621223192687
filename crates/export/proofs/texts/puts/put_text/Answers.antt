-- The opening text, the places, the modes, the closing text.
use native.Mathlib.Omega.{arith}
use Rattle.pnml.specs.Pnml.{opening, closing}
use Rattle.export.proofs.texts.Whole.{opening-fits, places_fit, modes_fit, closing-fits, text_put}
use Rattle.export.proofs.texts.puts.put_text.Goals as goal

pub write_bytes-at_places-requires : goal.write_bytes-at_places-requires
write_bytes-at_places-requires c =
    let pre = c.requires in
    omega (arith, opening-fits c.args.net.now.is_open pre.room)

pub put_places-at_modes-requires : goal.put_places-at_modes-requires
unfolding opening
put_places-at_modes-requires c = let pre = c.requires in record { room_for = places_fit c.args.net.now.is_open pre.room c.write_bytes-at_places.ensures }

pub put_modes-end-requires : goal.put_modes-end-requires
unfolding opening
put_modes-end-requires c = let pre = c.requires in record { starts_are = pre.starts_are; room_for = modes_fit c.args.net.now.is_open pre.room c.write_bytes-at_places.ensures c.put_places-at_modes.ensures }

pub write_bytes-requires : goal.write_bytes-requires
unfolding opening
write_bytes-requires c =
    let pre = c.requires in
    closing-fits c.args.net.now.is_open pre.room c.write_bytes-at_places.ensures c.put_places-at_modes.ensures c.put_modes-end.ensures

pub returns : goal.returns
unfolding opening closing
returns c =
    text_put c.args.net.now.is_open c.write_bytes-at_places.ensures c.put_places-at_modes.ensures c.put_modes-end.ensures c.write_bytes.ensures
