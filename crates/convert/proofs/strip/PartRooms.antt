-- The parts of a sheet with a transition appended, one after the other: what room each of them finds, and what stands there after the last.
use Prim.Native.Nat.{ℕ, ◌+◌, ◌*◌, ◌-◌, ◌≤◌, ◌<◌}
use mathlib.Core.Path.{◌≡◌, sym, ap}
use mathlib.Core.List.{List}
use lib.ListN.{length}
use Rattle.model.specs.declared.Pair.{Pair}
use Rattle.model.specs.Lists.{joined}
use Rattle.model.specs.Nets.{rule_number}
use Rattle.heads.specs.Bytes.{byte_at}
use Rattle.heads.specs.Layout.{fields_at}
use Rattle.sheets.specs.Decoded.{net_of}
use Rattle.opened.specs.declared.shape.NetShape.{NetShape}
use Rattle.opened.specs.Shape.{Open}
use Rattle.sheets.specs.written.Written.{bytes16, head_bytes, total_bytes, section_bytes}
use Rattle.sheets.specs.written.Puts.{Put, Room, Puts, part_of}
use Rattle.sheets.proofs.written.Puts.{put_length, room_as, puts_as, count_fits, room-first, room_next, puts-both}
use Rattle.bare.specs.Strip.{strip}
use Rattle.convert.specs.Parts.{mode_group}
use Rattle.convert.specs.strip.Parts.{counts_bytes, records_bytes, new_group, new_size, Strips}
use Rattle.convert.proofs.strip.Parts.{places-are, transitions-are, head-is, numbers-is, pairs_is, section_is}

-- the head, the place count, the transition count
module _ {s : List ℕ} {net : NetShape} {p : Pair} {k : ℕ} (o : Strips s net p k) {size : ℕ} (e : size ≡ new_size net k) {out : List ℕ} where
  module _ (h : Room out 0 (counts_bytes (strip (net_of s) p k) net.version)) where
    pub head-room : Room out 0 (head_bytes net.version (rule_number net.rule) (size - 4))
    unfolding counts_bytes
    head-room = room_as (sym (head-is o e)) (room-first _ _ h)

    module _ {l : List ℕ} {i : ℕ} (head : Puts out 0 (head_bytes net.version (rule_number net.rule) (size - 4)) l i) where
      pub places-room : i + 2 ≤ length l
      unfolding counts_bytes
      places-room = count_fits _ (room-first _ _ (room_next _ _ h (puts_as (head-is o e) head)))

      pub transitions-room : {m : List ℕ} {j : ℕ} → Put l i 2 (bytes16 net.places) m j → j + 2 ≤ length m
      unfolding counts_bytes
      transitions-room places =
          count_fits _ (room_next _ _ (room_next _ _ h (puts_as (head-is o e) head)) (puts_as (ap bytes16 (places-are o.opened p k)) (put_length places)))

  pub counts_put : {l m n : List ℕ} {i j after : ℕ} → Puts out 0 (head_bytes net.version (rule_number net.rule) (size - 4)) l i → Put l i 2 (bytes16 net.places) m j
      → Put m j 2 (bytes16 (net.transitions + 1)) n after → Puts out 0 (counts_bytes (strip (net_of s) p k) net.version) n after
  unfolding counts_bytes
  counts_put head places transitions =
      puts-both (puts_as (head-is o e) head)
      (puts-both (puts_as (ap bytes16 (places-are o.opened p k)) (put_length places)) (puts_as (ap bytes16 (transitions-are o.opened p k)) (put_length transitions)))

-- what stands in the sheet that was read, with the new count between
module _ {s : List ℕ} {net : NetShape} (o : Open s net) (byte : (i : ℕ) → byte_at s i < 256) {fields : ℕ} (e : fields ≡ fields_at s) (k : ℕ) {out : List ℕ} {at : ℕ} where
  module _ (h : Room out at (records_bytes (net_of s) k)) where
    pub numbers-room : Room out at (part_of s (fields + 4) (2 * net.places + 2 * net.transitions))
    unfolding records_bytes
    numbers-room = room_as (sym (numbers-is o byte e)) (room-first _ _ h)

    module _ {l : List ℕ} {i : ℕ} (numbers : Puts out at (part_of s (fields + 4) (2 * net.places + 2 * net.transitions)) l i) where
      pub count_room : i + 2 ≤ length l
      unfolding records_bytes
      count_room = count_fits _ (room-first _ _ (room_next _ _ h (puts_as (numbers-is o byte e) numbers)))

      pub pairs-room : {m : List ℕ} {j : ℕ} → Put l i 2 (bytes16 (k + 1)) m j → Room m j (part_of s (fields + 4 + (2 * net.places + 2 * net.transitions)) (8 * net.pairs))
      unfolding records_bytes
      pairs-room count = room_as (sym (pairs_is o byte e)) (room_next _ _ (room_next _ _ h (puts_as (numbers-is o byte e) numbers)) (put_length count))

  pub records_put : {l m n : List ℕ} {i j after : ℕ} → Puts out at (part_of s (fields + 4) (2 * net.places + 2 * net.transitions)) l i → Put l i 2 (bytes16 (k + 1)) m j
      → Puts m j (part_of s (fields + 4 + (2 * net.places + 2 * net.transitions)) (8 * net.pairs)) n after → Puts out at (records_bytes (net_of s) k) n after
  unfolding records_bytes
  records_put numbers count pairs = puts-both (puts_as (numbers-is o byte e) numbers) (puts-both (put_length count) (puts_as (pairs_is o byte e) pairs))

-- the arc count where the version says it, the old arcs, and the new
module _ {s : List ℕ} {net : NetShape} {p : Pair} {k : ℕ} (o : Strips s net p k) {out : List ℕ} {at : ℕ} where
  module _ (h : Room out at (section_bytes net.version (strip (net_of s) p k))) where
    pub total-room : Room out at (total_bytes net.version (net.arcs + (k + 1)))
    total-room = room-first _ _ (room_as (section_is o) h)

    module _ {l : List ℕ} {i : ℕ} (total : Puts out at (total_bytes net.version (net.arcs + (k + 1))) l i) where
      pub old_room : Room l i (joined net.modes (mode_group net.version (net_of s)))
      old_room = room-first _ _ (room_next _ _ (room_as (section_is o) h) total)

      pub new-room : {m : List ℕ} {j : ℕ} → Puts l i (joined net.modes (mode_group net.version (net_of s))) m j → Room m j (joined (k + 1) (new_group net.version net.modes p))
      new-room old = room_next _ _ (room_next _ _ (room_as (section_is o) h) total) old

  pub section_put : {l m n : List ℕ} {i j after : ℕ} → Puts out at (total_bytes net.version (net.arcs + (k + 1))) l i → Puts l i (joined net.modes (mode_group net.version (net_of s))) m j
      → Puts m j (joined (k + 1) (new_group net.version net.modes p)) n after → Puts out at (section_bytes net.version (strip (net_of s) p k)) n after
  section_put total old new = puts_as (sym (section_is o)) (puts-both total (puts-both old new))
