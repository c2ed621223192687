-- The whole text, part after part: where there is room for it, what room each part finds, and what stands there after the last.
use Prim.Native.Nat.{ℕ, ◌+◌, ◌≤◌}
use mathlib.Core.Path.{sym}
use mathlib.Core.List.{List}
use lib.ListN.{length}
use native.Mathlib.Omega.{arith}
use Rattle.model.specs.Lists.{joined}
use Rattle.sheets.specs.Decoded.{net_of}
use Rattle.opened.specs.declared.shape.NetShape.{NetShape}
use Rattle.opened.specs.Shape.{Open}
use Rattle.writes.specs.Writes.{Writes}
use Rattle.sheets.specs.written.Puts.{Room, Puts}
use Rattle.sheets.proofs.written.Puts.{room_as, puts_as, room-first, room_next, puts-both}
use Rattle.pnml.specs.Pnml.{opening, closing, mode_text, pnml}
use Rattle.export.specs.texts.Parts.{place_of, RoomFor}
use Rattle.export.proofs.texts.Texts.{put_of, text-parts, closing-length, opening-length, for_then, for_last}

module _ {s : List ℕ} {net : NetShape} (o : Open s net) {out : List ℕ} where
  module _ (h : Room out 0 (pnml (net_of s))) where
    pub opening-fits : 187 ≤ length out
    opening-fits = omega (arith, (room-first opening _ (room_as (text-parts o) h)).fits, opening-length)

    module _ {most k : ℕ} {l : List ℕ} (first : Writes most out 0 opening k l) where
      pub places_fit : RoomFor l k (joined net.pairs (place_of (net_of s)))
      places_fit = for_then _ (joined net.modes (mode_text (net_of s).arcs)) (room_next opening _ (room_as (text-parts o) h) (put_of first))

      module _ {i : ℕ} {m : List ℕ} (places : Puts l k (joined net.pairs (place_of (net_of s))) m i) where
        pub modes_fit : RoomFor m i (joined net.modes (mode_text (net_of s).arcs))
        modes_fit = for_last _ (room_next _ _ (room_next opening _ (room_as (text-parts o) h) (put_of first)) places)

        pub closing-fits : {j : ℕ} {n : List ℕ} → Puts m i (joined net.modes (mode_text (net_of s).arcs)) n j → j + 29 ≤ length n
        closing-fits modes =
            omega (arith, (room_next _ closing (room_next _ _ (room_next opening _ (room_as (text-parts o) h) (put_of first)) places) modes).fits, closing-length)

  pub text_put : {most least k i j after : ℕ} {l m n now : List ℕ} → Writes most out 0 opening k l → Puts l k (joined net.pairs (place_of (net_of s))) m i
      → Puts m i (joined net.modes (mode_text (net_of s).arcs)) n j → Writes least n j closing after now → Puts out 0 (pnml (net_of s)) now after
  text_put first places modes last = puts_as (sym (text-parts o)) (puts-both (put_of first) (puts-both places (puts-both modes (put_of last))))
