-- A net's text put part by part: what is written is put, and where there is room for a part and the closing text, there is room for the longest line of its kind.
use Prim.Native.Nat.{ℕ, zero, suc, ◌+◌, ◌≤◌, ◌<◌}
use mathlib.Core.Path.{◌≡◌, refl, sym, ◌∙◌, ap}
use mathlib.Core.Logic.{◌≢◌}
use mathlib.Core.List.{List, [], ◌++◌, append_assoc, flat_map}
use lib.ListN.{length, length-append}
use lib.Seq.{sets-eq}
use native.Mathlib.Omega.{arith}
use native.Mathlib.Numerals.{add-one}
use Rattle.model.specs.declared.Arc.{Arc}
use Rattle.model.specs.declared.Mode.{Mode}
use Rattle.model.specs.Nets.{NetArc, arc_no}
use Rattle.model.specs.Lists.{joined}
use Rattle.writes.specs.Writes.{Writes}
use Rattle.writes.proofs.Into.{into_within}
use Rattle.writes.proofs.Writing.{length-kept}
use Rattle.sheets.specs.Decoded.{net_of}
use Rattle.opened.specs.declared.shape.NetShape.{NetShape}
use Rattle.opened.specs.Shape.{Open, ArcIs}
use Rattle.opened.specs.Starts.{ModeArcs}
use Rattle.opened.proofs.Shapes.{sizes}
use Rattle.sheets.specs.written.Written.{of_mode}
use Rattle.sheets.specs.written.Puts.{Room, Puts}
use Rattle.sheets.proofs.written.Sections.{joined-room}
use Rattle.sheets.proofs.written.Together.{together-each}
use Rattle.pnml.specs.Pnml.{opening, closing, place_text, transition_text, pre_text, post_text, positive, arc_text, mode_text, body, pnml}
use Rattle.export.specs.declared.elements.Side.{Side}
use Rattle.export.specs.declared.elements.Side.TheVariants.{Pre, Post}
use Rattle.export.specs.elements.Sides.{line_text}
use Rattle.export.specs.elements.Sizes.{weight_size}
use Rattle.export.proofs.elements.Lengths.{place-length, place-least, transition-length, some-pre-length, some-post-length, weight-least}
use Rattle.export.specs.texts.Parts.{place_of, arc_no_text, RoomFor}

pub put_of : {most : ℕ} {out now bytes : List ℕ} {at after : ℕ} → Writes most out at bytes after now → Puts out at bytes now after
put_of {out = out} {bytes = bytes} {at = at} w =
    let fits : at + length bytes ≤ length out = omega (arith, w.next, w.fits) in
    record {
      written = record { is = w.holds ∙ into_within out at bytes fits ∙ sym (sets-eq bytes out at fits) };
      sized = refl;
      kept = length-kept w;
      next = w.next;
    }

pub closing-length : length closing ≡ 29
unfolding closing
closing-length = refl

pub opening-length : length opening ≡ 187
unfolding opening
opening-length = refl

-- how long parts are that a loop counts
module _ (part : ℕ → List ℕ) where
  pub none-long : 0 ≡ length (joined 0 part)
  unfolding joined
  none-long = refl

  pub more-long : (i : ℕ) {n k : ℕ} → n ≡ length (joined i part) → k ≡ length (part i) → n + k ≡ length (joined (i + 1) part)
  unfolding joined
  more-long i e f = rw (add-one, length-append) (omega arith)

  pub end-long : (i n : ℕ) {k : ℕ} → i ≤ n → n ≤ i → k ≡ length (joined i part) → k ≡ length (joined n part)
  end-long i n h l e = let q : i ≡ n = omega arith in rw q at e

-- an arc that was read, a mode with its arcs, and the whole text
pub arc-long : (a : NetArc) → length (arc_text a) ≡ weight_size a.entry.pre + weight_size a.entry.post
unfolding arc_text
arc-long a =
    omega (
      arith,
      length-append (positive a.entry.pre (pre_text a.mode.0 a.pair.0)) (positive a.entry.post (post_text a.mode.0 a.pair.0)),
      some-pre-length a.mode.0 a.pair.0 a.entry.pre,
      some-post-length a.mode.0 a.pair.0 a.entry.post,
    )

pub mode-parts : (arcs : List NetArc) (t : ℕ) → mode_text arcs t ≡ transition_text t ++ flat_map arc_text (of_mode arcs t)
unfolding mode_text
mode-parts arcs t = refl

pub mode-long : (arcs : List NetArc) (t : ℕ) → length (mode_text arcs t) ≡ 30 + length (flat_map arc_text (of_mode arcs t))
mode-long arcs t = ap length (mode-parts arcs t) ∙ omega (arith, length-append (transition_text t) (flat_map arc_text (of_mode arcs t)), transition-length t)

pub segment-texts : {arcs : List NetArc} {t : Mode} {start count : ℕ} → ModeArcs arcs t start count
    → flat_map arc_text (of_mode arcs t.0) ≡ joined count (λ i. arc_text (arc_no arcs (start + i)))
segment-texts {arcs} {t} {start} {count} own = together-each arcs t.0 start count own.fits own.own own.all arc_text

module _ {s : List ℕ} {net : NetShape} where
  pub arc-parts : {k : ℕ} {a : Arc} → ArcIs s net k a
      → arc_no_text (net_of s) k ≡ positive a.pre (pre_text a.mode.0 a.pair.0) ++ positive a.post (post_text a.mode.0 a.pair.0)
  unfolding arc_text
  arc-parts is = ap arc_text (sym is.is)

  pub text-parts : Open s net
      → pnml (net_of s) ≡ opening ++ (joined net.pairs (place_of (net_of s)) ++ (joined net.modes (mode_text (net_of s).arcs) ++ closing))
  unfolding pnml body
  text-parts o = rw ((sizes o).pairs, (sizes o).modes) (simp append_assoc)

  pub text-long : Open s net → {a b : ℕ} → a ≡ length (joined net.pairs (place_of (net_of s))) → b ≡ length (joined net.modes (mode_text (net_of s).arcs))
      → 216 + a + b ≡ length (pnml (net_of s))
  text-long o e f =
      let places = joined net.pairs (place_of (net_of s)) in
      let modes = joined net.modes (mode_text (net_of s).arcs) in
      omega (
        arith,
        ap length (text-parts o),
        opening-length,
        closing-length,
        length-append opening (places ++ (modes ++ closing)),
        length-append places (modes ++ closing),
        length-append modes closing,
      )

-- a weight of 0 has no text
pub positive-none : (text : ℕ → List ℕ) (w : ℕ) → w ≡ 0 → positive w text ≡ []
positive-none text w e = rw e refl

pub positive-some : (text : ℕ → List ℕ) (w : ℕ) → w ≢ 0 → positive w text ≡ text w
positive-some text zero d = absurd (d refl)
positive-some text (suc n) d = refl

module _ {l : List ℕ} {at : ℕ} where
  pub for_as : {xs ys : List ℕ} → xs ≡ ys → RoomFor l at xs → RoomFor l at ys
  for_as e h = rw e at h

  pub for_first : (xs ys : List ℕ) → RoomFor l at (xs ++ ys) → RoomFor l at xs
  for_first xs ys h = record { fits = omega (arith, length-append xs ys) }

  pub for_next : {m : List ℕ} {k : ℕ} (xs ys : List ℕ) → RoomFor l at (xs ++ ys) → Puts l at xs m k → RoomFor m k ys
  for_next xs ys h p = record { fits = omega (arith, length-append xs ys, p.kept, p.next) }

  -- the closing text after one part more, and after this one
  pub for_then : (xs ys : List ℕ) → Room l at (xs ++ (ys ++ closing)) → RoomFor l at xs
  for_then xs ys h = record { fits = omega (arith, length-append xs (ys ++ closing), length-append ys closing) }

  pub for_last : (xs : List ℕ) → Room l at (xs ++ closing) → RoomFor l at xs
  for_last xs h = record { fits = omega (arith, length-append xs closing) }

  -- the parts that a loop puts
  pub for_more : (part : ℕ → List ℕ) {m : List ℕ} {k : ℕ} (i : ℕ) → Puts l at (joined i part) m k → (n : ℕ) → RoomFor l at (joined n part) → i < n → RoomFor m k (part i)
  for_more part i so_far n h b = record { fits = omega (arith, joined-room part n i b, so_far.kept, so_far.next) }

  pub place-fits : (p n : ℕ) → RoomFor l at (place_text p n) → at + 86 ≤ length l
  place-fits p n h = omega (arith, place-length p n, place-least n, closing-length)

  pub transition-fits : (t : ℕ) → RoomFor l at (transition_text t) → at + 30 ≤ length l
  transition-fits t h = omega (arith, transition-length t)

  pub line-fits : (side : Side) (t p w : ℕ) → w ≢ 0 → RoomFor l at (positive w (line_text side t p)) → at + 108 ≤ length l
  line-fits Pre t p w d h = omega (arith, some-pre-length t p w, weight-least w d, closing-length)
  line-fits Post t p w d h = omega (arith, some-post-length t p w, weight-least w d, closing-length)
