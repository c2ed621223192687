-- What a line adds to the arcs that have been written.
use Prim.Native.Nat.{ℕ, ◌-◌, ◌*◌, ◌≤◌, ◌<◌}
use mathlib.Core.Path.{◌≡◌, refl, sym, ◌∙◌, ap, subst}
use mathlib.Core.Bool.{true}
use mathlib.Core.List.{List, [], ◌∷◌, ◌++◌, flatten, append_assoc}
use mathlib.Core.Logic.{◌⊎◌, inl, inr}
use lib.ListN.{length, length-append}
use native.Mathlib.Omega.{arith}
use borrow.Author.Tests.{lt-ltb, le-ltb}
use Rattle.model.specs.declared.Version.TheVariants.{One}
use Rattle.model.specs.Nets.{NetArc}
use Rattle.model.proofs.First.{below_or}
use Rattle.fields.specs.Numbers.{unbounded}
use Rattle.sheets.specs.written.Written.{bytes16, bytes32, mode_bytes, tail_bytes, arc_bytes}
use Rattle.sheets.specs.written.Puts.{Written, Put, Puts}
use Rattle.sheets.proofs.written.Puts.{puts, put_length, puts_as}
use Rattle.sheets.proofs.written.Sections.{section_append, section_one}
use Rattle.sheets.proofs.written.SheetLength.{arcs_section}
use Rattle.grammar.specs.declared.State.{State}
use Rattle.grammar.specs.Lines.{post}
use Rattle.grammar.specs.Gathered.{Gathered, arc, last_post, gather}
use Rattle.grammar.proofs.Generated.{last-post}
use Rattle.grammar.proofs.Made.{Made}
use Rattle.import.specs.Parts.{arcs_bytes, PostPut}
use Rattle.import.proofs.Overwritten.{puts-over}

pub arcs-length : (arcs : List NetArc) → length (arcs_bytes arcs) ≡ 16 * length arcs
arcs-length arcs = arcs_section One arcs

snoc : (arcs : List NetArc) (a : NetArc) → arcs_bytes (arcs ++ a ∷ []) ≡ arcs_bytes arcs ++ arc_bytes One a
snoc arcs a = section_append (arc_bytes One) arcs (a ∷ []) ∙ ap (λ z. arcs_bytes arcs ++ z) (section_one (arc_bytes One) a)

-- an arc's bytes before its Post, and after it
front : ℕ → ℕ → ℕ → List ℕ
front t p u = bytes16 t ++ (bytes16 p ++ bytes32 u)

back : List ℕ
back = bytes32 unbounded

in_parts : (t p u v : ℕ) → arc_bytes One (arc t p u v) ≡ front t p u ++ (bytes32 v ++ back)
unfolding arc_bytes mode_bytes tail_bytes flatten bytes16 bytes32 front back
in_parts t p u v = refl

rest-length : (v : ℕ) → length (bytes32 v ++ back) ≡ 8
unfolding back bytes16 bytes32
rest-length v = refl

post-length : (v : ℕ) → length (bytes32 v) ≡ 4
unfolding bytes16 bytes32
post-length v = refl

last-arc : (arcs : List NetArc) (t p u v : ℕ) → arcs_bytes (arcs ++ arc t p u v ∷ []) ≡ (arcs_bytes arcs ++ front t p u) ++ (bytes32 v ++ back)
last-arc arcs t p u v = snoc arcs (arc t p u v) ∙ ap (λ z. arcs_bytes arcs ++ z) (in_parts t p u v) ∙ sym (append_assoc (arcs_bytes arcs) (front t p u) (bytes32 v ++ back))

pub new-arc : {l before now : List ℕ} {base was next : ℕ} (arcs : List NetArc) (a : NetArc) → Puts l base (arcs_bytes arcs) before was → Put before was 16 (arc_bytes One a) now next
    → Puts l base (arcs_bytes (arcs ++ a ∷ [])) now next
new-arc arcs a p v = puts_as (sym (snoc arcs a)) (put_length (puts p v))

-- the Post of the last arc is written over
post-over : {l before now : List ℕ} {base was : ℕ} (arcs : List NetArc) (t p u w : ℕ) → Puts l base (arcs_bytes (arcs ++ arc t p u 0 ∷ [])) before was
    → Written before (was - 8) (bytes32 w) now → length now ≡ length before → Puts l base (arcs_bytes (arcs ++ arc t p u w ∷ [])) now was
post-over arcs t p u w x v kept =
    let long = length-append (arcs_bytes arcs ++ front t p u) (bytes32 0 ++ back) in
    let old = puts_as (last-arc arcs t p u 0) x in
    puts_as (sym (last-arc arcs t p u w))
    (puts-over (arcs_bytes arcs ++ front t p u) (bytes32 0) back (bytes32 w) (post-length 0 ∙ sym (post-length w)) old v kept
    (omega (arith, old.next, long, rest-length 0)))

module _ {q : State} {d : Gathered} {text : List ℕ} (m : Made q d text) {l before now : List ℕ} {base was : ℕ} (p w : ℕ) where
  own-puts : {next : ℕ} → q.low ≤ p → Put before was 16 (arc_bytes One (arc (q.modes - 1) p 0 w)) now next → Puts l base (arcs_bytes d.arcs) before was
      → Puts l base (arcs_bytes (gather q (post p w) d).arcs) now next
  own-puts h v x = rw (le-ltb p q.low h) (new-arc d.arcs (arc (q.modes - 1) p 0 w) x v)

  hand_puts : p < q.low → q.half ≡ true → Written before (was - 8) (bytes32 w) now → length now ≡ length before → Puts l base (arcs_bytes d.arcs) before was
      → Puts l base (arcs_bytes (gather q (post p w) d).arcs) now was
  hand_puts h e v kept x =
      let f = m.half e in
      let is : last_post w d.arcs ≡ f.done ++ arc (q.modes - 1) (q.low - 1) f.weight w ∷ [] = ap (last_post w) f.is ∙ last-post f.done (q.modes - 1) (q.low - 1) f.weight w in
      rw (lt-ltb p q.low h, is) (post-over f.done (q.modes - 1) (q.low - 1) f.weight w (puts_as (ap arcs_bytes f.is) x) v kept)

  pub post-puts : {next : ℕ} → (p < q.low → q.half ≡ true) → PostPut q p w before was now next → Puts l base (arcs_bytes d.arcs) before was
      → Puts l base (arcs_bytes (gather q (post p w) d).arcs) now next
  post-puts {next} hand v x = go (below_or p q.low)
    where
      go : (p < q.low) ⊎ (q.low ≤ p) → Puts l base (arcs_bytes (gather q (post p w) d).arcs) now next
      go (inl h) = let y = v.in_hand h in subst (λ k. Puts l base (arcs_bytes (gather q (post p w) d).arcs) now k) (sym y.2) (hand_puts h (hand h) y.0 y.1 x)
      go (inr h) = own-puts h (v.own_arc_put h) x
