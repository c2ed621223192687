-- An arc that is put field by field.
use Prim.Native.Nat.{ℕ, suc, ◌+◌, ◌≤◌}
use mathlib.Core.Path.{◌≡◌, ◌∙◌, ap}
use mathlib.Core.List.{List, [], ◌∷◌, ◌++◌, flatten, append_assoc}
use lib.ListN.{length, set}
use lib.Seq.{sets, set-set, set_comm}
use native.Mathlib.Omega.{arith}
use Rattle.model.specs.declared.Version.{Version}
use Rattle.model.specs.declared.Version.TheVariants.{One, Two}
use Rattle.model.specs.Numbers.{∞}
use Rattle.model.specs.declared.Arc.{Arc}
use Rattle.model.specs.Nets.{NetArc}
use Rattle.fields.specs.Numbers.{unbounded}
use Rattle.sheets.specs.Decoded.{net_arc}
use Rattle.both_forms.specs.Promises.{on_original}
use Rattle.sheets.specs.written.Written.{bytes16, bytes32, mode_bytes, tail_bytes, arc_bytes}
use Rattle.sheets.specs.written.Puts.{Put, mode_size}
use Rattle.sheets.proofs.written.Records.{number_bound}
use Rattle.sheets.proofs.written.Puts.{nothing, puts, puts-before}

module _ {l m : List ℕ} {at n k : ℕ} where
  -- the same bytes, told otherwise
  pub bytes_as : {xs ys : List ℕ} → xs ≡ ys → Put l at n xs m k → Put l at n ys m k
  bytes_as e p = rw e at p

  -- and the same end
  pub ends_as : {xs : List ℕ} {j : ℕ} → j ≡ at + n → Put l at n xs m k → Put l at n xs m j
  ends_as e p = record { written = p.written; sized = p.sized; kept = p.kept; next = e }

-- two bytes stored where two others were
stored-again : (l : List ℕ) (at a b c d : ℕ) → sets (sets l at (a ∷ b ∷ [])) at (c ∷ d ∷ []) ≡ sets l at (c ∷ d ∷ [])
stored-again l at a b c d =
    ap (λ m. set m (suc at) d) (set_comm (set l at a) (suc at) at b c (λ e. omega arith) ∙ ap (λ m. set m (suc at) b) (set-set l at a c))
    ∙ set-set (set l at c) (suc at) b d

-- a mode, and a pair after it or in its place
pub names_put : (v : Version) (mode pair : ℕ) {l m n : List ℕ} {at k size after : ℕ} → size ≡ mode_size v → Put l at 2 (bytes16 mode) m k
    → Put m (at + size) 2 (bytes16 pair) n after → Put l at (mode_size v + 2) (mode_bytes v mode ++ bytes16 pair) n after
unfolding bytes16 mode_bytes
names_put One mode pair {at = at} {k = k} {size = size} e p q = let there : at + size ≡ k = omega (arith, p.next) in puts p (rw there at q)
names_put Two mode pair {l} {at = at} {size = size} e p q =
    let there : at + size ≡ at = omega arith in
    let again = rw there at q.written.is in
    record {
      written = record { is = again ∙ ap (λ m. sets m at (bytes16 pair)) p.written.is ∙ stored-again l at _ _ _ _ };
      sized = q.sized;
      kept = q.kept ∙ p.kept;
      next = omega (arith, q.next);
    }

-- names and numbers
pub whole-arc : (v : Version) (mode pair : ℕ) (numbers : List ℕ) {l m : List ℕ} {at k : ℕ} → Put l at (mode_size v + 2 + 12) ((mode_bytes v mode ++ bytes16 pair) ++ numbers) m k
    → Put l at (mode_size v + 14) (mode_bytes v mode ++ (bytes16 pair ++ numbers)) m k
whole-arc v mode pair numbers p =
    let e : mode_size v + 2 + 12 ≡ mode_size v + 14 = omega arith in
    rw (e, append_assoc (mode_bytes v mode) (bytes16 pair) numbers) at p

-- an arc that was read for its names, and once for each number
pub fields : {a b c x : NetArc} → a ≡ x → b ≡ x → c ≡ x
    → record { mode = a.mode; pair = a.pair; entry = record { pre = b.entry.pre; post = c.entry.post; inhibitor = ∞ } } ≡ on_original x
fields p q r = λ i. record { mode = (p i).mode; pair = (p i).pair; entry = record { pre = (q i).entry.pre; post = (r i).entry.post; inhibitor = ∞ } }

module _ (v : Version) {l m : List ℕ} {at : ℕ} where
  -- room for the second and the third number, where there is room for the whole arc
  module _ {xs ys : List ℕ} {j k : ℕ} (names : Put l at (mode_size v + 2) xs m j) {n : List ℕ} (pre : Put m j 4 ys n k) (room : at + (mode_size v + 14) ≤ length l) where
    pub room-post : k + 4 ≤ length n
    room-post = omega (arith, names.kept, names.next, pre.kept, pre.next)

    pub room-inhibitor : {zs o : List ℕ} {after : ℕ} → Put n k 4 zs o after → after + 4 ≤ length o
    room-inhibitor post = omega (arith, names.kept, names.next, pre.kept, pre.next, post.kept, post.next)

  -- names, and then the numbers of an arc that was read for each
  pub original_put : (a b c : Arc) {x : NetArc} → net_arc a ≡ x → net_arc b ≡ x → net_arc c ≡ x → {n o out : List ℕ} {h i j k : ℕ}
      → Put l at (mode_size v + 2) (mode_bytes v a.mode.0 ++ bytes16 a.pair.0) m h → Put m h 4 (bytes32 b.pre) n i → Put n i 4 (bytes32 c.post) o j
      → Put o j 4 (bytes32 unbounded) out k → Put l at (mode_size v + 14) (arc_bytes v (on_original x)) out k
  unfolding arc_bytes tail_bytes flatten
  original_put a b c p q r names pre post inhibitor =
      bytes_as (ap (arc_bytes v) (fields p q r)) (whole-arc v a.mode.0 a.pair.0 _ (puts names (puts pre (puts post (puts inhibitor nothing)))))

  -- the numbers first, and then the names before them
  pub new_put : (new : Arc) {q size : ℕ} → q ≡ new.pair.0 → size ≡ mode_size v → {n o out : List ℕ} {i j k after : ℕ}
      → Put l (at + size + 2) 4 (bytes32 new.pre) m i → Put m i 4 (bytes32 new.post) n j → Put n j 4 (bytes32 new.inhibitor) o k
      → Put o at (mode_size v + 2) (mode_bytes v new.mode.0 ++ bytes16 q) out after → Put l at (mode_size v + 14) (arc_bytes v (net_arc new)) out k
  unfolding arc_bytes tail_bytes flatten bytes32
  new_put new number e pre post inhibitor names =
      rw number_bound
      (whole-arc v new.mode.0 new.pair.0 _
      (puts-before (puts pre (puts post (puts inhibitor nothing)))
      (ends_as (omega arith) (bytes_as (ap (λ p. mode_bytes v new.mode.0 ++ bytes16 p) number) names))))
