-- The bytes of a net's sheet are bytes.
use Prim.Native.Nat.{ℕ, zero, suc, ◌/◌, ◌%◌, ◌<◌}
use mathlib.Core.List.{List, [], ◌∷◌, ◌++◌, flatten, flat_map}
use lib.ListN.{length}
use native.Mathlib.Omega.{arith}
use Rattle.model.specs.declared.Version.{Version}
use Rattle.model.specs.declared.Version.TheVariants.{One, Two}
use Rattle.model.specs.declared.CapacityRule.{CapacityRule}
use Rattle.model.specs.declared.CapacityRule.TheVariants.{Strong, Weak}
use Rattle.model.specs.Lists.{joined}
use Rattle.model.specs.Nets.{NetArc, PNet, rule_number, pairs, modes, K, count}
use Rattle.sentences.specs.Bytes.{Below, Bytes}
use Rattle.sheets.specs.written.Written.{bytes16, bytes32, bound_number, of_mode, length_of, pair_bytes, tail_bytes, mode_bytes, arc_bytes, version_bytes, head_bytes, pairs_bytes, total_bytes, own_bytes, group_bytes, section_bytes, sheet_of}

pub data Each (n : ℕ) : List ℕ → Type 0 where
  nil : Each n []
  more : (b : ℕ) {s : List ℕ} → b < n → Each n s → Each n (b ∷ s)

pub each_below : (n : ℕ) (s : List ℕ) → Each n s → Below n s
each_below n [] nil i h = absurd (omega arith)
each_below n (b ∷ s) (more c l e) zero h = l
each_below n (b ∷ s) (more c l e) (suc i) h = each_below n s e i (omega arith)

-- of lists put together
each_append : {n : ℕ} {s t : List ℕ} → Each n s → Each n t → Each n (s ++ t)
each_append nil f = f
each_append (more b l e) f = more b l (each_append e f)

each-flat : {A : Type 0} {n : ℕ} (f : A → List ℕ) → ((a : A) → Each n (f a)) → (l : List A) → Each n (flat_map f l)
unfolding flat_map
each-flat f e [] = nil
each-flat f e (a ∷ l) = each_append (e a) (each-flat f e l)

each-joined : {n : ℕ} (f : ℕ → List ℕ) → ((i : ℕ) → Each n (f i)) → (k : ℕ) → Each n (joined k f)
unfolding joined
each-joined f e zero = nil
each-joined f e (suc k) = each_append (each-joined f e k) (e k)

-- the bytes of a net's sheet
both16 : (x : ℕ) → Each 256 (bytes16 x)
unfolding bytes16
both16 x = more (x / 256 % 256) (omega arith) (more (x % 256) (omega arith) nil)

all32 : (x : ℕ) → Each 256 (bytes32 x)
unfolding bytes32
all32 x = each_append (both16 (x / 65536)) (both16 (x % 65536))

of-mode : (v : Version) (t : ℕ) → Each 256 (mode_bytes v t)
unfolding mode_bytes
of-mode One t = both16 t
of-mode Two t = nil

of-arc : (v : Version) (a : NetArc) → Each 256 (arc_bytes v a)
unfolding arc_bytes tail_bytes flatten
of-arc v a =
    each_append (of-mode v a.mode.0)
    (each_append (both16 a.pair.0) (each_append (all32 a.entry.pre) (each_append (all32 a.entry.post) (each_append (all32 (bound_number a.entry.inhibitor)) nil))))

rule-byte : (r : CapacityRule) → rule_number r < 256
unfolding rule_number
rule-byte Strong = omega arith
rule-byte Weak = omega arith

of-version : (v : Version) (r : CapacityRule) → Each 256 (version_bytes v (rule_number r))
unfolding version_bytes
of-version One r = more 1 (omega arith) nil
of-version Two r = more 2 (omega arith) (more (rule_number r) (rule-byte r) nil)

of-section : (v : Version) (net : PNet) → Each 256 (section_bytes v net)
unfolding section_bytes total_bytes own_bytes
of-section One net = each_append (both16 (length net.arcs)) (each-flat (arc_bytes One) (of-arc One) net.arcs)
of-section Two net =
    each-joined (λ t. group_bytes Two (of_mode net.arcs t))
    (λ t. each_append (both16 (length (of_mode net.arcs t))) (each-flat (arc_bytes Two) (of-arc Two) (of_mode net.arcs t))) (modes net)

of-pairs : (net : PNet) → Each 256 (pairs_bytes net)
unfolding pairs_bytes pair_bytes
of-pairs net =
    each-joined (λ p. pair_bytes (K net p) (count net.start p)) (λ p. each_append (all32 (bound_number (K net p))) (all32 (count net.start p))) (pairs net)

pub sheet-bytes : (v : Version) (net : PNet) → Bytes (sheet_of v net)
unfolding sheet_of head_bytes flatten
sheet-bytes v net =
    each_below 256 (sheet_of v net)
    (each_append (each_append (all32 (length_of v net)) (of-version v net.rule))
    (each_append (both16 (length net.colours)) (each_append (both16 (length net.modes_of)) (each_append (each-flat bytes16 both16 net.colours)
    (each_append (each-flat bytes16 both16 net.modes_of) (each_append (of-pairs net) (each_append (of-section v net) nil)))))))
