-- Stripping an area bare (document 02, P7): "Blasting removes all tokens at a pair whatever their number."
-- What a net becomes, and what stands in the way.
use Rattle.std.specs.Prelude.{ℕ, ◌+◌, Bool, not, ◌&&◌, [], ◌∷◌, ◌++◌, leb, length}
use Rattle.std.proofs.Math.Option.{Option}
use Rattle.model.specs.declared.Pair.{Pair}
use Rattle.model.specs.declared.Mode.{Mode}
use Rattle.model.specs.declared.Thing.TheVariants.{Net, Argument}
use Rattle.model.specs.declared.Fault.TheVariants.{NotThere, InhibitedUnbounded, NoRoom}
use Rattle.model.specs.declared.Refusal.{Refusal}
use Rattle.model.specs.First.{◌▸◌, only_if}
use Rattle.model.specs.Lists.{table}
use Rattle.model.specs.Numbers.{ℕ∞, fin, ∞}
use Rattle.model.specs.Rows.{Entry}
use Rattle.model.specs.Nets.{NetArc, PNet, pairs, modes, mode_no, K}
use Rattle.second_form.specs.Complement.{finite}
use Rattle.model.specs.Refusals.{wrong}

-- "its mode n .. has Pre n and I n at the chosen pair": one inscription on the normal and the inhibitor arc
abbrev pub strip_entry : ℕ → Entry
strip_entry n = record { pre = n; post = 0; inhibitor = fin n }

-- the new transition is the last, so its modes are numbered after all others
abbrev pub new_mode : PNet → ℕ → Mode
new_mode net n = mode_no (modes net + n)

abbrev pub strip_arc : PNet → Pair → ℕ → NetArc
strip_arc net p n = record { mode = new_mode net n; pair = p; entry = strip_entry n }

-- "appends a transition to a net sheet: its mode n, for n from 0 to K": k is the K of pair p
unfoldable pub strip : PNet → Pair → ℕ → PNet
strip net p k =
    record {
      rule = net.rule;
      colours = net.colours;
      modes_of = net.modes_of ++ (k + 1) ∷ [];
      capacity = net.capacity;
      start = net.start;
      arcs = net.arcs ++ table (k + 1) (strip_arc net p);
    }

-- K as a number; an unbounded pair is refused by 15, and has none
abbrev pub bound_of : ℕ∞ → ℕ
bound_of (fin k) = k
bound_of ∞ = 0

-- "10 where K is above 63, another limit is passed": transitions, modes and arcs of a net sheet
abbrev pub strip_limits : PNet → Pair → ℕ → Bool
strip_limits net p k =
    leb k 63 && leb (length (strip net p k).modes_of) 64 && leb (modes (strip net p k)) 256 && leb (length (strip net p k).arcs) 2048

-- what is refused of a net that was read, whatever the output slice: "6 for the pair, 15 for unbounded K, 10"
unfoldable pub strip_refusal : PNet → Pair → Option Refusal
strip_refusal net p =
    only_if (leb (pairs net) p.0) (wrong Argument NotThere)
    ▸ only_if (not (finite (K net p.0))) (wrong Net (InhibitedUnbounded 0))
    ▸ only_if (not (strip_limits net p (bound_of (K net p.0)))) (wrong Net NoRoom)
