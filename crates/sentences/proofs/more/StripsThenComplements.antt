-- A stripped net and its complement: what the new modes do in the net, and demand 3.
use Rattle.movement.proofs.Markings.{marking-test}
use Prim.Native.Nat.{ℕ, ◌+◌, ◌≤◌, ◌<◌}
use mathlib.Core.Path.{◌≡◌, refl, sym, ◌∙◌, ap, subst}
use mathlib.Core.List.{List}
use mathlib.Core.Logic.{◌↔◌, ◌≢◌}
use mathlib.Core.Option.{none}
use lib.ListN.{length}
use native.Mathlib.Omega.{arith}
use borrow.Author.Tests.{leb-false, lt-leb}
use Rattle.model.specs.declared.Pair.{Pair}
use Rattle.model.specs.declared.Mode.{Mode}
use Rattle.model.specs.Refusals.{answer, number}
use Rattle.model.specs.Numbers.{fin}
use Rattle.model.specs.Nets.{pairs, K, count}
use Rattle.model.specs.Markings.{Marking, marking_refusal}
use Rattle.second_form.specs.Complement.{Corresponds}
use Rattle.model.specs.First.{◌▸◌}
use Rattle.model.proofs.First.{left-none, only_if_none}
use Rattle.second_form.proofs.ComplementNet.{capacity-complement}
use Rattle.sheets.specs.Decoded.{net_of}
use Rattle.sheets.specs.Emitted.{told}
use Rattle.fire.specs.Calls.{test_refusal, fired_by}
use Rattle.bare.specs.Strip.{new_mode, strip, bound_of, strip_refusal}
use Rattle.bare.proofs.OldModes.{old_modes_lem}
use Rattle.convert.specs.strip.Stripped.{stripped_net, room_refusal, stripping_refusal}
use Rattle.sentences.specs.P7.{BareCalls, Stripped}
use Rattle.sentences.proofs.Accepting.{number-none}
use Rattle.sentences.proofs.StripWritten.{pair-accepted}
use Rattle.sentences.proofs.Stripping.{stripped}
use Rattle.sentences.specs.Wrote.{ComplementWrote, StripWrote}
use Rattle.sentences.specs.more.Reached.{ReachedBeside, fired}
use Rattle.sentences.specs.more.StripsThenComplements.{beside_pair, LeftBare, BareBeside, StripsThenComplements, NoStripAfter}
use Rattle.sentences.proofs.Written.{sheet-whole, sheet-same}
use Rattle.sentences.proofs.Demand3.{run-alike}
use Rattle.sentences.proofs.more.Beside.{Kept, kept, test-forth, test_back, fire-kept, in_step_lem}

-- what corresponding markings of a stripped net say, by the numbers of the net
record Sums (net m m' : List ℕ) : Type 0 where
  equal : (q : ℕ) → q < pairs (net_of net) → count m' q ≡ count m q
  add_up : (q j : ℕ) → q < pairs (net_of net) → K (net_of net) q ≡ fin j → count m q + count m' (beside_pair net q) ≡ j

module _ (net : List ℕ) (p : Pair) (bare : List ℕ) (w : StripWrote net p bare) where
  wrote : Stripped net p bare
  wrote = stripped net p bare w

  is_stripped : net_of bare ≡ stripped_net net p
  is_stripped = wrote.same

  new-modes : BareCalls net bare p (bound_of (K (net_of net) p.0))
  new-modes = wrote.bare_calls

  -- stripping adds no pair and changes no K
  sums : {m m' : List ℕ} → Corresponds (net_of bare) m m' → Sums net m m'
  unfolding strip
  sums {m} {m'} c = let d = subst (λ n. Corresponds n m m') is_stripped c in record { equal = d.equal; add_up = d.add_up }

  marked-before : (m : List ℕ) → marking_refusal (net_of bare) m ≡ none → marking_refusal (net_of net) m ≡ none
  marked-before m a = sym ((old_modes_lem (net_of net) p _).markings m) ∙ ap (λ n. marking_refusal n m) (sym is_stripped) ∙ a

  pair-there : p.0 < pairs (net_of net)
  unfolding strip_refusal
  pair-there = leb-false _ _ (only_if_none _ _ (left-none _ _ (pair-accepted net p w.out (length bare) (sym (ap told w.allowed.0) ∙ w.answered))))

module _ (net : List ℕ) (p : Pair) (bare sheet : List ℕ) (w : StripWrote net p bare) (c : ComplementWrote bare sheet) (k : ℕ) (e : K (net_of net) p.0 ≡ fin k) (m m' : List ℕ)
    (b : ReachedBeside bare sheet m m') where
  before : Kept bare m m'
  before = kept bare sheet c b

  marked : Marking (net_of net) m
  marked = (marking-test (net_of net) m).0 (marked-before net p bare w m before.marked)

  new : BareCalls net bare p k
  new = subst (λ b. BareCalls net bare p (bound_of b)) e (new-modes net p bare w)

  tests : (n : ℕ) → n ≤ k → (number (answer (test_refusal sheet m' (new_mode (net_of net) n))) ≡ 0) ↔ (n ≡ count m p.0)
  tests n h =
      let t = new_mode (net_of net) n in
      let here = new.test m marked n h (answer (test_refusal bare m t)) refl in (
        λ z. here.0 (rw (test_back bare sheet c m m' before t (number-none (test_refusal sheet m' t) z))),
        λ same. rw (test-forth bare sheet c m m' before t (number-none (test_refusal bare m t) (here.1 same))),
      )

  abbrev this : Mode
  this = new_mode (net_of net) (count m p.0)

  in_bare : (number (answer (test_refusal bare m this)) ≡ 0) × (count (fired_by bare m this) p.0 ≡ 0) × ((q : ℕ) → q ≢ p.0 → count (fired_by bare m this) q ≡ count m q)
  in_bare = new.fire m marked (answer (test_refusal bare m this), fired_by bare m this) (refl, refl)

  fires : (number (answer (test_refusal sheet m' this)) ≡ 0) × LeftBare net p k m' (fired_by sheet m' this)
  fires =
      let s = sums net p bare w before.corresponds in
      let after = sums net p bare w (fire-kept bare sheet c m m' before this).corresponds in
      let h = pair-there net p bare w in (
        rw (test-forth bare sheet c m m' before this (number-none (test_refusal bare m this) in_bare.0)),
        record {
          bare = after.equal p.0 h ∙ in_bare.1;
          full = omega (arith, after.add_up p.0 k h e, in_bare.1);
          others = λ q l d. after.equal q l ∙ in_bare.2 q d ∙ sym (s.equal q l);
          beside_others = λ q j l d f. omega (arith, after.add_up q j l f, s.add_up q j l f, in_bare.2 q d);
        },
      )

  bare-beside : BareBeside net p k bare sheet m m'
  bare-beside =
      record {
        test = λ n h o a. rw a (tests n h);
        fire = λ o a. rw (a.0, a.1) fires;
        finds_none = λ o o' a a'. (in_step_lem bare sheet c).always o.1 o'.1 (fired b this o.0 o'.0 a a');
      }

pub strips-then-complements : StripsThenComplements
strips-then-complements net p bare sheet w c k e = record { runs = run-alike bare sheet c; bares = λ m m' b. bare-beside net p bare sheet w c k e m m' b }

pub no_strip-after : NoStripAfter
unfolding stripping_refusal room_refusal strip_refusal ◌▸◌
no_strip-after net sheet w p h out o a =
    rw (a.0, sheet-whole net sheet w, lt-leb (pairs (net_of sheet)) p.0 h, ap (λ n. K n p.0) (sheet-same net sheet w) ∙ capacity-complement (net_of net) p.0) refl
