-- A run on its way: what is left from here is the whole.
use Prim.Native.Nat.{ℕ, ◌+◌, ◌*◌, ◌≤◌, ◌<◌}
use mathlib.Core.Path.{◌≡◌, refl, sym, ◌∙◌, ap}
use mathlib.Core.List.{List}
use mathlib.Core.Bool.{Bool, true, false, false≢true}
use mathlib.Core.Option.{Option, none, some}
use lib.ListN.{length, drop, get_or, drop_of_length-le}
use lib.Seq.{drop-cons}
use native.Mathlib.Numerals.{add-one}
use native.Mathlib.Omega.{arith}
use Rattle.model.specs.declared.Mode.{Mode}
use Rattle.model.specs.declared.Thing.TheVariants.{Movements}
use Rattle.model.specs.declared.Refusal.{Refusal}
use Rattle.model.specs.Nets.{PNet, mode_no}
use Rattle.model.specs.Markings.{Marking}
use Rattle.model.specs.Firing.{mode_refusal, fired}
use Rattle.movement.specs.Runs.{Outcome, run_from, run}
use Rattle.movement.proofs.Markings.{marking-kept}
use Rattle.sheets.specs.Listed.{mode_at, modes_from}
use Rattle.sheets.proofs.Listed.{modes_from_length, modes_from_at}
use Rattle.opened.specs.declared.starts.Segment.{Segment}
use Rattle.progress.specs.declared.Progress.{Progress}
use Rattle.leaving.specs.Leaving.{written, Makes}
use Rattle.numbers.specs.Movement.{Tries}
use Rattle.numbers.proofs.Tried.{tries_own}
use Rattle.progress.specs.Progress.{Accepts}
use Rattle.progress.proofs.Visiting.{visited_to, visits-more, visits-stop, visits-end}

abbrev ended : ℕ → List ℕ → Outcome
ended k m = record { accepted = k; refusal = none; marking = m }

abbrev stopped : ℕ → Refusal → List ℕ → Outcome
stopped k r m = record { accepted = k; refusal = some r; marking = m }

module _ (net : PNet) (ts : List Mode) (k : ℕ) (m : List ℕ) where
  run_ends : length ts ≤ k → run_from net k (drop k ts) m ≡ ended k m
  unfolding run_from
  run_ends h = rw (drop_of_length-le ts h)

  module _ (t : Mode) (h : k < length ts) (q : get_or ts k (mode_no 0) ≡ t) where
    run_on : mode_refusal Movements net t m ≡ none → run_from net k (drop k ts) m ≡ run_from net (k + 1) (drop (k + 1) ts) (fired net t m)
    unfolding run_from
    run_on e = rw (drop-cons ts k (mode_no 0) h, q, e, add-one)

    run-stops : (r : Refusal) → mode_refusal Movements net t m ≡ some r → run_from net k (drop k ts) m ≡ stopped k r m
    unfolding run_from
    run-stops r e = rw (drop-cons ts k (mode_no 0) h, q, e)

-- k of the count movements that stand in s from `start` on have led from m₀ to m, and visited v arcs
pub record Along (net : PNet) (s : List ℕ) (start count : ℕ) (m₀ : List ℕ) (k v : ℕ) (m : List ℕ) : Type 0 where
  pub marking : Marking net m
  pub rest : run_from net k (drop k (modes_from s start count)) m ≡ run net (modes_from s start count) m₀
  pub visits : v ≡ visited_to net (modes_from s start count) k
  pub few : v ≤ k * 2048

abbrev progress : ℕ → ℕ → Progress
progress k v = record { accepted = k; visited = v }

module _ {net : PNet} {s : List ℕ} {start count : ℕ} {m₀ : List ℕ} where
  pub along-none : Marking net m₀ → Along net s start count m₀ 0 0 m₀
  along-none h = record { marking = h; rest = refl; visits = refl; few = omega arith }

  pub along-ends : {k v : ℕ} {m : List ℕ} → Along net s start count m₀ k v m → count ≤ k → Accepts net (modes_from s start count) m₀ (progress k v) m
  along-ends {k} {v} {m} along h =
      let past : length (modes_from s start count) ≤ k = rw modes_from_length h in
      let e : ended k m ≡ run net (modes_from s start count) m₀ = sym (run_ends net _ k m past) ∙ along.rest in
      let accepted : k ≡ (run net (modes_from s start count) m₀).accepted = ap (λ o. o.accepted) e in
      record { accepted = accepted; visits = along.visits ∙ visits-end net _ m₀ k past accepted; leaves = ap (λ o. o.marking) e }

  module _ {k v : ℕ} {m : List ℕ} {t : Mode} {arcs : Segment} {made : Bool} {left : List ℕ} (along : Along net s start count m₀ k v m) (h : k < count)
      (q : t ≡ mode_at s start k) (tries : Tries net t arcs) (move : Makes (mode_refusal Movements net arcs.mode m) (fired net arcs.mode m) m made left) where
    there : k < length (modes_from s start count)
    there = rw modes_from_length h

    this : get_or (modes_from s start count) k (mode_no 0) ≡ arcs.mode
    this = modes_from_at s start count (mode_no 0) k h ∙ sym q ∙ sym tries.mode

    tried : v + arcs.count ≡ visited_to net (modes_from s start count) (k + 1)
    tried = visits-more net _ k there this (tries_own tries) along.visits

    pub along-more : {v' : ℕ} → v' ≡ v + arcs.count → made ≡ true → Along net s start count m₀ (k + 1) v' left
    along-more a e =
        let n : mode_refusal Movements net arcs.mode m ≡ none = move.decides.0 e in
        let l : left ≡ fired net arcs.mode m = move.leaves ∙ ap (λ o. written o (fired net arcs.mode m) m) n in
        record {
          marking = rw l (marking-kept Movements net arcs.mode m along.marking n);
          rest = rw l (sym (run_on net _ k m arcs.mode there this n) ∙ along.rest);
          visits = a ∙ tried;
          few = omega (arith, along.few, tries.few);
        }

    stops : {done : Progress} → done.accepted ≡ k → done.visited ≡ v + arcs.count
        → (o : Option Refusal) → mode_refusal Movements net arcs.mode m ≡ o → ¬ (o ≡ none) → Accepts net (modes_from s start count) m₀ done left
    stops c a none n f = absurd (f refl)
    stops c a (some r) n f =
        let o : stopped k r m ≡ run net (modes_from s start count) m₀ = sym (run-stops net _ k m arcs.mode there this r n) ∙ along.rest in
        let accepted : k ≡ (run net (modes_from s start count) m₀).accepted = ap (λ o. o.accepted) o in
        record {
          accepted = c ∙ accepted;
          visits = a ∙ tried ∙ visits-stop net _ m₀ k accepted;
          leaves = move.leaves ∙ ap (λ o. written o (fired net arcs.mode m) m) n ∙ ap (λ o. o.marking) o;
        }

    pub along-stops : {done : Progress} → done.accepted ≡ k → done.visited ≡ v + arcs.count → made ≡ false
        → Accepts net (modes_from s start count) m₀ done left
    along-stops c a e = stops c a _ refl (λ n. false≢true (sym e ∙ move.decides.1 n))
