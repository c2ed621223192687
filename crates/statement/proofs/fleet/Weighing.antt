-- What the accepted movements of a run add and remove, so far: each sum is exact.
use Prim.Native.Nat.{ℕ, ◌+◌, ◌≤◌, ◌<◌, ◌^◌}
use mathlib.Core.Path.{◌≡◌, refl, ◌∙◌, ap}
use mathlib.Core.List.{List}
use lib.IntN.{ℤ, pos, negsuc, nat_abs, ◌+ℤ◌}
use lib.Signed.{mag}
use lib.ListN.{length, take, get_or}
use lib.Seq.{length-take-le}
use mir.Syntax.{w64}
use mir.Val.{SFits, to_z, of_z, hbits}
use mir.Facts.{to_z-of_z}
use native.Mathlib.Numerals.{add-one}
use native.Mathlib.Omega.{arith}
use Rattle.model.specs.declared.Mode.{Mode}
use Rattle.model.specs.Refusals.{Answer}
use Rattle.model.specs.Nets.{PNet, mode_no, modes}
use Rattle.movement.specs.Runs.{run}
use Rattle.movement.specs.Figures.{change}
use Rattle.movement.proofs.Runs.{runs, accepted-modes}
use Rattle.both_forms.proofs.Visits.{each-at-most}
use Rattle.opened.specs.declared.shape.NetShape.{NetShape}
use Rattle.opened.specs.Read.{Read}
use Rattle.opened.proofs.Shapes.{sizes}
use Rattle.sheets.specs.Decoded.{net_of, weights_of, movements_of}
use Rattle.sheets.proofs.Listed.{movements-within}
use Rattle.run.specs.Parts.{RunTells}
use Rattle.progress.proofs.Visiting.{one_more_lem}
use Rattle.statement.specs.weigh.Parts.{ChangesAre}
use Rattle.statement.proofs.weigh.Sizes.{fits-size}
use Rattle.statement.proofs.weigh.Terms.{change-size}
use Rattle.ships.specs.declared.Voyage.{Voyage}
use Rattle.ships.specs.Ships.{ship, gained, lost, added_by, removed_by, voyage_of}
use Rattle.statement.specs.fleet.Parts.{heaviest_mode, heaviest, Light}

gained-size : (z : ℤ) → gained z ≤ nat_abs z
gained-size (pos n) = omega arith
gained-size (negsuc n) = omega arith

pub lost-size : (z : ℤ) → lost z ≤ nat_abs z
lost-size (pos n) = omega arith
lost-size (negsuc n) = omega arith

-- k movements have added a and removed b
pub record Along (net : PNet) (weights : List ℤ) (ts : List Mode) (k : ℕ) (a b : ℤ) : Type 0 where
  pub adds : a ≡ pos (added_by net weights (take k ts))
  pub removes : b ≡ pos (removed_by net weights (take k ts))

pub along-none : (net : PNet) (weights : List ℤ) (ts : List Mode) → Along net weights ts 0 (pos 0) (pos 0)
unfolding added_by removed_by
along-none net weights ts = record { adds = refl; removes = refl }

module _ {s : List ℕ} {shape : NetShape} {w movements : List ℕ} (read : Read s shape w movements) {accepted : ℕ} {answer : Answer}
    (tells : RunTells (run (net_of s) (movements_of movements) (net_of s).start) accepted answer) where
  abbrev net : PNet
  net = net_of s

  abbrev weights : List ℤ
  weights = weights_of w

  abbrev ts : List Mode
  ts = movements_of movements

  pub counted : accepted ≤ length ts
  counted = rw tells.accepted (runs net ts net.start).part

  at_most : accepted ≤ 8192
  at_most = omega (arith, counted, movements-within movements read.listed)

  -- each of at most 8,192 movements adds and removes at most what the heaviest mode can
  module _ (k : ℕ) (h : k ≤ accepted) where
    short : length (take k ts) ≤ 8192
    short = rw (length-take-le k ts (omega (arith, counted))) (omega (arith, at_most))

    added-small : added_by net weights (take k ts) ≤ heaviest
    unfolding added_by
    added-small =
        omega (
          arith,
          short,
          each-at-most (λ t. gained (change net weights t)) heaviest_mode
              (λ t. omega (arith, gained-size (change net weights t), change-size read.opened w read.weighed t)) (take k ts),
        )

    removed-small : removed_by net weights (take k ts) ≤ heaviest
    unfolding removed_by
    removed-small =
        omega (
          arith,
          short,
          each-at-most (λ t. lost (change net weights t)) heaviest_mode
              (λ t. omega (arith, lost-size (change net weights t), change-size read.opened w read.weighed t)) (take k ts),
        )

  module _ {k : ℕ} {t : Mode} (h : k < accepted) (q : t ≡ get_or ts k (mode_no 0)) where
    along-mode : t.0 < modes net
    along-mode = rw q (accepted-modes net ts net.start k (rw (← tells.accepted) h))

    pub along-entry : t.0 < 256
    along-entry = omega (arith, along-mode, (sizes read.opened).modes, (sizes read.opened).modes_within)

    there : k < length ts
    there = omega (arith, counted)

    -- the entry of the mode, as it is read
    module _ {changes : List ℤ} (table : ChangesAre net weights changes) (given : SFits w64 (get_or changes t.0 (pos 0))) where
      abbrev x : ℤ
      x = to_z w64 (of_z w64 (get_or changes t.0 (pos 0)))

      change-is : x ≡ change net weights t
      change-is = to_z-of_z given ∙ table.each t.0 along-mode

      pub change-small : nat_abs x ≤ heaviest_mode
      change-small = rw change-is (change-size read.opened w read.weighed t)

      module _ {a b : ℤ} (along : Along net weights ts k a b) where
        added_next : a +ℤ pos (gained x) ≡ pos (added_by net weights (take (k + 1) ts))
        unfolding added_by
        added_next = rw (along.adds, change-is, q, add-one, one_more_lem (λ t. gained (change net weights t)) ts k (mode_no 0) there)

        removed-next : b +ℤ pos (lost x) ≡ pos (removed_by net weights (take (k + 1) ts))
        unfolding removed_by
        removed-next = rw (along.removes, change-is, q, add-one, one_more_lem (λ t. lost (change net weights t)) ts k (mode_no 0) there)

        -- with what the calls have given
        module _ {g : ℤ} (fits : mag g < 2 ^ hbits w64) (e : g ≡ pos (gained x)) where
          adds-next : a +ℤ to_z w64 (of_z w64 g) ≡ pos (added_by net weights (take (k + 1) ts))
          adds-next = ap (◌+ℤ◌ a) (to_z-of_z {w = w64} (record { sfits = fits }) ∙ e) ∙ added_next

          pub added-fits : SFits w64 (a +ℤ to_z w64 (of_z w64 g))
          added-fits = rw adds-next (fits-size w64 (pos (added_by net weights (take (k + 1) ts))) (omega (arith, added-small (k + 1) (omega arith))))

        module _ {l : ℤ} (fits : mag l < 2 ^ hbits w64) (e : l ≡ pos (lost x)) where
          removes-next : b +ℤ to_z w64 (of_z w64 l) ≡ pos (removed_by net weights (take (k + 1) ts))
          removes-next = ap (◌+ℤ◌ b) (to_z-of_z {w = w64} (record { sfits = fits }) ∙ e) ∙ removed-next

          pub removed-fits : SFits w64 (b +ℤ to_z w64 (of_z w64 l))
          removed-fits = rw removes-next (fits-size w64 (pos (removed_by net weights (take (k + 1) ts))) (omega (arith, removed-small (k + 1) (omega arith))))

        pub along-more : {g l : ℤ} → mag g < 2 ^ hbits w64 → g ≡ pos (gained x) → mag l < 2 ^ hbits w64 → l ≡ pos (lost x)
            → Along net weights ts (k + 1) (to_z w64 (of_z w64 (a +ℤ to_z w64 (of_z w64 g)))) (to_z w64 (of_z w64 (b +ℤ to_z w64 (of_z w64 l))))
        along-more g e l f = record { adds = to_z-of_z (added-fits g e) ∙ adds-next g e; removes = to_z-of_z (removed-fits l f) ∙ removes-next l f }

  -- all are weighed
  pub along-ends : {k : ℕ} {a b : ℤ} → Along net weights ts k a b → k ≤ accepted → accepted ≤ k
      → (◌≡◌ {A = Voyage} (record { accepted = accepted; answer = answer; added = a; removed = b }) (voyage_of (ship s w movements)))
      × Light (record { accepted = accepted; answer = answer; added = a; removed = b })
  unfolding voyage_of
  along-ends {k} along h l =
      let same : k ≡ accepted = omega arith in
      let is : k ≡ (run net ts net.start).accepted = same ∙ tells.accepted in (
        rw (along.adds, along.removes, is, tells.accepted, tells.answers),
        record {
          accepted = at_most;
          added = rw along.adds (added-small k h);
          removed = rw along.removes (removed-small k h);
        },
      )
