-- What an accepted step has at each pair, what kills a mode, and what a counted ship adds.
use Prim.Native.Nat.{ℕ, ◌+◌, ◌<◌}
use mathlib.Core.Path.{◌≡◌, refl, sym, ◌∙◌, ap}
use mathlib.Core.Bool.{Bool, true, false}
use mathlib.Core.List.{◌∷◌}
use mathlib.Core.Logic.{◌≢◌, inl}
use mathlib.Core.Option.{Option, none, some, some-ne-none}
use native.Mathlib.Omega.{arith}
use borrow.Author.Tests.{eq-eqb}
use Rattle.model.specs.Refusals.{Answer}
use Rattle.model.specs.declared.Refusal.{Refusal}
use Rattle.model.specs.Refusals.{answer, number}
use Rattle.model.specs.Replies.{yields}
use Rattle.model.specs.Numbers.{ℕ∞, fin, ∞, Above, least_of}
use Rattle.model.specs.Nets.{row}
use Rattle.second_form.specs.Dead.{is_dead}
use Rattle.second_form.proofs.Dead.{dead-modes}
use Rattle.both_forms.proofs.Steps.{step-accepted}
use Rattle.sheets.specs.Decoded.{net_of}
use Rattle.run.specs.declared.Ran.{Ran}
use Rattle.fire.specs.step.Calls.{step_modes, test_step_refusal}
use Rattle.opened.specs.dead.IsDead.{told, deadness, dead_refusal}
use Rattle.ships.specs.declared.Fleet.{Fleet}
use Rattle.ships.specs.declared.Voyage.{Voyage}
use Rattle.ships.specs.Ships.{Ship, refused_by, voyage_of, with_voyage}
use Rattle.ships.specs.Entered.{ship_refusal, entered}
use Rattle.statement.specs.fleet.Allowed.{AddShipAllows}
use Rattle.sentences.proofs.Accepting.{number-none}
use Rattle.sentences.proofs.StepFrauds.{step-accepted_in}
use Rattle.sentences.specs.more.Frauds.{FirstMemberAsked, AsBeforeP2, PassesOver, MoreFrauds}
use Rattle.sentences.proofs.more.FleetOfRuns.{counted-sheets, runs_as}

first-member_asked : FirstMemberAsked
first-member_asked net m first later p h lacks alone o a z b same =
    let modes = first ∷ later in
    let e = number-none (test_step_refusal net m modes) (sym (ap number b) ∙ same ∙ z) in
    omega (arith, (step-accepted (net_of net) (step_modes modes) m (step-accepted_in net m modes e)).passes.enough p h)

-- a call that is not refused says what the mode is
says-dead : (o : Option Refusal) (d : Bool) → (told (deadness o d)).carried.number ≡ 0 → d ≡ true → told (deadness o d) ≡ yields true
says-dead none true z e = refl
says-dead none false z e = let x : ◌≡◌ {A = ℕ} 0 1 = cc in absurd (omega arith)
says-dead (some r) d z e = absurd (some-ne-none r (number-none (some r) z))

-- above a number is above the least of it and any other
above_lower : (n k : ℕ) (i : ℕ∞) → k < n → Above n (least_of (fin k) i)
above_lower n k (fin j) h = omega arith
above_lower n k ∞ h = h

as_before_p2 : AsBeforeP2
as_before_p2 net t p k strong h bound pre post over o a z =
    let dead : is_dead (net_of net) t ≡ true = (dead-modes (net_of net) t).1 (p, h, inl (rw (strong, bound) (above_lower _ _ (row (net_of net) t p).inhibitor (omega arith)))) in
    ap told a ∙ says-dead (dead_refusal net t) (is_dead (net_of net) t) (sym (ap (λ d. (told d).carried.number) a) ∙ z) dead

-- the record that a counted ship leaves
counts-ship : (found : Fleet) (s : Ship) (o : Answer × Fleet) → AddShipAllows found s.net s.weights s.movements o → number o.0 ≡ 0
    → o.1 ≡ with_voyage found (voyage_of s)
unfolding entered
counts-ship found s o a e = a.1 ∙ rw (number-none (ship_refusal found s) (sym (ap number a.0) ∙ e))

-- a total that a ship's voyage raises
module _ (field : Fleet → ℕ) (more : Voyage → ℕ) (grows : (f : Fleet) (v : Voyage) → field (with_voyage f v) ≡ field f + more v) where
  passes_over : (Shows : Ran → Type 0) → ((r : Ran) (v : Voyage) → r.accepted ≡ v.accepted → r.answer ≡ v.answer → Shows r → 0 < more v) → PassesOver Shows field
  unfolding voyage_of
  passes_over Shows raises found s o a z ran b shows same =
      let is = runs_as s (counted-sheets found s o a z) in
      let up = raises ran.0 (voyage_of s) (ap (λ r. r.accepted) b.0 ∙ ap (λ o. o.accepted) is) (ap (λ r. r.answer) b.0 ∙ ap (λ o. answer o.refusal) is) shows in
      omega (arith, up, ap field (counts-ship found s o a z), grows found (voyage_of s), same)

passes-number : (n : ℕ) (field : Fleet → ℕ) → ((f : Fleet) (v : Voyage) → field (with_voyage f v) ≡ field f + refused_by n v) → PassesOver (λ r. number r.answer ≡ n) field
passes-number n field grows =
    passes_over field (refused_by n) grows (λ r. number r.answer ≡ n)
    (λ r v accepted answered shows. rw (eq-eqb (number v.answer) n (sym (ap number answered) ∙ shows)) (omega arith))

pub more-frauds : MoreFrauds
unfolding with_voyage
more-frauds =
    record {
      stepping = first-member_asked;
      dying = as_before_p2;
      counting =
          record {
            movements =
                passes_over (λ f. f.movements) (λ v. v.accepted) (λ f v. refl) (λ r. r.accepted ≢ 0) (λ r v accepted answered shows. omega (arith, shows));
            by6 = passes-number 6 (λ f. f.by6) (λ f v. refl);
            by11 = passes-number 11 (λ f. f.by11) (λ f v. refl);
            by12 = passes-number 12 (λ f. f.by12) (λ f v. refl);
            by13 = passes-number 13 (λ f. f.by13) (λ f v. refl);
            by14 = passes-number 14 (λ f. f.by14) (λ f v. refl);
          };
    }
