-- Each call asks of the net what two such nets have alike.
use Prim.Native.Nat.{ℕ}
use mathlib.Core.Path.{◌≡◌, sym, ◌∙◌, ap, ap₂}
use mathlib.Core.List.{List, map}
use mathlib.Core.Option.{none}
use lib.IntN.{ℤ, pos}
use lib.ListN.{length, take}
use Rattle.model.specs.declared.Mode.{Mode}
use Rattle.model.specs.declared.Thing.TheVariants.{Argument}
use Rattle.model.specs.Refusals.{answer}
use Rattle.model.specs.Nets.{total}
use Rattle.movement.specs.Runs.{Outcome, run}
use Rattle.movement.specs.Figures.{change}
use Rattle.second_form.specs.Dead.{found, is_dead}
use Rattle.sheets.specs.Whole.{whole_net}
use Rattle.sheets.specs.Decoded.{net_of, weights_of, movements_of}
use Rattle.fire.specs.Calls.{begin_refusal, test_refusal}
use Rattle.run.specs.Calls.{before_run, run_of, visited_by, certify_refusal}
use Rattle.fire.specs.step.Calls.{step_modes, test_step_refusal}
use Rattle.statement.specs.weigh.Calls.{figure_refusal, change_refusal}
use Rattle.statement.specs.exclude.Calls.{exclude_refusal}
use Rattle.opened.specs.dead.IsDead.{dead_refusal}
use Rattle.opened.specs.size.Sizes.{measured, measured_of}
use Rattle.ships.specs.declared.Fleet.{Fleet}
use Rattle.ships.specs.Ships.{ship, gained, lost, added_by, removed_by, voyage_of}
use Rattle.ships.specs.Entered.{ship_refusal, entered}
use Rattle.ships.specs.Entered as ships
use Rattle.damaged.specs.Damaged.{modes_in}
use Rattle.run.specs.salvage.Salvaged.{trial, kept, salvage_refusal}
use Rattle.promises.specs.TwoRuns.{RunAlike}
use Rattle.promises.specs.together.Exchanged.{MovesAlike}
use Rattle.promises.proofs.together.SameMoves.{Same, mode-same, fired-same, run-same, visited-same, step_same, stepped_same, marking-same, certificate-same, figure-same, change-same, claim-same, dead-pair-same, first-dead-same}

module _ (back sheet : List ℕ) (w : whole_net back ≡ none) (w' : whole_net sheet ≡ none) (same : Same (net_of back) (net_of sheet)) where
  begin-same : (m : List ℕ) → begin_refusal back m ≡ begin_refusal sheet m
  unfolding begin_refusal
  begin-same m = rw (w, w', same.same_pairs)

  test-same : (m : List ℕ) (t : Mode) → test_refusal back m t ≡ test_refusal sheet m t
  unfolding test_refusal
  test-same m t = rw (w, w', marking-same _ _ same m, mode-same _ _ same Argument t m)

  test-step-same : (m modes : List ℕ) → test_step_refusal back m modes ≡ test_step_refusal sheet m modes
  unfolding test_step_refusal
  test-step-same m modes = rw (w, w', marking-same _ _ same m, step_same _ _ same (step_modes modes) m)

  before_same : (movements m : List ℕ) → before_run back movements m ≡ before_run sheet movements m
  unfolding before_run
  before_same movements m = rw (w, w', marking-same _ _ same m)

  run-of-same : (movements m : List ℕ) → run_of back movements m ≡ run_of sheet movements m
  unfolding run_of
  run-of-same movements m = rw (before_same movements m, run-same _ _ same (movements_of movements) m)

  visits-same : (movements m : List ℕ) → visited_by back movements m ≡ visited_by sheet movements m
  unfolding visited_by
  visits-same movements m = rw (before_same movements m, visited-same _ _ same (movements_of movements) m)

  certify-same : (movements claim : List ℕ) → certify_refusal back movements claim ≡ certify_refusal sheet movements claim
  unfolding certify_refusal
  certify-same movements claim = rw (w, w', certificate-same _ _ same (movements_of movements) claim)

  trial-same : (damaged : List ℕ) → trial back damaged ≡ trial sheet damaged
  unfolding trial
  trial-same damaged = run-same _ _ same (modes_in damaged) (net_of back).start ∙ ap (run (net_of sheet) (modes_in damaged)) same.same_start

  kept_same : (damaged : List ℕ) → kept back damaged ≡ kept sheet damaged
  kept_same damaged = ap (λ o. o.accepted) (trial-same damaged)

  stop-same : (damaged : List ℕ) → (trial back damaged).refusal ≡ (trial sheet damaged).refusal
  stop-same damaged = ap (λ o. o.refusal) (trial-same damaged)

  salvage-same : (damaged : List ℕ) (room : ℕ) → salvage_refusal back damaged room ≡ salvage_refusal sheet damaged room
  unfolding salvage_refusal
  salvage-same damaged room = rw (w, w', kept_same damaged)

  weighed-same : (weights m : List ℕ) → figure_refusal back weights m ≡ figure_refusal sheet weights m
  unfolding figure_refusal
  weighed-same weights m = rw (w, w', marking-same _ _ same m, same.same_pairs)

  changed-same : (weights : List ℕ) (t : Mode) → change_refusal back weights t ≡ change_refusal sheet weights t
  unfolding change_refusal
  changed-same weights t = rw (w, w', same.same_pairs, same.same_modes)

  exclude-same : (weights claim : List ℕ) → exclude_refusal back weights claim ≡ exclude_refusal sheet weights claim
  unfolding exclude_refusal
  exclude-same weights claim = rw (w, w', same.same_pairs, marking-same _ _ same claim, claim-same _ _ same (weights_of weights) claim)

  -- what a ship's run gives
  outcome-same : (movements : List ℕ) → run (net_of back) (movements_of movements) (net_of back).start ≡ run (net_of sheet) (movements_of movements) (net_of sheet).start
  outcome-same movements = run-same _ _ same (movements_of movements) (net_of back).start ∙ ap (run (net_of sheet) (movements_of movements)) same.same_start

  sizes-same : (weights movements : List ℕ) (size : ℤ → ℕ)
      → total (map (λ t. size (change (net_of back) (weights_of weights) t)) (take (run (net_of back) (movements_of movements) (net_of back).start).accepted (movements_of movements)))
      ≡ total (map (λ t. size (change (net_of sheet) (weights_of weights) t)) (take (run (net_of sheet) (movements_of movements) (net_of sheet).start).accepted (movements_of movements)))
  sizes-same weights movements size =
      ap₂ (λ (f : Mode → ℤ) (o : Outcome). total (map (λ t. size (f t)) (take o.accepted (movements_of movements)))) (λ i t. change-same _ _ same (weights_of weights) t i) (outcome-same movements)

  voyage_same : (weights movements : List ℕ) → voyage_of (ship back weights movements) ≡ voyage_of (ship sheet weights movements)
  unfolding voyage_of added_by removed_by
  voyage_same weights movements =
      let o = outcome-same movements in
      let accepted = ap (λ (x : Outcome). x.accepted) o in
      let answered = ap (λ (x : Outcome). answer x.refusal) o in
      let added = ap pos (sizes-same weights movements gained) in
      let removed = ap pos (sizes-same weights movements lost) in
      λ i. record { accepted = accepted i; answer = answered i; added = added i; removed = removed i }

  entered-same : (found : Fleet) (weights movements : List ℕ) → entered found (ship back weights movements) ≡ entered found (ship sheet weights movements)
  unfolding entered ship_refusal ships.figure_refusal
  entered-same found weights movements = rw (w, w', same.same_pairs, voyage_same weights movements)

  dead-refusal-same : (t : Mode) → dead_refusal back t ≡ dead_refusal sheet t
  unfolding dead_refusal
  dead-refusal-same t = rw (w, w', same.same_modes)

  dead-same : (t : Mode) → is_dead (net_of back) t ≡ is_dead (net_of sheet) t
  unfolding is_dead
  dead-same t = ap found (dead-pair-same _ _ same t)

  size_same : measured_of back ≡ measured_of sheet
  size_same = ap₂ measured (w ∙ sym w') (rw (same.same_pairs, same.same_modes, same.same_arcs))

  pub moves-alike : MovesAlike sheet back
  moves-alike =
      record {
        begin = λ m o h. rw (begin-same m, same.same_start) h;
        test = λ m t o h. rw (test-same m t) h;
        fire = λ m t o h. rw (test-same m t, fired-same _ _ same t m) h;
        test_step = λ m modes o h. rw (test-step-same m modes) h;
        fire_step = λ m modes o h. rw (test-step-same m modes, stepped_same _ _ same (step_modes modes) m) h;
        run = λ movements m o h. rw (run-of-same movements m, visits-same movements m) h;
        certify = λ movements claim o h. rw (certify-same movements claim) h;
        salvage = λ damaged out o h. rw (salvage-same damaged (length out), kept_same damaged, stop-same damaged) h;
        figure = λ weights m o h. rw (weighed-same weights m, figure-same _ _ same (weights_of weights) m) h;
        change = λ weights t o h. rw (changed-same weights t, change-same _ _ same (weights_of weights) t) h;
        exclude = λ weights claim o h. rw (exclude-same weights claim) h;
        add_ship = λ found weights movements o h. rw (entered-same found weights movements) h;
        is_dead = λ t o h. rw (dead-refusal-same t, dead-same t) h;
        first_dead = λ o h. rw (w, first-dead-same _ _ same) (rw w' at h);
        size = λ o h. h ∙ sym size_same;
      }

  -- what runs alike with the one runs alike with the other
  pub alike_too : (net : List ℕ) → RunAlike net sheet → RunAlike net back
  alike_too net alike =
      record {
        at_start = λ m m' b b'. rw (begin-same m', same.same_start) (alike.at_start m m' b (sym (begin-same m') ∙ b'));
        onwards = λ movements m m' a c.
            let x = alike.onwards movements m m' a c in
            let is = run-of-same movements m' in
            record {
              accepted = rw is x.accepted;
              sheet_refused = rw is x.sheet_refused;
              refusal = rw is x.refusal;
              at_end = rw is x.at_end;
            };
      }
