-- A call for C tells what the library's call answers.
use mathlib.Core.Path.{refl, sym, ◌∙◌, ap}
use mathlib.Core.Option.{Option, none, some}
use Rattle.model.specs.Replies.{Reply}
use Rattle.both_forms.specs.Audit.{Finding}
use Rattle.fire.specs.Calls.{begin_refusal, test_refusal}
use Rattle.run.specs.Calls.{before_run, run_of, visited_by, certify_refusal}
use Rattle.fire.specs.step.Calls.{test_step_refusal}
use Rattle.statement.specs.weigh.Calls.{figure_refusal, change_refusal}
use Rattle.statement.specs.exclude.Calls.{exclude_refusal}
use Rattle.opened.specs.dead.IsDead.{dead_refusal}
use Rattle.run.specs.salvage.Salvaged as salvaging
use Rattle.statement.specs.Replay.{stated, stated_in}
use Rattle.answers.specs.declared.Answered.{Answered}
use Rattle.answers.specs.Told.{telling, value_or, finding, audited, reported}
use Rattle.promises.specs.EqualNets.{OffsetAside, RepliesAlike}
use Rattle.promises.specs.EqualNetsForC.{carried_to_c, FindingsAlike, EqualNetsForC}
use Rattle.promises.proofs.EqualNets.{whole, net, ships, complements, strips, exports, export_outputs, audits, salvages, salvage_outputs, texts, reads}

finding-alike : (x y : Answered) (f : Option Finding) → OffsetAside (carried_to_c x) (carried_to_c y) → FindingsAlike (finding x f) (finding y f)
finding-alike x y none h = record { answer = h; found = refl; pair = refl; excess = refl }
finding-alike x y (some f) h = record { answer = h; found = refl; pair = refl; excess = refl }

audits-told : (r q : Reply (Option Finding)) → RepliesAlike r q → FindingsAlike (audited r) (audited q)
audits-told r q h = rw h.value (finding-alike (telling r.carried) (telling q.carried) (value_or none q.value) h.carried)

pub equal-nets_for_c : EqualNetsForC
unfolding begin_refusal test_refusal test_step_refusal before_run run_of visited_by certify_refusal figure_refusal change_refusal exclude_refusal dead_refusal stated stated_in
equal-nets_for_c a b one =
    let w = whole a b one in
    let n = net a b one in
    record {
      begin = λ m o h. rw (w, n) h;
      test = λ m t o h. rw (w, n) h;
      fire = λ m t o h. rw (w, n) h;
      test_step = λ m modes o h. rw (w, n) h;
      fire_step = λ m modes o h. rw (w, n) h;
      run = λ movements m o h. rw (w, n) h;
      certify = λ movements m o h. rw (w, n) h;
      figure = λ weights m o h. rw (w, n) h;
      change = λ weights t o h. rw (w, n) h;
      fleet_add = λ found weights movements o h. rw (ships a b one found weights movements) h;
      exclude = λ weights m o h. rw (w, n) h;
      is_dead = λ t o h. rw (w, n) h;
      first_dead = λ o h. rw (w, n) h;
      size = λ o h. rw (w, n) h;
      salvage = λ damaged out o h. (h.0 ∙ ap (λ x. reported (salvaging.told x)) (salvages a b one damaged out), h.1 ∙ salvage_outputs a b one damaged out);
      export_pnml = λ out o o' h h'.
          let told = exports a b one out in
          record {
            answer = rw (h.0, h'.0) told.carried;
            length = rw (h.0, h'.0) (ap (value_or 0) told.value);
            text = h.1 ∙ export_outputs a b one out ∙ sym h'.1;
          };
      complement = λ out out' o o' f f' h h'. rw (h.0, h'.0) (complements a b one out out' f f');
      strip = λ p out out' o o' f f' h h'. rw (h.0, h'.0) (ap telling (strips a b one p out out' f f'));
      audit = λ m m' o o' h h'. rw (h, h') (audits-told _ _ (audits a b one m m'));
      read_net = λ more bytes bytes' o o' h h'. rw (h, h', reads a b one more bytes bytes');
      statement = λ more bytes bytes' out l l' o h. rw (texts a b one more bytes bytes' l l') h;
    }
