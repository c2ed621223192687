-- A refused call leaves what it was lent: each answer with a number has a refusal behind it.
use Rattle.std.specs.Prelude.{Some, None}
use Prim.Native.Nat.{ℕ, ◌+◌}
use mathlib.Core.Path.{◌≡◌, refl, sym, ◌∙◌, ap, subst}
use mathlib.Core.Bool.{Bool, true, false, cond}
use mathlib.Core.List.{List, [], ◌++◌}
use mathlib.Core.Logic.{◌≢◌}
use mathlib.Core.Option.{Option}
use lib.Dec.{leb}
use lib.ListN.{length, take, drop}
use native.Mathlib.Omega.{arith}
use Rattle.model.specs.declared.Refusal.{Refusal}
use Rattle.model.specs.declared.Version.TheVariants.{One, Two}
use Rattle.model.specs.Refusals.{answer, number}
use Rattle.model.specs.Nets.{PNet}
use Rattle.movement.specs.Promises.{Leads, stays}
use Rattle.model.specs.Firing.{fired}
use Rattle.both_forms.specs.Steps.{fired_together}
use Rattle.sheets.specs.Decoded.{net_of, movements_of}
use Rattle.sheets.specs.Emitted.{emitted, told, output}
use Rattle.leaving.specs.Leaving.{written}
use Rattle.fire.specs.Calls.{begin_refusal, test_refusal}
use Rattle.run.specs.Calls.{run_of}
use Rattle.run.proofs.Promises.{runs_leave_lem}
use Rattle.fire.specs.step.Calls.{step_modes, test_step_refusal}
use Rattle.ships.specs.declared.Fleet.{Fleet}
use Rattle.ships.specs.Ships.{Ship, ship, voyage_of, with_voyage}
use Rattle.ships.specs.Entered.{ship_refusal, left, entered}
use Rattle.complement.specs.Complemented.{complement_sheet, complementing_refusal}
use Rattle.convert.specs.Converted.{converted_sheet, convert_refusal}
use Rattle.convert.specs.strip.Stripped.{stripped_sheet, stripping_refusal}
use Rattle.export.specs.Exports.{export_text, export_refusal}
use Rattle.import.proofs.Promises.{import_kept}
use Rattle.run.specs.salvage.Salvaged as salvaging
use Rattle.writes.specs.Writes.{put_into}
use Rattle.text.specs.Puts.{end_within, put_to}
use Rattle.statement.specs.Replay.{replay_text, statement_refusal, stated, stated_in}
use Rattle.promises.specs.DemandOne.{Refused, DemandOne, DemandOneForC}
use Rattle.promises.proofs.Accepting.{left_alone}

kept : (o : Option Refusal) (new found : List ℕ) → Refused (answer o) → written o new found ≡ found
kept o new found = left_alone (λ o. number (answer o)) (λ o. written o new found) refl (λ r. refl) o

ship-kept : (f : Fleet) (s : Ship) → Refused (entered f s).answer → (entered f s).fleet ≡ f
unfolding entered
ship-kept f s = left_alone (λ o. number (answer o)) (λ o. left o f (with_voyage f (voyage_of s))) refl (λ r. refl) (ship_refusal f s)

emitted-kept : (o : Option Refusal) (bytes out : List ℕ) → (told (emitted o (length bytes))).carried.number ≢ 0 → output o bytes out ≡ out
emitted-kept o bytes out = left_alone (λ o. (told (emitted o (length bytes))).carried.number) (λ o. output o bytes out) refl (λ r. refl) o

salvaged-kept : (net damaged out : List ℕ) → (salvaging.told (salvaging.salvage_of net damaged out)).carried.number ≢ 0 → salvaging.output_of net damaged out ≡ out
salvaged-kept net damaged out =
    left_alone (λ o. (salvaging.told (salvaging.salvaged o (salvaging.report net damaged))).carried.number) (λ o. output o (salvaging.fresh_sheet net damaged) out)
    refl (λ r. refl) (salvaging.salvage_refusal net damaged (length out))

put_kept : (out : List ℕ) (at : ℕ) (bytes : List ℕ) → put_to out at bytes ≡ None → put_into out at bytes ≡ out
unfolding end_within put_to put_into
put_kept out at bytes e = go (leb (at + length bytes) (length out)) e
  where
    go : (t : Bool) → cond t (Some (at + length bytes)) None ≡ None → cond t (take at out ++ bytes ++ drop (at + length bytes) out) out ≡ out
    go true e = let z : ◌≡◌ {A = ℕ} 0 1 = cc in absurd (omega arith)
    go false e = refl

text-kept : (input out : List ℕ) → (told (stated input out)).carried.number ≢ 0 → stated_in input out ≡ out
unfolding stated stated_in
text-kept input out = emitted-kept (statement_refusal (length out)) (replay_text input) out

pub stays-is : {net : PNet} {m m' : List ℕ} → Leads net [] m m' → m' ≡ m
stays-is stays = refl

run-leads : (net movements marking : List ℕ) {n : ℕ} {left : List ℕ} → n ≡ (run_of net movements marking).accepted → left ≡ (run_of net movements marking).marking
    → Leads (net_of net) (take n (movements_of movements)) marking left
run-leads net movements marking e f = rw (e, f) (runs_leave_lem net movements marking).leads

pub demand_one_lem : DemandOne
demand_one_lem =
    record {
      begin = λ net marking o allows refused.
          allows.1 ∙ kept (begin_refusal net marking) (net_of net).start marking (subst Refused allows.0 refused);
      fire = λ net marking t o allows refused.
          allows.1 ∙ kept (test_refusal net marking t) (fired (net_of net) t marking) marking (subst Refused allows.0 refused);
      fire_step = λ net marking modes o allows refused.
          allows.1 ∙ kept (test_step_refusal net marking modes) (fired_together (net_of net) (step_modes modes) marking) marking (subst Refused allows.0 refused);
      add_ship = λ found net weights movements o allows refused. allows.1 ∙ ship-kept found (ship net weights movements) (subst Refused allows.0 refused);
      complement = λ net out o allows refused.
          allows.1 ∙ emitted-kept (complementing_refusal net (length out)) (complement_sheet net) out (subst (λ c. (told c).carried.number ≢ 0) allows.0 refused);
      to_version2 = λ net out o allows refused.
          allows.1 ∙ emitted-kept (convert_refusal One Two net (length out)) (converted_sheet Two net) out (subst (λ c. (told c).carried.number ≢ 0) allows.0 refused);
      to_version1 = λ net out o allows refused.
          allows.1 ∙ emitted-kept (convert_refusal Two One net (length out)) (converted_sheet One net) out (subst (λ c. (told c).carried.number ≢ 0) allows.0 refused);
      strip = λ net p out o allows refused. allows.1 ∙ emitted-kept (stripping_refusal net p (length out)) (stripped_sheet net p) out (subst (λ c. (told c).carried.number ≢ 0) allows.0 refused);
      export_pnml = λ net out o allows refused. allows.1 ∙ emitted-kept (export_refusal net (length out)) (export_text net) out (subst (λ c. (told c).carried.number ≢ 0) allows.0 refused);
      import_pnml = import_kept;
      salvage = λ net damaged out o allows refused.
          allows.1 ∙ salvaged-kept net damaged out (subst (λ c. (salvaging.told c).carried.number ≢ 0) allows.0 refused);
      run = λ net movements marking o allows refused. run-leads net movements marking (ap (λ ran. ran.accepted) allows.0) allows.1;
      run_none = λ net movements marking o allows e.
          stays-is (rw e at (run-leads net movements marking (ap (λ ran. ran.accepted) allows.0) allows.1));
      put_bytes = λ out at bytes o allows full. allows.1 ∙ put_kept out at bytes (sym allows.0 ∙ full);
      statement = λ input out o allows refused. allows.1 ∙ text-kept input out (subst (λ c. (told c).carried.number ≢ 0) allows.0 refused);
    }

pub demand_one_for_c_lem : DemandOneForC
demand_one_for_c_lem =
    record {
      begin = λ net marking o allows refused.
          allows.1 ∙ kept (begin_refusal net marking) (net_of net).start marking (subst (λ a. a.number ≢ 0) allows.0 refused);
      fire = λ net marking t o allows refused.
          allows.1 ∙ kept (test_refusal net marking t) (fired (net_of net) t marking) marking (subst (λ a. a.number ≢ 0) allows.0 refused);
      fire_step = λ net marking modes o allows refused.
          allows.1 ∙ kept (test_step_refusal net marking modes) (fired_together (net_of net) (step_modes modes) marking) marking (subst (λ a. a.number ≢ 0) allows.0 refused);
      fleet_add = λ found net weights movements o allows refused.
          allows.1 ∙ ship-kept found (ship net weights movements) (subst (λ a. a.number ≢ 0) allows.0 refused);
      complement = λ net out o allows refused. allows.1 ∙ emitted-kept (complementing_refusal net (length out)) (complement_sheet net) out (subst (λ c. c.answer.number ≢ 0) allows.0 refused);
      to_version2 = λ net out o allows refused. allows.1 ∙ emitted-kept (convert_refusal One Two net (length out)) (converted_sheet Two net) out (subst (λ c. c.answer.number ≢ 0) allows.0 refused);
      to_version1 = λ net out o allows refused. allows.1 ∙ emitted-kept (convert_refusal Two One net (length out)) (converted_sheet One net) out (subst (λ c. c.answer.number ≢ 0) allows.0 refused);
      strip = λ net p out o allows refused. allows.1 ∙ emitted-kept (stripping_refusal net p (length out)) (stripped_sheet net p) out (subst (λ c. c.answer.number ≢ 0) allows.0 refused);
      export_pnml = λ net out o allows refused. allows.1 ∙ emitted-kept (export_refusal net (length out)) (export_text net) out (subst (λ c. c.answer.number ≢ 0) allows.0 refused);
      import_pnml = λ text out o allows refused. import_kept text out (allows.0, o.1) allows.1 (subst (λ c. c.answer.number ≢ 0) allows.2 refused);
      salvage = λ net damaged out o allows refused. allows.1 ∙ salvaged-kept net damaged out (subst (λ c. c.answer.number ≢ 0) allows.0 refused);
      statement = λ input out o allows refused. allows.1 ∙ text-kept input out (subst (λ c. c.answer.number ≢ 0) allows.0 refused);
      run = λ net movements marking o allows refused. run-leads net movements marking (ap (λ c. c.accepted) allows.0) allows.1;
      run_none = λ net movements marking o allows e.
          stays-is (rw e at (run-leads net movements marking (ap (λ c. c.accepted) allows.0) allows.1));
    }
