-- A refused call leaves what it was lent: each answer with a number has a refusal behind it.
use Rattle.std.specs.Prelude.{Some, None}
use Prim.Native.Nat.{ℕ, ◌+◌}
use mathlib.Core.Path.{◌≡◌, refl, ◌∙◌, ap, subst}
use mathlib.Core.Bool.{Bool, true, false, cond}
use mathlib.Core.List.{List, [], ◌++◌}
use mathlib.Core.Logic.{◌≢◌}
use mathlib.Core.Option.{Option}
use lib.Dec.{leb}
use lib.ListN.{length, take, drop}
use native.Mathlib.Omega.{arith}
use Rattle.model.specs.declared.Refusal.{Refusal}
use Rattle.model.specs.declared.Version.TheVariants.{One, Two}
use Rattle.model.specs.Refusals.{answer, number}
use Rattle.model.specs.Nets.{PNet}
use Rattle.movement.specs.Promises.{Leads, stays}
use Rattle.model.specs.Firing.{fired}
use Rattle.both_forms.specs.Steps.{fired_together}
use Rattle.sheets.specs.Decoded.{net_of, movements_of}
use Rattle.sheets.specs.Emitted.{emitted, told, output}
use Rattle.leaving.specs.Leaving.{written}
use Rattle.fire.specs.Calls.{begin_refusal, test_refusal}
use Rattle.run.specs.Calls.{run_of}
use Rattle.run.proofs.Promises.{runs_leave_lem}
use Rattle.fire.specs.step.Calls.{step_modes, test_step_refusal}
use Rattle.ships.specs.declared.Fleet.{Fleet}
use Rattle.ships.specs.Ships.{Ship, ship, voyage_of, with_voyage}
use Rattle.ships.specs.Entered.{ship_refusal, left, entered}
use Rattle.complement.specs.Complemented.{complement_sheet, complementing_refusal}
use Rattle.convert.specs.Converted.{converted_sheet, convert_refusal}
use Rattle.convert.specs.strip.Stripped.{stripped_sheet, stripping_refusal}
use Rattle.export.specs.Exports.{export_text, export_refusal}
use Rattle.import.proofs.Promises.{import_kept}
use Rattle.text.specs.Decimals.{decimal, signed_decimal}
use Rattle.run.specs.salvage.Salvaged as salvaging
use Rattle.writes.specs.Writes.{put_into}
use Rattle.text.specs.Puts.{end_within, put_to}
use Rattle.statement.specs.Replay.{replay_text, statement_refusal, stated, stated_in}
use Rattle.sentences.specs.Calls.{Public, emits, call, for_c}
use Rattle.sentences.specs.EveryCall.{Alone, full, alone, EveryCall, library, to_c, here, every}
use Rattle.sentences.specs.Demand1.{Keeps, ListLeaves, DemandOne}
use Rattle.sentences.proofs.Accepting.{left_alone}
use Rattle.sentences.proofs.ToldToC.{told-to-c}

kept : (o : Option Refusal) (new found : List ℕ) → number (answer o) ≢ 0 → written o new found ≡ found
kept o new found = left_alone (λ o. number (answer o)) (λ o. written o new found) refl (λ r. refl) o

ship-kept : (f : Fleet) (s : Ship) → number (entered f s).answer ≢ 0 → (entered f s).fleet ≡ f
unfolding entered
ship-kept f s = left_alone (λ o. number (answer o)) (λ o. left o f (with_voyage f (voyage_of s))) refl (λ r. refl) (ship_refusal f s)

emitted-kept : (o : Option Refusal) (bytes out : List ℕ) → (told (emitted o (length bytes))).carried.number ≢ 0 → output o bytes out ≡ out
emitted-kept o bytes out = left_alone (λ o. (told (emitted o (length bytes))).carried.number) (λ o. output o bytes out) refl (λ r. refl) o

salvaged-kept : (net damaged out : List ℕ) → (salvaging.told (salvaging.salvage_of net damaged out)).carried.number ≢ 0 → salvaging.output_of net damaged out ≡ out
salvaged-kept net damaged out =
    left_alone (λ o. (salvaging.told (salvaging.salvaged o (salvaging.report net damaged))).carried.number) (λ o. output o (salvaging.fresh_sheet net damaged) out)
    refl (λ r. refl) (salvaging.salvage_refusal net damaged (length out))

put_kept : (out : List ℕ) (at : ℕ) (bytes : List ℕ) → (full (put_to out at bytes)).number ≢ 0 → put_into out at bytes ≡ out
unfolding end_within put_to put_into
put_kept out at bytes e = go (leb (at + length bytes) (length out)) e
  where
    go : (t : Bool) → (full (cond t (Some (at + length bytes)) None)).number ≢ 0 → cond t (take at out ++ bytes ++ drop (at + length bytes) out) out ≡ out
    go true e = absurd (e refl)
    go false e = refl

text-kept : (input out : List ℕ) → (told (stated input out)).carried.number ≢ 0 → stated_in input out ≡ out
unfolding stated stated_in
text-kept input out = emitted-kept (statement_refusal (length out)) (replay_text input) out

pub stays-is : {net : PNet} {m m' : List ℕ} → Leads net [] m m' → m' ≡ m
stays-is stays = refl

-- an answer and what is left, of which it is known that a refused one leaves what was found
left_as : {A L : Type 0} {given a : A} {last l found : L} (n : A → ℕ) → (a ≡ given) × (l ≡ last) → (n given ≢ 0 → last ≡ found) → n a ≢ 0 → l ≡ found
left_as n e keeps refused = e.1 ∙ keeps (subst (λ a. n a ≢ 0) e.0 refused)

of-library : (c : Public) → c ≢ Public.run → Keeps (call c)
of-library Public.read_net h g a l e refused = refl
of-library Public.read_weights h g a l e refused = refl
of-library Public.read_movements h g a l e refused = refl
of-library Public.begin h g a l e refused = left_as number e (kept (begin_refusal g.0 g.1) (net_of g.0).start g.1) refused
of-library Public.test h g a l e refused = refl
of-library Public.fire h g a l e refused = left_as number e (kept (test_refusal g.0 g.1 g.2) (fired (net_of g.0) g.2 g.1) g.1) refused
of-library Public.test_step h g a l e refused = refl
of-library Public.fire_step h g a l e refused =
    left_as number e (kept (test_step_refusal g.0 g.1 g.2) (fired_together (net_of g.0) (step_modes g.2) g.1) g.1) refused
of-library Public.run h g a l e refused = absurd (h refl)
of-library Public.certify h g a l e refused = refl
of-library Public.figure h g a l e refused = refl
of-library Public.change h g a l e refused = refl
of-library Public.fleet_add h g a l e refused = left_as number e (ship-kept g.0 (ship g.1 g.2 g.3)) refused
of-library Public.exclude h g a l e refused = refl
of-library Public.is_dead h g a l e refused = refl
of-library Public.first_dead h g a l e refused = refl
of-library Public.size h g a l e refused = refl
of-library Public.complement h g a l e refused =
    left_as (λ a. (emits a).number) e (emitted-kept (complementing_refusal g.0 (length g.1)) (complement_sheet g.0) g.1) refused
of-library Public.to_version2 h g a l e refused =
    left_as (λ a. (emits a).number) e (emitted-kept (convert_refusal One Two g.0 (length g.1)) (converted_sheet Two g.0) g.1) refused
of-library Public.to_version1 h g a l e refused =
    left_as (λ a. (emits a).number) e (emitted-kept (convert_refusal Two One g.0 (length g.1)) (converted_sheet One g.0) g.1) refused
of-library Public.strip h g a l e refused =
    left_as (λ a. (emits a).number) e (emitted-kept (stripping_refusal g.0 g.1 (length g.2)) (stripped_sheet g.0 g.1) g.2) refused
of-library Public.export_pnml h g a l e refused =
    left_as (λ a. (emits a).number) e (emitted-kept (export_refusal g.0 (length g.1)) (export_text g.0) g.1) refused
of-library Public.import_pnml h g a l e refused = import_kept g.0 g.1 (a, l) e refused
of-library Public.audit h g a l e refused = refl
of-library Public.salvage h g a l e refused = left_as (λ a. (salvaging.told a).carried.number) e (salvaged-kept g.0 g.1 g.2) refused
of-library Public.statement h g a l e refused = left_as (λ a. (emits a).number) e (text-kept g.0 g.1) refused

pub fire-keeps : Keeps (call Public.fire)
fire-keeps = of-library Public.fire (λ e. let z : ◌≡◌ {A = ℕ} 0 1 = cc in absurd (omega arith))

pub ship-left : Keeps (call Public.fleet_add)
ship-left = of-library Public.fleet_add (λ e. let z : ◌≡◌ {A = ℕ} 0 1 = cc in absurd (omega arith))

pub step_keeps : Keeps (call Public.fire_step)
step_keeps = of-library Public.fire_step (λ e. let z : ◌≡◌ {A = ℕ} 0 1 = cc in absurd (omega arith))

of_c : (c : Public) → Keeps (call c) → Keeps (for_c c)
of_c c keeps g d l h refused =
    let t = told-to-c c g d l h in
    keeps g t.0 l t.1 (subst (λ x. x.number ≢ 0) t.2 refused)

of-alone : (c : Alone) → Keeps (alone c)
of-alone Alone.after_net g a l e refused = refl
of-alone Alone.after_weights g a l e refused = refl
of-alone Alone.after_movements g a l e refused = refl
of-alone Alone.whole_net g a l e refused = refl
of-alone Alone.whole_weights g a l e refused = refl
of-alone Alone.whole_movements g a l e refused = refl
of-alone Alone.put_bytes g a l e refused = left_as (λ a. (full a).number) e (put_kept g.0 g.1 g.2) refused
of-alone Alone.put_decimal g a l e refused = left_as (λ a. (full a).number) e (put_kept g.0 g.1 (decimal g.2)) refused
of-alone Alone.put_signed g a l e refused = left_as (λ a. (full a).number) e (put_kept g.0 g.1 (signed_decimal g.2)) refused

each : (c : EveryCall) → c ≢ library Public.run → c ≢ to_c Public.run → Keeps (every c)
each (library c) h k = of-library c (λ e. h (ap library e))
each (to_c c) h k = of_c c (of-library c (λ e. k (ap to_c e)))
each (here c) h k = of-alone c

run-leaves : (net movements marking left : List ℕ) {n : ℕ} → n ≡ (run_of net movements marking).accepted → left ≡ (run_of net movements marking).marking
    → ListLeaves net movements marking left n
run-leaves net movements marking left {n} e f =
    let leads : Leads (net_of net) (take n (movements_of movements)) marking left = rw (e, f) (runs_leave_lem net movements marking).leads in
    record { leads = leads; none = λ z. stays-is (rw z at leads) }

pub demand_one_lem : DemandOne
demand_one_lem =
    record {
      each = each;
      run = λ net movements marking left r e. run-leaves net movements marking left (ap (λ r. r.accepted) e.0) e.1;
      run_for_c = λ net movements marking left d h.
          run-leaves net movements marking left (ap (λ d. d.accepted) h.2 ∙ ap (λ r. r.accepted) h.1.0) h.1.1;
    }
