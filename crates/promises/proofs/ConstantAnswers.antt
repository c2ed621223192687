-- An input with the number 0 alone and one that never has it exclude every constant answer.
use Rattle.std.specs.Prelude.{Result, Option as Perhaps}
use Prim.Native.Nat.{ℕ, ◌≤◌, ◌<◌}
use mathlib.Core.Path.{◌≡◌, refl, sym, ◌∙◌, ap}
use mathlib.Core.Bool.{Bool, true, false}
use mathlib.Core.List.{List, [], ◌∷◌, append-nil}
use mathlib.Core.Option.{Option, none, some}
use lib.Dec.{eqb}
use lib.IntN.{pos}
use lib.ListN.{length, replicate, length-replicate}
use native.Mathlib.Omega.{arith}
use borrow.Author.Tests.{eqb-true, eqb-false, lt-ltb, le-ltb}
use Rattle.model.specs.declared.Thing.{Thing}
use Rattle.model.specs.declared.Thing.TheVariants.{Net, Weights, Movements}
use Rattle.model.specs.declared.Fault.TheVariants.{CutShort}
use Rattle.model.specs.declared.Refusal.{Refusal}
use Rattle.model.specs.Refusals.{Answer}
use Rattle.model.specs.declared.Version.{Version}
use Rattle.model.specs.declared.Version.TheVariants.{One, Two}
use Rattle.model.specs.First.{◌▸◌}
use Rattle.model.specs.Lists.{table}
use Rattle.model.specs.Refusals.{answer, number, wrong}
use Rattle.model.specs.Nets.{pair_no, mode_no}
use Rattle.model.proofs.First.{left-none, none_then, some_then}
use Rattle.heads.specs.Checks.{head_refusal}
use Rattle.sheets.specs.nets.Nets.{net_refusal}
use Rattle.sheets.specs.lists.Weights.{weights_refusal}
use Rattle.sheets.specs.lists.Movements.{movements_refusal}
use Rattle.sheets.specs.Whole.{whole_net, whole_weights, whole_movements, rest}
use Rattle.sheets.specs.Decoded.{net_of}
use Rattle.heads.specs.Bytes.{u16_at, u32_at}
use Rattle.sheets.proofs.written.SheetLength.{sheet-least}
use Rattle.sheets.specs.Emitted as emitting
use Rattle.fire.specs.Calls.{begin_refusal, test_refusal}
use Rattle.run.specs.Calls.{before_run, run_of, certify_refusal}
use Rattle.fire.specs.step.Calls.{test_step_refusal}
use Rattle.statement.specs.weigh.Calls.{figured, figure_refusal, change_refusal}
use Rattle.statement.specs.weigh.Calls as weigh
use Rattle.ships.specs.Ships.{ship}
use Rattle.ships.specs.Entered.{record_refusal, room_refusal, ship_refusal, entered}
use Rattle.ships.specs.Promises.{zeros}
use Rattle.statement.specs.exclude.Calls.{exclude_refusal}
use Rattle.opened.specs.dead.IsDead.{dead_refusal}
use Rattle.opened.specs.dead.IsDead as one
use Rattle.opened.specs.dead.FirstDead as first
use Rattle.complement.specs.Complemented.{complementing_refusal}
use Rattle.opened.specs.size.Sizes as sizing
use Rattle.convert.specs.Converted.{of_version, converted_sheet, lost_rule, convert_refusal, conversion_of}
use Rattle.convert.specs.Promises.{SameNet}
use Rattle.bare.specs.Strip.{strip, strip_refusal}
use Rattle.convert.specs.strip.Stripped.{stripped_sheet, stripping_refusal, stripped_of}
use Rattle.convert.specs.strip.Stripped as stripping
use Rattle.convert.proofs.Answers.{own-rule, roomy}
use Rattle.convert.proofs.Promises.{source_only_lem, converted_reads_lem}
use Rattle.export.specs.Exports.{export_refusal}
use Rattle.import.proofs.Promises.{refuses-none}
use Rattle.complement.specs.audit.Audits.{finds, auditing_refusal}
use Rattle.complement.specs.audit.Audits as auditing
use Rattle.run.specs.salvage.Salvaged.{salvage_refusal}
use Rattle.run.specs.salvage.Salvaged as salvaging
use Rattle.text.specs.Decimals.{digit, decimal, decimal_within, signed_decimal}
use Rattle.text.specs.Puts.{end_within, put_to}
use Rattle.text.specs.Allowed.{PutBytesAllows}
use Rattle.statement.specs.Replay.{room, stated}
use Rattle.statement.specs.Allowed.{StatementAllows}
use Rattle.promises.specs.OwnExample as own
use Rattle.statement.specs.Example as sheets
use Rattle.promises.specs.ConstantAnswers.{Only, Never, NotConstant, Varies, PartVaries, full, ConstantAnswers}
use Rattle.promises.proofs.OwnExample.{read_back_lem, weights-read, movements-read, tests, steps, runs-whole, own-example}

module _ {I O : Type 0} (Allows : I → O → Type 0) (number : O → ℕ) where
  not_constant_lem : (i j : I) → Only Allows number 0 i → Never Allows number 0 j → NotConstant Allows number
  not_constant_lem i j here there o = go (eqb (number o) 0) refl
    where
      go : (b : Bool) → eqb (number o) 0 ≡ b → (given : I) × Never Allows number (number o) given
      go true e = (j, λ p a q. there p a (q ∙ eqb-true (number o) 0 e))
      go false e = (i, λ p a q. eqb-false (number o) 0 e (sym q ∙ here p a))

  pub accepts_and_refuses : (i j : I) → Only Allows number 0 i → Never Allows number 0 j → Varies Allows number
  accepts_and_refuses i j here there = record { not_all_refused = (i, here); not_all_accepted = (j, there); not_constant = not_constant_lem i j here there }

  varies : (i j : I) → Only Allows number 0 i → Only Allows number 1 j → Varies Allows number
  varies i j here there = accepts_and_refuses i j here (λ o a e. omega (arith, there o a))

-- a part of length 0 and one of length 1
module _ {I : Type 0} (Allows : I → List ℕ → Type 0) (run : I → List ℕ) where
  part-varies : (i j : I) → Only Allows length 0 i → Only Allows length 1 j → 1 ≤ length (run i) → PartVaries Allows run
  part-varies i j here there held =
      record {
        not_whole_run = (i, λ a. omega (arith, here (run i) a));
        not_constant = not_constant_lem Allows length i j here (λ o a e. omega (arith, there o a));
      }

-- a lone byte is refused by 1, and so is any call that is given one for its net
abbrev lone : List ℕ
lone = 7 ∷ []

abbrev cut_short : Thing → Refusal
cut_short thing = wrong thing CutShort

head-cut : (thing : Thing) (fields : Option Refusal) → head_refusal thing lone ▸ fields ≡ some (cut_short thing)
unfolding head_refusal ◌▸◌
head-cut thing fields = refl

net-cut : net_refusal lone ≡ some (cut_short Net)
unfolding net_refusal
net-cut = head-cut Net _

weights-cut : weights_refusal 2 lone ≡ some (cut_short Weights)
unfolding weights_refusal
weights-cut = head-cut Weights _

movements-cut : movements_refusal lone ≡ some (cut_short Movements)
unfolding movements_refusal
movements-cut = head-cut Movements _

whole-cut : (more : Option Refusal) → whole_net lone ▸ more ≡ some (cut_short Net)
unfolding whole_net
whole-cut more = some_then more (some_then _ net-cut)

step_cut : test_step_refusal lone [] [] ≡ some (cut_short Net)
unfolding test_step_refusal
step_cut = whole-cut _

before-run-cut : before_run lone [] [] ≡ some (cut_short Net)
unfolding before_run
before-run-cut = whole-cut _

figure-cut : figure_refusal lone [] [] ≡ some (cut_short Net)
unfolding figure_refusal
figure-cut = whole-cut _

change-cut : change_refusal lone [] (mode_no 0) ≡ some (cut_short Net)
unfolding change_refusal
change-cut = whole-cut _

ship-cut : ship_refusal zeros (ship lone [] []) ≡ some (cut_short Net)
unfolding ship_refusal record_refusal room_refusal
ship-cut = none_then refl (none_then refl (whole-cut _))

exclude-cut : exclude_refusal lone [] [] ≡ some (cut_short Net)
unfolding exclude_refusal
exclude-cut = whole-cut _

dead-cut : dead_refusal lone (mode_no 0) ≡ some (cut_short Net)
unfolding dead_refusal
dead-cut = whole-cut _

complement-cut : complementing_refusal lone 0 ≡ some (cut_short Net)
unfolding complementing_refusal
complement-cut = whole-cut _

convert-cut : (source target : Version) → convert_refusal source target lone 0 ≡ some (cut_short Net)
unfolding convert_refusal of_version
convert-cut source target = some_then _ (head-cut Net _)

strip-cut : stripping_refusal lone (pair_no 0) 0 ≡ some (cut_short Net)
unfolding stripping_refusal
strip-cut = whole-cut _

export-cut : export_refusal lone 0 ≡ some (cut_short Net)
unfolding export_refusal
export-cut = whole-cut _

audit-cut : auditing_refusal lone [] [] ≡ some (cut_short Net)
unfolding auditing_refusal
audit-cut = whole-cut _

salvage-cut : salvage_refusal lone [] 0 ≡ some (cut_short Net)
unfolding salvage_refusal
salvage-cut = whole-cut _

-- the sheets of document 01's example, each a run of its own, hand back an empty part
net-accepted : net_refusal own.net ≡ none
unfolding whole_net
net-accepted = left-none _ _ read_back_lem.accepted

weights-accepted : weights_refusal 2 sheets.weights ≡ none
unfolding whole_weights
weights-accepted = left-none _ _ weights-read

movements-accepted : movements_refusal sheets.movements ≡ none
unfolding whole_movements
movements-accepted = left-none _ _ movements-read

after-net : rest (answer (net_refusal own.net)) own.net ≡ []
after-net = rw (append-nil own.net) at (read_back_lem.rest_after [])

after-weights : rest (answer (weights_refusal 2 sheets.weights)) sheets.weights ≡ []
unfolding rest u32_at u16_at
after-weights = rw weights-accepted

after-movements : rest (answer (movements_refusal sheets.movements)) sheets.movements ≡ []
unfolding rest u32_at u16_at
after-movements = rw movements-accepted

-- an answer's number, and a part's length
says : {o o' : Option Refusal} → o ≡ o' → (told : Answer) → told ≡ answer o → number told ≡ number (answer o')
says e told a = ap number a ∙ ap (λ o. number (answer o)) e

hands_back : {given part' : List ℕ} → given ≡ part' → (part : List ℕ) → part ≡ given → length part ≡ length part'
hands_back e part a = ap length (a ∙ e)

back_whole : {o : Option Refusal} {r : Refusal} (s : List ℕ) → o ≡ some r → rest (answer o) s ≡ s
unfolding rest
back_whole s e = rw e

-- the one digit of 0 in a slice of one byte and in an empty one
abbrev digits : List ℕ
digits = digit 0 ∷ []

fits : (o : Perhaps ℕ × List ℕ) → PutBytesAllows lone 0 digits o → full o.0 ≡ 0
unfolding put_to end_within
fits o a = ap full a.0

no_room : (o : Perhaps ℕ × List ℕ) → PutBytesAllows [] 0 digits o → full o.0 ≡ 1
unfolding put_to end_within
no_room o a = ap full a.0

-- a slice for the text of `replay`, whose length is never counted out
slice : (n : ℕ) → (out : List ℕ) × (n ≤ length out)
slice n = (replicate n 0, omega (arith, length-replicate {A = ℕ} n 0))

module _ (input out : List ℕ) (o : Result ℕ Refusal × List ℕ) (allowed : StatementAllows input out o) where
  text-written : room ≤ length out → (emitting.told o.0).carried.number ≡ 0
  unfolding stated
  text-written h = ap (λ s. (emitting.told s).carried.number) allowed.0 ∙ rw (le-ltb (length out) room h)

  text-refused : length out < room → (emitting.told o.0).carried.number ≡ 10
  unfolding stated
  text-refused h = ap (λ s. (emitting.told s).carried.number) allowed.0 ∙ rw (lt-ltb (length out) room h)

-- document 01's example in version 2 and back, each into a slice that is long enough
own_source : of_version One own.net ≡ none
own_source = source_only_lem.own One own.net read_back_lem.version ∙ read_back_lem.accepted

own-kept : lost_rule Two (net_of own.net).rule ≡ none
unfolding lost_rule
own-kept = refl

own-two : SameNet Two own.net
own-two = converted_reads_lem One Two own.net own_source own-kept

converts : (source target : Version) (net : List ℕ) → of_version source net ≡ none → lost_rule target (net_of net).rule ≡ none
    → (emitting.told (conversion_of source target net (slice (length (converted_sheet target net))).0)).carried.number ≡ 0
unfolding convert_refusal
converts source target net e k = rw (none_then e (roomy target net k (slice (length (converted_sheet target net))).1))

-- its pair 0 has K 5
own-strip : strip_refusal own.example (pair_no 0) ≡ none
unfolding strip_refusal strip table ◌▸◌
own-strip = refl

strips : (emitting.told (stripped_of own.net (pair_no 0) (slice (length (stripped_sheet own.net (pair_no 0)))).0)).carried.number ≡ 0
unfolding stripping_refusal stripping.room_refusal
strips =
    let room = slice (length (stripped_sheet own.net (pair_no 0))) in
    let accepted : strip_refusal (net_of own.net) (pair_no 0) ≡ none = rw read_back_lem.same own-strip in
    let fits : emitting.too_short (stripped_sheet own.net (pair_no 0)) (length room.0) ≡ none = rw (le-ltb (length room.0) (length (stripped_sheet own.net (pair_no 0))) room.1) refl in
    let none-refused : stripping_refusal own.net (pair_no 0) (length room.0) ≡ none = none_then read_back_lem.accepted (none_then accepted fits) in
    rw none-refused

pub constant-answers : ConstantAnswers
unfolding whole_net whole_weights whole_movements begin_refusal test_refusal run_of certify_refusal figured entered finds decimal decimal_within signed_decimal
constant-answers =
    record {
      read_net = varies _ _ own.net lone (says net-accepted) (says net-cut);
      read_weights = varies _ _ (sheets.weights, 2) (lone, 2) (says weights-accepted) (says weights-cut);
      read_movements = varies _ _ sheets.movements lone (says movements-accepted) (says movements-cut);
      after_net = part-varies _ _ own.net lone (hands_back after-net) (hands_back (back_whole lone net-cut)) (omega (arith, sheet-least One own.example));
      after_weights = part-varies _ _ (sheets.weights, 2) (lone, 2) (hands_back after-weights) (hands_back (back_whole lone weights-cut)) (omega arith);
      after_movements = part-varies _ _ sheets.movements lone (hands_back after-movements) (hands_back (back_whole lone movements-cut)) (omega arith);
      whole_net = varies _ _ own.net lone (says read_back_lem.accepted) (says (some_then _ net-cut));
      whole_weights = varies _ _ (sheets.weights, 2) (lone, 2) (says weights-read) (says (some_then _ weights-cut));
      whole_movements = varies _ _ sheets.movements lone (says movements-read) (says (some_then _ movements-cut));
      begin = varies _ _ (own.net, 0 ∷ 0 ∷ []) (lone, []) (λ o a. (own-example.begin o a).0) (λ o a. says (whole-cut _) o.0 a.0);
      test = varies _ _ (own.net, 3 ∷ 0 ∷ [], mode_no 0) (lone, [], mode_no 0) (says tests) (says (whole-cut _));
      fire =
          varies _ _ (own.net, 3 ∷ 0 ∷ [], mode_no 0) (lone, [], mode_no 0) (λ o a. (own-example.fire o a).0) (λ o a. says (whole-cut _) o.0 a.0);
      test_step = varies _ _ (own.net, 3 ∷ 0 ∷ [], 0 ∷ 0 ∷ 0 ∷ []) (lone, [], []) (says steps) (says step_cut);
      fire_step =
          varies _ _ (own.net, 3 ∷ 0 ∷ [], 0 ∷ 0 ∷ 0 ∷ []) (lone, [], []) (λ o a. (own-example.fire_step o a).0) (λ o a. says step_cut o.0 a.0);
      run =
          varies _ _ (own.net, own.three, 3 ∷ 0 ∷ []) (lone, [], []) (λ o a. says runs-whole o.0.answer (ap (λ r. r.answer) a.0))
          (λ o a. ap (λ r. number r.answer) a.0 ∙ rw before-run-cut);
      certify = varies _ _ (own.net, own.three, 0 ∷ 3 ∷ []) (lone, [], []) own-example.certify (says (whole-cut _));
      figure =
          varies _ _ (own.net, sheets.weights, 3 ∷ 0 ∷ []) (lone, [], []) (λ o a. ap (λ r. r.carried.number) (own-example.figure o a))
          (λ o a. ap (λ o. (weigh.told o).carried.number) a ∙ rw figure-cut);
      change =
          varies _ _ (own.net, sheets.weights, mode_no 0) (lone, [], mode_no 0) (λ o a. ap (λ r. r.carried.number) (own-example.change o a))
          (λ o a. ap (λ o. (weigh.told o).carried.number) a ∙ rw change-cut);
      add_ship =
          varies _ _ (zeros, own.net, sheets.weights, sheets.movements) (zeros, lone, [], []) (λ o a. (own-example.add_ship o a).0)
          (λ o a. says ship-cut o.0 a.0);
      exclude = varies _ _ (own.net, own.even, 3 ∷ 1 ∷ []) (lone, [], []) own-example.exclude (says exclude-cut);
      is_dead =
          varies _ _ (own.net, mode_no 0) (lone, mode_no 0) (λ o a. ap (λ r. r.carried.number) (own-example.is_dead o a))
          (λ o a. ap (λ o. (one.told o).carried.number) a ∙ rw dead-cut);
      first_dead =
          varies _ _ own.net lone (λ o a. ap (λ r. r.carried.number) (own-example.first_dead o a))
          (λ o a. ap (λ o. (first.told o).carried.number) a ∙ rw (some_then _ net-cut));
      size =
          varies _ _ own.net lone (λ o a. ap (λ r. r.carried.number) (own-example.size o a))
          (λ o a. ap (λ o. (sizing.told o).carried.number) a ∙ rw (some_then _ net-cut));
      complement =
          varies _ _ (own.net, own.room) (lone, []) (λ o a. ap (λ r. r.carried.number) (own-example.complement o a))
          (λ o a. ap (λ o. (emitting.told o).carried.number) a.0 ∙ rw complement-cut);
      to_version2 =
          varies _ _ (own.net, (slice (length (converted_sheet Two own.net))).0) (lone, [])
          (λ o a. ap (λ o. (emitting.told o).carried.number) a.0 ∙ converts One Two own.net own_source own-kept)
          (λ o a. ap (λ o. (emitting.told o).carried.number) a.0 ∙ rw (convert-cut One Two));
      to_version1 =
          let two = converted_sheet Two own.net in
          varies _ _ (two, (slice (length (converted_sheet One two))).0) (lone, [])
          (λ o a. ap (λ o. (emitting.told o).carried.number) a.0 ∙ converts Two One two own-two.back (ap (λ n. lost_rule One n.rule) own-two.same ∙ own-rule One own.net read_back_lem.version))
          (λ o a. ap (λ o. (emitting.told o).carried.number) a.0 ∙ rw (convert-cut Two One));
      strip =
          varies _ _ (own.net, pair_no 0, (slice (length (stripped_sheet own.net (pair_no 0)))).0) (lone, pair_no 0, [])
          (λ o a. ap (λ o. (emitting.told o).carried.number) a.0 ∙ strips)
          (λ o a. ap (λ o. (emitting.told o).carried.number) a.0 ∙ rw strip-cut);
      export_pnml =
          varies _ _ (own.complement_net, replicate 887 0) (lone, []) (λ o a. ap (λ r. r.carried.number) (own-example.export_pnml o a).0)
          (λ o a. ap (λ o. (emitting.told o).carried.number) a.0 ∙ rw export-cut);
      import_pnml =
          accepts_and_refuses _ _ (own.text, own.room) ([], []) (λ o a. ap (λ r. r.carried.number) (own-example.import_pnml o a).0) (refuses-none []);
      audit =
          varies _ _ (own.net, 3 ∷ 1 ∷ [], 2 ∷ 1 ∷ 3 ∷ []) (lone, [], []) (λ o a. ap (λ r. r.carried.number) (own-example.audit o a))
          (λ o a. ap (λ o. (auditing.told o).carried.number) a ∙ rw audit-cut);
      salvage =
          varies _ _ (own.net, sheets.movements, own.room) (lone, [], []) (λ o a. ap (λ r. r.carried.number) (own-example.salvage o a).told)
          (λ o a. ap (λ o. (salvaging.told o).carried.number) a.0 ∙ rw salvage-cut);
      put_bytes = varies _ _ (lone, 0, digits) ([], 0, digits) fits no_room;
      put_decimal = varies _ _ (lone, 0, 0) ([], 0, 0) fits no_room;
      put_signed = varies _ _ (lone, 0, pos 0) ([], 0, pos 0) fits no_room;
      statement =
          accepts_and_refuses _ _ ([], (slice room).0) ([], []) (λ o a. text-written [] (slice room).0 o a (slice room).1)
          (λ o a e. omega (arith, text-refused [] [] o a (omega arith)));
    }
