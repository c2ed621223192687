-- An input with the number 0 alone and one that never has it exclude every constant answer.
use Rattle.run.specs.declared.salvage.Report.{Report}
use Rattle.std.specs.Prelude.{Result, Ok, Err, Option as Perhaps}
use Prim.Native.Nat.{ℕ, ◌≤◌, ◌<◌}
use mathlib.Core.Path.{◌≡◌, refl, sym, ◌∙◌, ap}
use mathlib.Core.Bool.{Bool, true, false}
use mathlib.Core.List.{List, [], ◌∷◌, append-nil}
use mathlib.Core.Option.{Option, none, some}
use lib.Dec.{eqb}
use lib.IntN.{pos}
use lib.ListN.{length, replicate, length-replicate}
use native.Mathlib.Omega.{arith}
use borrow.Author.Tests.{eqb-true, eqb-false, lt-ltb, le-ltb}
use Rattle.model.specs.declared.Thing.{Thing}
use Rattle.model.specs.declared.Thing.TheVariants.{Net, Weights, Movements}
use Rattle.model.specs.declared.Fault.TheVariants.{CutShort}
use Rattle.model.specs.declared.Refusal.{Refusal}
use Rattle.model.specs.Refusals.{Answer}
use Rattle.model.specs.declared.Version.{Version}
use Rattle.model.specs.declared.Version.TheVariants.{One, Two}
use Rattle.model.specs.First.{◌▸◌}
use Rattle.model.specs.Lists.{table}
use Rattle.model.specs.Refusals.{answer, number, amount, wrong}
use Rattle.both_forms.specs.WorkedExamples.{own_example}
use Rattle.pnml.specs.Pnml.{opening, closing}
use Rattle.answers.specs.Told.{reported}
use Rattle.model.specs.Nets.{pair_no, mode_no}
use Rattle.model.proofs.First.{left-none, none_then, some_then}
use Rattle.heads.specs.Checks.{head_refusal}
use Rattle.sheets.specs.nets.Nets.{net_refusal}
use Rattle.sheets.specs.lists.Weights.{weights_refusal}
use Rattle.sheets.specs.lists.Movements.{movements_refusal}
use Rattle.sheets.specs.Whole.{whole_net, whole_weights, whole_movements, rest}
use Rattle.sheets.specs.Decoded.{net_of}
use Rattle.heads.specs.Bytes.{u16_at, u32_at}
use Rattle.sheets.proofs.written.SheetLength.{sheet-least}
use Rattle.sheets.specs.Emitted as emitting
use Rattle.fire.specs.Calls.{begin_refusal, test_refusal}
use Rattle.run.specs.Calls.{before_run, run_of, certify_refusal}
use Rattle.fire.specs.step.Calls.{test_step_refusal}
use Rattle.statement.specs.weigh.Calls.{figured, figure_refusal, change_refusal}
use Rattle.statement.specs.weigh.Calls as figuring
use Rattle.ships.specs.Ships.{ship}
use Rattle.ships.specs.Entered.{record_refusal, room_refusal, ship_refusal, entered}
use Rattle.ships.specs.Promises.{zeros}
use Rattle.statement.specs.exclude.Calls.{exclude_refusal}
use Rattle.opened.specs.dead.IsDead.{dead_refusal}
use Rattle.opened.specs.dead.IsDead as one
use Rattle.opened.specs.dead.FirstDead as first
use Rattle.complement.specs.Complemented.{complementing_refusal}
use Rattle.opened.specs.size.Sizes as sizing
use Rattle.convert.specs.Converted.{of_version, converted_sheet, lost_rule, convert_refusal, conversion_of}
use Rattle.convert.specs.Promises.{SameNet}
use Rattle.bare.specs.Strip.{strip, strip_refusal}
use Rattle.convert.specs.strip.Stripped.{stripped_sheet, stripping_refusal, stripped_of}
use Rattle.convert.specs.strip.Stripped as stripping
use Rattle.convert.proofs.Answers.{own-rule, roomy}
use Rattle.convert.proofs.Promises.{source_only_lem, converted_reads_lem}
use Rattle.export.specs.Exports.{export_refusal}
use Rattle.import.proofs.Promises.{refuses-none}
use Rattle.complement.specs.audit.Audits.{finds, auditing_refusal}
use Rattle.complement.specs.audit.Audits as auditing
use Rattle.run.specs.salvage.Salvaged.{salvage_refusal}
use Rattle.run.specs.salvage.Salvaged as salvaging
use Rattle.text.specs.Decimals.{digit, decimal, decimal_within, signed_decimal}
use Rattle.text.specs.Puts.{end_within, put_to}
use Rattle.text.specs.Allowed.{PutBytesAllows}
use Rattle.statement.specs.Replay.{room, stated}
use Rattle.statement.specs.Allowed.{StatementAllows}
use Rattle.sentences.specs.more.OwnExample as own
use Rattle.statement.specs.Example as sheets
use Rattle.sentences.specs.Bytes.{Bytes}
use Rattle.sentences.specs.Call.{Call, Telling, told_by, Modes, Counts}
use Rattle.sentences.specs.Calls.{AFleet, Public, call, told, for_c}
use Rattle.sentences.specs.EveryCall.{Alone, full, alone, EveryCall, every}
use Rattle.sentences.specs.ConstantAnswers.{Only, Never, NotConstant, Varies, ConstantAnswers, stop_by, Stopped, ConstantAmounts}
use Rattle.sentences.proofs.Handed.{written_out, none_below, zeros-below}
use Rattle.sentences.proofs.AllBytes.{sheet-bytes}
use Rattle.sentences.proofs.ToldToC.{carried-told}
use Rattle.sentences.proofs.OwnExample.{read_back_lem, weights-read, movements-read, tests, lacks, steps, lacks-together, runs-whole, run_is, certifies, lacks-certified, salvages-whole, salvages-three, own-example}

module _ (c : Call) (mark : c.Answers → ℕ) where
  not_constant_lem : (i j : c.Given) → Only c mark 0 i → Never c mark 0 j → NotConstant c mark
  not_constant_lem i j here there a = go (eqb (mark a) 0) refl
    where
      go : (b : Bool) → eqb (mark a) 0 ≡ b → (g : c.Given) × Never c mark (mark a) g
      go true e = (j, (there.0, λ p l h q. there.1 p l h (q ∙ eqb-true (mark a) 0 e)))
      go false e = (i, (here.0, λ p l h q. eqb-false (mark a) 0 e (sym q ∙ here.1 p l h)))

  pub accepts_and_refuses : (i j : c.Given) → Only c mark 0 i → Never c mark 0 j → Varies c mark
  accepts_and_refuses i j here there = record { not_all_refused = (i, here); not_all_accepted = (j, there); not_constant = not_constant_lem i j here there }

  varies : (n : ℕ) (i j : c.Given) → 0 < n → Only c mark 0 i → Only c mark n j → Varies c mark
  varies n i j above here there = accepts_and_refuses i j here (there.0, λ a l h e. omega (arith, there.1 a l h))

-- what is told varies with what is answered
module _ (c : Call) (t : Telling c) (mark : c.Answers → ℕ) (mark' : t.Told → ℕ) (reads : (g : c.Given) (a : c.Answers) → mark' (t.tell g a) ≡ mark a) where
  pub tells : Varies c mark → Varies (told_by c t) mark'
  tells v =
      accepts_and_refuses (told_by c t) mark' v.not_all_refused.0 v.not_all_accepted.0
      (v.not_all_refused.1.0, λ d l h. ap mark' h.2 ∙ reads _ h.0 ∙ v.not_all_refused.1.1 h.0 l h.1)
      (v.not_all_accepted.1.0, λ d l h e. v.not_all_accepted.1.1 h.0 l h.1 (sym (ap mark' h.2 ∙ reads _ h.0) ∙ e))

-- a lone byte is refused by 1, and so is any call that is given one for its net
abbrev lone : List ℕ
lone = 7 ∷ []

abbrev cut_short : Thing → Refusal
cut_short thing = wrong thing CutShort

head-cut : (thing : Thing) (fields : Option Refusal) → head_refusal thing lone ▸ fields ≡ some (cut_short thing)
unfolding head_refusal ◌▸◌
head-cut thing fields = refl

net-cut : net_refusal lone ≡ some (cut_short Net)
unfolding net_refusal
net-cut = head-cut Net _

weights-cut : weights_refusal 2 lone ≡ some (cut_short Weights)
unfolding weights_refusal
weights-cut = head-cut Weights _

movements-cut : movements_refusal lone ≡ some (cut_short Movements)
unfolding movements_refusal
movements-cut = head-cut Movements _

whole-cut : (more : Option Refusal) → whole_net lone ▸ more ≡ some (cut_short Net)
unfolding whole_net
whole-cut more = some_then more (some_then _ net-cut)

step_cut : test_step_refusal lone [] [] ≡ some (cut_short Net)
unfolding test_step_refusal
step_cut = whole-cut _

before-run-cut : before_run lone [] [] ≡ some (cut_short Net)
unfolding before_run
before-run-cut = whole-cut _

figure-cut : figure_refusal lone [] [] ≡ some (cut_short Net)
unfolding figure_refusal
figure-cut = whole-cut _

change-cut : change_refusal lone [] (mode_no 0) ≡ some (cut_short Net)
unfolding change_refusal
change-cut = whole-cut _

ship-cut : ship_refusal zeros (ship lone [] []) ≡ some (cut_short Net)
unfolding ship_refusal record_refusal room_refusal
ship-cut = none_then refl (none_then refl (whole-cut _))

exclude-cut : exclude_refusal lone [] [] ≡ some (cut_short Net)
unfolding exclude_refusal
exclude-cut = whole-cut _

dead-cut : dead_refusal lone (mode_no 0) ≡ some (cut_short Net)
unfolding dead_refusal
dead-cut = whole-cut _

complement-cut : complementing_refusal lone 0 ≡ some (cut_short Net)
unfolding complementing_refusal
complement-cut = whole-cut _

convert-cut : (source target : Version) → convert_refusal source target lone 0 ≡ some (cut_short Net)
unfolding convert_refusal of_version
convert-cut source target = some_then _ (head-cut Net _)

strip-cut : stripping_refusal lone (pair_no 0) 0 ≡ some (cut_short Net)
unfolding stripping_refusal
strip-cut = whole-cut _

export-cut : export_refusal lone 0 ≡ some (cut_short Net)
unfolding export_refusal
export-cut = whole-cut _

audit-cut : auditing_refusal lone [] [] ≡ some (cut_short Net)
unfolding auditing_refusal
audit-cut = whole-cut _

salvage-cut : salvage_refusal lone [] 0 ≡ some (cut_short Net)
unfolding salvage_refusal
salvage-cut = whole-cut _

-- the sheets of document 01's example, each a run of its own, hand back an empty part
net-accepted : net_refusal own.net ≡ none
unfolding whole_net
net-accepted = left-none _ _ read_back_lem.accepted

weights-accepted : weights_refusal 2 sheets.weights ≡ none
unfolding whole_weights
weights-accepted = left-none _ _ weights-read

movements-accepted : movements_refusal sheets.movements ≡ none
unfolding whole_movements
movements-accepted = left-none _ _ movements-read

after-net : rest (answer (net_refusal own.net)) own.net ≡ []
after-net = rw (append-nil own.net) at (read_back_lem.rest_after [])

after-weights : rest (answer (weights_refusal 2 sheets.weights)) sheets.weights ≡ []
unfolding rest u32_at u16_at
after-weights = rw weights-accepted

after-movements : rest (answer (movements_refusal sheets.movements)) sheets.movements ≡ []
unfolding rest u32_at u16_at
after-movements = rw movements-accepted

-- an answer's number, and a part's length
says : {o o' : Option Refusal} → o ≡ o' → (told : Answer) → told ≡ answer o → number told ≡ number (answer o')
says e told a = ap number a ∙ ap (λ o. number (answer o)) e

hands_back : {given part' : List ℕ} → given ≡ part' → (part : List ℕ) → part ≡ given → length part ≡ length part'
hands_back e part a = ap length (a ∙ e)

back_whole : {o : Option Refusal} {r : Refusal} (s : List ℕ) → o ≡ some r → rest (answer o) s ≡ s
unfolding rest
back_whole s e = rw e

-- the one digit of 0 in a slice of one byte and in an empty one
abbrev digits : List ℕ
digits = digit 0 ∷ []

fits : (p : Perhaps ℕ) (l : List ℕ) → PutBytesAllows lone 0 digits (p, l) → (full p).number ≡ 0
unfolding put_to end_within
fits p l h = ap (λ p. (full p).number) h.0

no_room : (p : Perhaps ℕ) (l : List ℕ) → PutBytesAllows [] 0 digits (p, l) → (full p).number ≡ 1
unfolding put_to end_within
no_room p l h = ap (λ p. (full p).number) h.0

-- a slice for the text of `replay`, whose length is never counted out
slice : (n : ℕ) → (out : List ℕ) × (n ≤ length out)
slice n = (replicate n 0, omega (arith, length-replicate {A = ℕ} n 0))

module _ (input out : List ℕ) (o : Result ℕ Refusal × List ℕ) (allowed : StatementAllows input out o) where
  text-written : room ≤ length out → (emitting.told o.0).carried.number ≡ 0
  unfolding stated
  text-written h = ap (λ s. (emitting.told s).carried.number) allowed.0 ∙ rw (le-ltb (length out) room h)

  text-refused : length out < room → (emitting.told o.0).carried.number ≡ 10
  unfolding stated
  text-refused h = ap (λ s. (emitting.told s).carried.number) allowed.0 ∙ rw (lt-ltb (length out) room h)

-- document 01's example in version 2 and back, each into a slice that is long enough
own_source : of_version One own.net ≡ none
own_source = source_only_lem.own One own.net read_back_lem.version ∙ read_back_lem.accepted

own-kept : lost_rule Two (net_of own.net).rule ≡ none
unfolding lost_rule
own-kept = refl

own-two : SameNet Two own.net
own-two = converted_reads_lem One Two own.net own_source own-kept

converts : (source target : Version) (net : List ℕ) → of_version source net ≡ none → lost_rule target (net_of net).rule ≡ none
    → (emitting.told (conversion_of source target net (slice (length (converted_sheet target net))).0)).carried.number ≡ 0
unfolding convert_refusal
converts source target net e k = rw (none_then e (roomy target net k (slice (length (converted_sheet target net))).1))

-- its pair 0 has K 5
own-strip : strip_refusal own.example (pair_no 0) ≡ none
unfolding strip_refusal strip table ◌▸◌
own-strip = refl

strips : (emitting.told (stripped_of own.net (pair_no 0) (slice (length (stripped_sheet own.net (pair_no 0)))).0)).carried.number ≡ 0
unfolding stripping_refusal stripping.room_refusal
strips =
    let room = slice (length (stripped_sheet own.net (pair_no 0))) in
    let accepted : strip_refusal (net_of own.net) (pair_no 0) ≡ none = rw read_back_lem.same own-strip in
    let fits : emitting.too_short (stripped_sheet own.net (pair_no 0)) (length room.0) ≡ none = rw (le-ltb (length room.0) (length (stripped_sheet own.net (pair_no 0))) room.1) refl in
    let none-refused : stripping_refusal own.net (pair_no 0) (length room.0) ≡ none = none_then read_back_lem.accepted (none_then accepted fits) in
    rw none-refused

-- what is handed over: the example's bytes and counts
three-modes : Modes (0 ∷ 0 ∷ 0 ∷ [])
three-modes = written_out 65536 (0 ∷ 0 ∷ 0 ∷ []) refl

digit-bytes : Bytes digits
digit-bytes = written_out 256 digits refl

whole-cut-alone : whole_net lone ≡ some (cut_short Net)
unfolding whole_net
whole-cut-alone = some_then _ net-cut

pub net-bytes : Bytes own.net
net-bytes = sheet-bytes One own.example

lone-bytes : Bytes lone
lone-bytes = written_out 256 lone refl

weight-bytes : Bytes sheets.weights
weight-bytes = written_out 256 sheets.weights refl

pub movement-bytes : Bytes sheets.movements
movement-bytes = written_out 256 sheets.movements refl

three-bytes : Bytes own.three
three-bytes = written_out 256 own.three refl

even-bytes : Bytes own.even
even-bytes = written_out 256 own.even refl

text-bytes : Bytes own.text
unfolding opening closing
text-bytes = written_out 256 own.text refl

slice-bytes : (n : ℕ) → Bytes (slice n).0
unfolding slice
slice-bytes n = zeros-below 256 n (omega arith)

room-bytes : Bytes own.room
room-bytes = zeros-below 256 91 (omega arith)

no_bytes : Bytes []
no_bytes = none_below 256

no-counts : Counts []
no-counts = none_below 4294967296

pub start : Counts (3 ∷ 0 ∷ [])
start = written_out 4294967296 (3 ∷ 0 ∷ []) refl

no_ships : AFleet zeros
no_ships =
    record {
      ships = omega arith;
      movements = omega arith;
      refused = (omega arith, omega arith, omega arith, omega arith, omega arith);
      added = omega arith;
      removed = omega arith;
    }

abbrev ByNumber : Call → Type 0
ByNumber c = Varies c (λ a. (c.carried a).number)

of-library : (c : Public) → ByNumber (call c)
unfolding begin_refusal test_refusal run_of certify_refusal figured entered finds
of-library Public.read_net = varies _ _ 1 own.net lone (omega arith) (net-bytes, λ a l. says net-accepted a) (lone-bytes, λ a l. says net-cut a)
of-library Public.read_weights =
    varies _ _ 1 (sheets.weights, 2) (lone, 2) (omega arith) ((weight-bytes, omega arith), λ a l. says weights-accepted a) ((lone-bytes, omega arith), λ a l. says weights-cut a)
of-library Public.read_movements =
    varies _ _ 1 sheets.movements lone (omega arith) (movement-bytes, λ a l. says movements-accepted a) (lone-bytes, λ a l. says movements-cut a)
of-library Public.begin =
    varies _ _ 1 (own.net, 0 ∷ 0 ∷ []) (lone, []) (omega arith) ((net-bytes, written_out 4294967296 (0 ∷ 0 ∷ []) refl), λ a l h. (own-example.begin (a, l) h).0)
    ((lone-bytes, no-counts), λ a l h. says (whole-cut _) a h.0)
of-library Public.test =
    varies _ _ 1 (own.net, 3 ∷ 0 ∷ [], mode_no 0) (lone, [], mode_no 0) (omega arith) ((net-bytes, start, omega arith), λ a l. says tests a)
    ((lone-bytes, no-counts, omega arith), λ a l. says (whole-cut _) a)
of-library Public.fire =
    varies _ _ 1 (own.net, 3 ∷ 0 ∷ [], mode_no 0) (lone, [], mode_no 0) (omega arith) ((net-bytes, start, omega arith), λ a l h. (own-example.fire (a, l) h).0)
    ((lone-bytes, no-counts, omega arith), λ a l h. says (whole-cut _) a h.0)
of-library Public.test_step =
    varies _ _ 1 (own.net, 3 ∷ 0 ∷ [], 0 ∷ 0 ∷ 0 ∷ []) (lone, [], []) (omega arith) ((net-bytes, start, three-modes), λ a l. says steps a)
    ((lone-bytes, no-counts, none_below 65536), λ a l. says step_cut a)
of-library Public.fire_step =
    varies _ _ 1 (own.net, 3 ∷ 0 ∷ [], 0 ∷ 0 ∷ 0 ∷ []) (lone, [], []) (omega arith) ((net-bytes, start, three-modes), λ a l h. (own-example.fire_step (a, l) h).0)
    ((lone-bytes, no-counts, none_below 65536), λ a l h. says step_cut a h.0)
of-library Public.run =
    varies _ _ 1 (own.net, own.three, 3 ∷ 0 ∷ []) (lone, [], []) (omega arith)
    ((net-bytes, three-bytes, start), λ a l h. says runs-whole a.answer (ap (λ r. r.answer) h.0))
    ((lone-bytes, no_bytes, no-counts), λ a l h. ap (λ r. number r.answer) h.0 ∙ rw before-run-cut)
of-library Public.certify =
    varies _ _ 1 (own.net, own.three, 0 ∷ 3 ∷ []) (lone, [], []) (omega arith)
    ((net-bytes, three-bytes, written_out 4294967296 (0 ∷ 3 ∷ []) refl), λ a l. own-example.certify a) ((lone-bytes, no_bytes, no-counts), λ a l. says (whole-cut _) a)
of-library Public.figure =
    varies _ _ 1 (own.net, sheets.weights, 3 ∷ 0 ∷ []) (lone, [], []) (omega arith)
    ((net-bytes, weight-bytes, start), λ a l h. ap (λ r. r.carried.number) (own-example.figure a h))
    ((lone-bytes, no_bytes, no-counts), λ a l h. ap (λ o. (figuring.told o).carried.number) h ∙ rw figure-cut)
of-library Public.change =
    varies _ _ 1 (own.net, sheets.weights, mode_no 0) (lone, [], mode_no 0) (omega arith)
    ((net-bytes, weight-bytes, omega arith), λ a l h. ap (λ r. r.carried.number) (own-example.change a h))
    ((lone-bytes, no_bytes, omega arith), λ a l h. ap (λ o. (figuring.told o).carried.number) h ∙ rw change-cut)
of-library Public.fleet_add =
    varies _ _ 1 (zeros, own.net, sheets.weights, sheets.movements) (zeros, lone, [], []) (omega arith)
    ((no_ships, net-bytes, weight-bytes, movement-bytes), λ a l h. (own-example.add_ship (a, l) h).0)
    ((no_ships, lone-bytes, no_bytes, no_bytes), λ a l h. says ship-cut a h.0)
of-library Public.exclude =
    varies _ _ 1 (own.net, own.even, 3 ∷ 1 ∷ []) (lone, [], []) (omega arith)
    ((net-bytes, even-bytes, written_out 4294967296 (3 ∷ 1 ∷ []) refl), λ a l. own-example.exclude a) ((lone-bytes, no_bytes, no-counts), λ a l. says exclude-cut a)
of-library Public.is_dead =
    varies _ _ 1 (own.net, mode_no 0) (lone, mode_no 0) (omega arith) ((net-bytes, omega arith), λ a l h. ap (λ r. r.carried.number) (own-example.is_dead a h))
    ((lone-bytes, omega arith), λ a l h. ap (λ o. (one.told o).carried.number) h ∙ rw dead-cut)
of-library Public.first_dead =
    varies _ _ 1 own.net lone (omega arith) (net-bytes, λ a l h. ap (λ r. r.carried.number) (own-example.first_dead a h))
    (lone-bytes, λ a l h. ap (λ o. (first.told o).carried.number) h ∙ rw whole-cut-alone)
of-library Public.size =
    varies _ _ 1 own.net lone (omega arith) (net-bytes, λ a l h. ap (λ r. r.carried.number) (own-example.size a h))
    (lone-bytes, λ a l h. ap (λ o. (sizing.told o).carried.number) h ∙ rw whole-cut-alone)
of-library Public.complement =
    varies _ _ 1 (own.net, own.room) (lone, []) (omega arith) ((net-bytes, room-bytes), λ a l h. ap (λ r. r.carried.number) (own-example.complement (a, l) h))
    ((lone-bytes, no_bytes), λ a l h. ap (λ o. (emitting.told o).carried.number) h.0 ∙ rw complement-cut)
of-library Public.to_version2 =
    varies _ _ 1 (own.net, (slice (length (converted_sheet Two own.net))).0) (lone, []) (omega arith)
    ((net-bytes, slice-bytes _), λ a l h. ap (λ o. (emitting.told o).carried.number) h.0 ∙ converts One Two own.net own_source own-kept)
    ((lone-bytes, no_bytes), λ a l h. ap (λ o. (emitting.told o).carried.number) h.0 ∙ rw (convert-cut One Two))
of-library Public.to_version1 =
    let two = converted_sheet Two own.net in
    varies _ _ 1 (two, (slice (length (converted_sheet One two))).0) (lone, []) (omega arith) (
      (sheet-bytes Two (net_of own.net), slice-bytes _),
      λ a l h. ap (λ o. (emitting.told o).carried.number) h.0
          ∙ converts Two One two own-two.back (ap (λ n. lost_rule One n.rule) own-two.same ∙ own-rule One own.net read_back_lem.version),
    )
    ((lone-bytes, no_bytes), λ a l h. ap (λ o. (emitting.told o).carried.number) h.0 ∙ rw (convert-cut Two One))
of-library Public.strip =
    varies _ _ 1 (own.net, pair_no 0, (slice (length (stripped_sheet own.net (pair_no 0)))).0) (lone, pair_no 0, []) (omega arith)
    ((net-bytes, omega arith, slice-bytes _), λ a l h. ap (λ o. (emitting.told o).carried.number) h.0 ∙ strips)
    ((lone-bytes, omega arith, no_bytes), λ a l h. ap (λ o. (emitting.told o).carried.number) h.0 ∙ rw strip-cut)
of-library Public.export_pnml =
    varies _ _ 1 (own.complement_net, replicate 887 0) (lone, []) (omega arith)
    ((sheet-bytes One own_example.printed, zeros-below 256 887 (omega arith)), λ a l h. ap (λ r. r.carried.number) (own-example.export_pnml (a, l) h).0)
    ((lone-bytes, no_bytes), λ a l h. ap (λ o. (emitting.told o).carried.number) h.0 ∙ rw export-cut)
of-library Public.import_pnml =
    accepts_and_refuses _ _ (own.text, own.room) ([], []) ((text-bytes, room-bytes), λ a l h. ap (λ r. r.carried.number) (own-example.import_pnml (a, l) h).0)
    ((no_bytes, no_bytes), λ a l. refuses-none [] (a, l))
of-library Public.audit =
    varies _ _ 1 (own.net, 3 ∷ 1 ∷ [], 2 ∷ 1 ∷ 3 ∷ []) (lone, [], []) (omega arith)
    ((net-bytes, written_out 4294967296 (3 ∷ 1 ∷ []) refl, written_out 4294967296 (2 ∷ 1 ∷ 3 ∷ []) refl), λ a l h. ap (λ r. r.carried.number) (own-example.audit a h))
    ((lone-bytes, no-counts, no-counts), λ a l h. ap (λ o. (auditing.told o).carried.number) h ∙ rw audit-cut)
of-library Public.salvage =
    varies _ _ 1 (own.net, sheets.movements, own.room) (lone, [], []) (omega arith)
    ((net-bytes, movement-bytes, room-bytes), λ a l h. ap (λ r. r.carried.number) (own-example.salvage (a, l) h).told)
    ((lone-bytes, no_bytes, no_bytes), λ a l h. ap (λ o. (salvaging.told o).carried.number) h.0 ∙ rw salvage-cut)
of-library Public.statement =
    accepts_and_refuses _ _ ([], (slice room).0) ([], []) ((no_bytes, slice-bytes room), λ a l h. text-written [] (slice room).0 (a, l) h (slice room).1)
    ((no_bytes, no_bytes), λ a l h e. omega (arith, text-refused [] [] (a, l) h (omega arith)))

of-alone : (c : Alone) → ByNumber (alone c)
unfolding whole_net whole_weights whole_movements decimal decimal_within signed_decimal
of-alone Alone.after_net =
    varies _ _ 1 own.net lone (omega arith) (net-bytes, λ a l. hands_back after-net a) (lone-bytes, λ a l. hands_back (back_whole lone net-cut) a)
of-alone Alone.after_weights =
    varies _ _ 1 (sheets.weights, 2) (lone, 2) (omega arith) ((weight-bytes, omega arith), λ a l. hands_back after-weights a)
    ((lone-bytes, omega arith), λ a l. hands_back (back_whole lone weights-cut) a)
of-alone Alone.after_movements =
    varies _ _ 1 sheets.movements lone (omega arith) (movement-bytes, λ a l. hands_back after-movements a) (lone-bytes, λ a l. hands_back (back_whole lone movements-cut) a)
of-alone Alone.whole_net = varies _ _ 1 own.net lone (omega arith) (net-bytes, λ a l. says read_back_lem.accepted a) (lone-bytes, λ a l. says (some_then _ net-cut) a)
of-alone Alone.whole_weights =
    varies _ _ 1 (sheets.weights, 2) (lone, 2) (omega arith) ((weight-bytes, omega arith), λ a l. says weights-read a) ((lone-bytes, omega arith), λ a l. says (some_then _ weights-cut) a)
of-alone Alone.whole_movements =
    varies _ _ 1 sheets.movements lone (omega arith) (movement-bytes, λ a l. says movements-read a) (lone-bytes, λ a l. says (some_then _ movements-cut) a)
of-alone Alone.put_bytes =
    varies _ _ 1 (lone, 0, digits) ([], 0, digits) (omega arith) ((lone-bytes, omega arith, digit-bytes), fits) ((no_bytes, omega arith, digit-bytes), no_room)
of-alone Alone.put_decimal = varies _ _ 1 (lone, 0, 0) ([], 0, 0) (omega arith) ((lone-bytes, omega arith, omega arith), fits) ((no_bytes, omega arith, omega arith), no_room)
of-alone Alone.put_signed =
    varies _ _ 1 (lone, 0, pos 0) ([], 0, pos 0) (omega arith) ((lone-bytes, omega arith, omega arith), fits) ((no_bytes, omega arith, omega arith), no_room)

each : (c : EveryCall) → ByNumber (every c)
each (EveryCall.library c) = of-library c
each (EveryCall.to_c c) = tells (call c) (told c) _ _ (λ g a. ap (λ x. x.number) (carried-told c g a)) (of-library c)
each (EveryCall.here c) = of-alone c

pub constant-answers : ConstantAnswers
constant-answers =
    record {
      each = each;
      after_net = (own.net, net-bytes, λ l h. omega (arith, sheet-least One own.example, hands_back after-net own.net h));
      after_weights = ((sheets.weights, 2), (weight-bytes, omega arith), λ l h. omega (arith, hands_back after-weights sheets.weights h));
      after_movements = (sheets.movements, movement-bytes, λ l h. omega (arith, hands_back after-movements sheets.movements h));
    }

-- amounts: what is accepted carries 0, and what is refused another
by : {o o' : Option Refusal} → o ≡ o' → (told : Answer) → told ≡ answer o → amount told ≡ amount (answer o')
by e told a = ap amount a ∙ ap (λ o. amount (answer o)) e

abbrev AmountVaries : Call → Type 0
AmountVaries c = Varies c (λ a. (c.carried a).amount)

module _ (calls : Public → Call) where
  pub record Six : Type 0 where
    pub test : AmountVaries (calls Public.test)
    pub fire : AmountVaries (calls Public.fire)
    pub test_step : AmountVaries (calls Public.test_step)
    pub fire_step : AmountVaries (calls Public.fire_step)
    pub run : AmountVaries (calls Public.run)
    pub certify : AmountVaries (calls Public.certify)

  stopped : Six → Stopped calls
  stopped v =
      record {
        test = v.test.not_constant;
        fire = v.fire.not_constant;
        test_step = v.test_step.not_constant;
        fire_step = v.fire_step.not_constant;
        run = v.run.not_constant;
        certify = v.certify.not_constant;
      }

six : Six call
six =
    record {
      test = varies _ _ 1 (own.net, 3 ∷ 0 ∷ [], mode_no 0) (own.net, 0 ∷ 3 ∷ [], mode_no 0) (omega arith) ((net-bytes, start, omega arith), λ a l. by tests a) ((net-bytes, written_out 4294967296 (0 ∷ 3 ∷ []) refl, omega arith), λ a l. by lacks a);
      fire = varies _ _ 1 (own.net, 3 ∷ 0 ∷ [], mode_no 0) (own.net, 0 ∷ 3 ∷ [], mode_no 0) (omega arith) ((net-bytes, start, omega arith), λ a l h. by tests a h.0) ((net-bytes, written_out 4294967296 (0 ∷ 3 ∷ []) refl, omega arith), λ a l h. by lacks a h.0);
      test_step = varies _ _ 2 (own.net, 3 ∷ 0 ∷ [], 0 ∷ 0 ∷ 0 ∷ []) (own.net, 3 ∷ 0 ∷ [], own.five) (omega arith) ((net-bytes, start, three-modes), λ a l. by steps a) ((net-bytes, start, zeros-below 65536 5 (omega arith)), λ a l. by lacks-together a);
      fire_step = varies _ _ 2 (own.net, 3 ∷ 0 ∷ [], 0 ∷ 0 ∷ 0 ∷ []) (own.net, 3 ∷ 0 ∷ [], own.five) (omega arith) ((net-bytes, start, three-modes), λ a l h. by steps a h.0) ((net-bytes, start, zeros-below 65536 5 (omega arith)), λ a l h. by lacks-together a h.0);
      run = varies _ _ 1 (own.net, own.three, 3 ∷ 0 ∷ []) (own.net, sheets.movements, 3 ∷ 0 ∷ []) (omega arith)
          ((net-bytes, three-bytes, start), λ a l h. by runs-whole a.answer (ap (λ r. r.answer) h.0))
          ((net-bytes, movement-bytes, start), λ a l h. by (ap (λ r. r.refusal) run_is) a.answer (ap (λ r. r.answer) h.0));
      certify = varies _ _ 1 (own.net, own.three, 0 ∷ 3 ∷ []) (own.net, sheets.movements, 0 ∷ 3 ∷ []) (omega arith)
          ((net-bytes, three-bytes, written_out 4294967296 (0 ∷ 3 ∷ []) refl), λ a l. by certifies a)
          ((net-bytes, movement-bytes, written_out 4294967296 (0 ∷ 3 ∷ []) refl), λ a l. by lacks-certified a);
    }

salvage-varies : Varies (call Public.salvage) stop_by
salvage-varies =
    varies _ _ 1 (own.net, own.three, own.room) (own.net, sheets.movements, own.room) (omega arith)
    ((net-bytes, three-bytes, room-bytes), λ a l h. ap stop_by (h.0 ∙ salvages-whole)) ((net-bytes, movement-bytes, room-bytes), λ a l h. ap stop_by (h.0 ∙ salvages-three))

stop-told : (x : Result Report Refusal) → (reported (salvaging.told x)).stop.amount ≡ stop_by x
stop-told (Ok report) = refl
stop-told (Err r) = refl

amounts-told : (c : Public) → AmountVaries (call c) → AmountVaries (for_c c)
amounts-told c = tells (call c) (told c) _ _ (λ g a. ap (λ x. x.amount) (carried-told c g a))

pub constant-amounts : ConstantAmounts
constant-amounts =
    record {
      library = stopped call six;
      salvage = salvage-varies.not_constant;
      to_c =
          stopped for_c
          (record {
            test = amounts-told Public.test six.test;
            fire = amounts-told Public.fire six.fire;
            test_step = amounts-told Public.test_step six.test_step;
            fire_step = amounts-told Public.fire_step six.fire_step;
            run = amounts-told Public.run six.run;
            certify = amounts-told Public.certify six.certify;
          });
      salvage_for_c = (tells (call Public.salvage) (told Public.salvage) stop_by (λ d. d.stop.amount) (λ g a. stop-told a) salvage-varies).not_constant;
    }
