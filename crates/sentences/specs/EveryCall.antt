-- Every call: those of the library, the same for C, and those that the library has alone.
use Rattle.std.specs.Prelude.{ℕ, List, length, Some, None, Option as Perhaps}
use Rattle.model.specs.Refusals.{Carried, carries, carried}
use Rattle.sheets.specs.Allowed.{AfterNetAllows, AfterWeightsAllows, AfterMovementsAllows, WholeNetAllows, WholeWeightsAllows, WholeMovementsAllows}
use Rattle.text.specs.Allowed.{PutBytesAllows, PutDecimalAllows, PutSignedAllows}
use Rattle.sentences.specs.Bytes.{Bytes}
use Rattle.sentences.specs.Call.{Call, answering, writing, Word, Signed, on₂, on₃, both, all₃}
use Rattle.sentences.specs.Calls.{Public, call, for_c}

pub data Alone : Type 0 where
  after_net after_weights after_movements : Alone
  whole_net whole_weights whole_movements : Alone
  put_bytes put_decimal put_signed : Alone

-- neither the part after a sheet nor a put has a number of document 01: a part carries its length, a put 0 where the bytes are put and 1 where there is no room
abbrev pub part : List ℕ → Carried
part s = carries (length s) 0 0

abbrev pub full : Perhaps ℕ → Carried
full (Some after) = carries 0 0 0
full None = carries 1 0 0

abbrev pub alone : Alone → Call
alone after_net = answering AfterNetAllows part Bytes
alone after_weights = answering (on₂ AfterWeightsAllows) part (both Bytes Word)
alone after_movements = answering AfterMovementsAllows part Bytes
alone whole_net = answering WholeNetAllows carried Bytes
alone whole_weights = answering (on₂ WholeWeightsAllows) carried (both Bytes Word)
alone whole_movements = answering WholeMovementsAllows carried Bytes
alone put_bytes = writing (on₃ PutBytesAllows) full (all₃ Bytes Word Bytes) (λ i. i.0)
alone put_decimal = writing (on₃ PutDecimalAllows) full (all₃ Bytes Word Word) (λ i. i.0)
alone put_signed = writing (on₃ PutSignedAllows) full (all₃ Bytes Word Signed) (λ i. i.0)

pub data EveryCall : Type 0 where
  library : Public → EveryCall
  to_c : Public → EveryCall
  here : Alone → EveryCall

abbrev pub every : EveryCall → Call
every (library c) = call c
every (to_c c) = for_c c
every (here c) = alone c
