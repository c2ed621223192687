-- Demand 3 over bytes: "For any net that complementing accepts and any list of mode numbers from its first marking: the complement as written
-- reads back as a net; both accept the same movements and stop at the same one; at the start and after each accepted movement they agree
-- on every original pair, and each bounded pair and its complement add up to its capacity."
use Rattle.std.specs.Prelude.{ℕ, ◌≡◌, List, length, take, drop}
use Rattle.std.proofs.Math.Option.{none}
use Rattle.model.specs.declared.Mode.{Mode}
use Rattle.model.specs.Replies.{yields}
use Rattle.second_form.specs.Complement.{complement}
use Rattle.second_form.specs.DemandThree.{Agreement}
use Rattle.heads.specs.Version.{version_of}
use Rattle.sheets.specs.Whole.{whole_net}
use Rattle.sheets.specs.Decoded.{net_of}
use Rattle.sheets.specs.Emitted.{told}
use Rattle.complement.specs.Complemented.{complementing_refusal, complement_of, output_of}

module _ (net out : List ℕ) (n : ℕ) where
  -- the complement as written: the first n bytes of the output slice
  abbrev pub as_written : List ℕ
  as_written = take n (output_of net out)

  pub record WrittenComplement : Type 0 where
    -- "The call returns the length written and touches no byte after it."
    pub answered : told (complement_of net out) ≡ yields n
    pub untouched : drop n (output_of net out) ≡ drop n out
    -- "the complement as written reads back as a net", the complement of the one that was read
    pub reads_back : whole_net as_written ≡ none
    pub same : net_of as_written ≡ complement (net_of net)
    -- "writes the version and rule it was given" (document 02, P9)
    pub version : version_of as_written ≡ version_of net
    pub rule : (net_of as_written).rule ≡ (net_of net).rule
    -- the two nets along any list, missing modes included: what each accepts, where it stops and by what refusal, and the markings at the start and after
    -- each accepted movement
    pub runs : (ts : List Mode) → Agreement (net_of net) ts

abbrev pub OverBytes : Type 0
OverBytes = (net out : List ℕ) → complementing_refusal net (length out) ≡ none → (n : ℕ) × WrittenComplement net out n
