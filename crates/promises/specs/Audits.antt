-- An audit of the calls: over a net sheet and its complement's, as the complementing call wrote it, and the markings that calls over the two leave.
use Rattle.std.specs.Prelude.{ℕ, ◌≡◌, List, ltb, pos}
use Rattle.std.proofs.Math.Option.{none}
use Rattle.model.specs.declared.Mode.{Mode}
use Rattle.model.specs.First.{lowest}
use Rattle.model.specs.Replies.{yields}
use Rattle.model.specs.Nets.{pairs, pair_no}
use Rattle.model.specs.Markings.{marking_refusal}
use Rattle.second_form.specs.Complement.{Corresponds}
use Rattle.both_forms.specs.Audit.{marked, takes}
use Rattle.sheets.specs.Decoded.{net_of}
use Rattle.sheets.specs.Emitted as emitting
use Rattle.fire.specs.Calls.{test_refusal, fired_by}
use Rattle.run.specs.Calls.{run_of}
use Rattle.complement.specs.Complemented as complementing
use Rattle.complement.specs.audit.Audits.{told, audited_of}
use Rattle.promises.specs.DemandThree.{as_written}

module _ (net complement marking marking' : List ℕ) where
  pub record AuditsOf : Type 0 where
    -- along any list: the two runs of one movement sheet leave markings on which none is found
    pub after_runs : (movements : List ℕ) → told (audited_of net (run_of net movements marking).marking (run_of complement movements marking').marking) ≡ yields none
    -- a movement that test accepts, fired in the complement's marking and recorded in the net's as a mark: the lowest pair that the mode takes from, with that Pre
    pub left_behind : (t : Mode) → test_refusal net marking t ≡ none
        → told (audited_of net (marked (net_of net) t marking) (fired_by complement marking' t))
        ≡ yields (lowest (pairs (net_of net)) (λ p. ltb 0 (takes (net_of net) t p)) (λ p. record { pair = pair_no p; excess = pos (takes (net_of net) t p) }))

abbrev pub Audits : Type 0
Audits = (net out : List ℕ) (n : ℕ) → emitting.told (complementing.complement_of net out) ≡ yields n → (marking marking' : List ℕ)
    → marking_refusal (net_of net) marking ≡ none → Corresponds (net_of net) marking marking' → AuditsOf net (as_written net out n) marking marking'
