-- Ours: an audit of a net's marking beside its complement's, so that a token left behind shows at once.
use Rattle.model.specs.declared.Pair.{Pair}
use Rattle.model.specs.declared.Refusal.{Refusal}
use Rattle.std.specs.Prelude.{Option as Perhaps, ℕ, ◌<◌, ◌≡◌, List, ◌↔◌, pos, Result, ℤ}
use Rattle.std.proofs.Math.Option.{none, some}
use Rattle.model.specs.declared.Mode.{Mode}
use Rattle.model.specs.Refusals.{Answer}
use Rattle.model.specs.Replies.{yields}
use Rattle.model.specs.First.{Lowest, NoneBelow}
use Rattle.model.specs.Nets.{pairs, pair_no}
use Rattle.model.specs.Markings.{Marking}
use Rattle.second_form.specs.Complement.{Corresponds}
use Rattle.both_forms.specs.Audit.{OutOfStep, excess, marked, takes}
use Rattle.sheets.specs.Decoded.{net_of}
use Rattle.fire.specs.Allowed.{FireAllows}
use Rattle.run.specs.declared.Ran.{Ran}
use Rattle.run.specs.Allowed.{RunAllows}
use Rattle.complement.specs.audit.Audits.{told}
use Rattle.complement.specs.audit.Allowed.{AuditAllows}
use Rattle.sentences.specs.Calls.{Public}
use Rattle.sentences.specs.Outcomes.{Accepts}
use Rattle.sentences.specs.Wrote.{ComplementWrote}
use Rattle.sentences.specs.CallTables.{HasTable}

-- what an audit that is accepted finds: the lowest pair out of step, with its excess
pub record Finds (net marking beside : List ℕ) (f : Result (Perhaps (Pair × ℤ)) Refusal) : Type 0 where
  pub nothing : (told f ≡ yields none) ↔ Corresponds (net_of net) marking beside
  pub at : (p : ℕ) → (told f ≡ yields (some (record { pair = pair_no p; excess = excess (net_of net) marking beside p })))
      ↔ Lowest (pairs (net_of net)) (OutOfStep (net_of net) marking beside) p

-- a movement that is accepted, fired in the complement's marking and recorded in the net's as a mark, Post added and Pre not taken: the lowest pair that the
-- mode takes from is found, with that Pre as the excess
pub record MarkShows (net : List ℕ) (t : Mode) (f : Result (Perhaps (Pair × ℤ)) Refusal) : Type 0 where
  pub at : (p : ℕ) → Lowest (pairs (net_of net)) (λ q. 0 < takes (net_of net) t q) p
      → told f ≡ yields (some (record { pair = pair_no p; excess = pos (takes (net_of net) t p) }))
  pub nothing : NoneBelow (pairs (net_of net)) (λ q. 0 < takes (net_of net) t q) → told f ≡ yields none

module _ (net sheet m m' : List ℕ) where
  pub record AuditsOf : Type 0 where
    -- along any list: the two runs of one movement sheet leave markings on which none is found
    pub after_runs : (movements : List ℕ) (r r' : Ran) (left left' : List ℕ) → RunAllows net movements m (r, left) → RunAllows sheet movements m' (r', left')
        → (f : Result (Perhaps (Pair × ℤ)) Refusal) → AuditAllows net left left' f → told f ≡ yields none
    pub left_behind : (t : Mode) → Accepts Public.test (net, m, t) → (a : Answer) (left : List ℕ) → FireAllows sheet m' t (a, left)
        → (f : Result (Perhaps (Pair × ℤ)) Refusal) → AuditAllows net (marked (net_of net) t m) left f → MarkShows net t f

pub record Audit : Type 0 where
  -- none is found exactly when the two markings correspond
  pub finds : (net marking beside : List ℕ) (f : Result (Perhaps (Pair × ℤ)) Refusal) → AuditAllows net marking beside f → (told f).carried.number ≡ 0 → Finds net marking beside f
  -- and so along any list; a movement recorded as a mark shows
  pub audits : (net sheet : List ℕ) → ComplementWrote net sheet → (m m' : List ℕ) → Marking (net_of net) m → Corresponds (net_of net) m m'
      → AuditsOf net sheet m m'
  pub audit : HasTable Public.audit
