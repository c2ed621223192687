-- Document 02, P4. Complement nets with dead modes.
use Rattle.model.specs.declared.Pair.{Pair}
use Rattle.model.specs.declared.Refusal.{Refusal}
use Rattle.std.specs.Prelude.{Option as Perhaps, ℕ, ◌<◌, ◌≡◌, true, List, Result, Bool}
use Rattle.std.proofs.Math.Option.{none}
use Rattle.model.specs.declared.Mode.{Mode}
use Rattle.model.specs.Refusals.{Answer}
use Rattle.model.specs.Refusals.{number}
use Rattle.model.specs.Replies.{yields}
use Rattle.model.specs.Numbers.{fin}
use Rattle.model.specs.Rows.{Entry}
use Rattle.model.specs.Nets.{PNet, pairs, modes, K, row}
use Rattle.model.specs.Markings.{Marking}
use Rattle.second_form.specs.Complement.{complement_pair, complement, Corresponds}
use Rattle.second_form.specs.Dead.{is_dead}
use Rattle.second_form.specs.DeadComplement.{Never16}
use Rattle.sheets.specs.Decoded.{net_of}
use Rattle.fire.specs.Allowed.{TestAllows}
use Rattle.opened.specs.dead.IsDead as one
use Rattle.opened.specs.dead.FirstDead as first
use Rattle.opened.specs.dead.Allowed.{IsDeadAllows, FirstDeadAllows}
use Rattle.sentences.specs.Calls.{Public}
use Rattle.sentences.specs.Wrote.{ComplementWrote}
use Rattle.sentences.specs.CallTables.{HasTable}

-- "such a mode never fires": of a mode that is dead in the net, `test` answers 11 at every marking of the complement that corresponds to one of the net. The
-- complement itself has no dead mode, since its K and I are unbounded.
pub record DeadBeside (net sheet : List ℕ) : Type 0 where
  pub nowhere : (d : Result (Perhaps (Mode × Pair)) Refusal) → FirstDeadAllows sheet d → first.told d ≡ yields none
  pub by11 : (t : Mode) (d : Result Bool Refusal) → IsDeadAllows net t d → one.told d ≡ yields true → (m m' : List ℕ) → Marking (net_of net) m
      → Corresponds (net_of net) m m'
      → (a : Answer) → TestAllows sheet m' t a → number a ≡ 11

-- what a mode has at the complement of a pair
abbrev pub beside_row : PNet → Mode → ℕ → Entry
beside_row net t p = row (complement net) t (complement_pair (pairs net) (K net) p)

pub record P4 : Type 0 where
  -- "For a locally dead mode, by P2's rule, write each complement Post equal to its complement Pre.", by either capacity rule
  pub post_is_pre : (net : PNet) (t : Mode) (p k : ℕ) → t.0 < modes net → p < pairs net → K net p ≡ fin k → is_dead net t ≡ true
      → (beside_row net t p).post ≡ (beside_row net t p).pre
  -- "Demand 3 stands, since such a mode never fires.": its statement is over dead modes too
  pub dead_beside : (net sheet : List ℕ) → ComplementWrote net sheet → DeadBeside net sheet
  -- "The starred case that gave 16 now gives complement Post 1,000,000.": see `Edges.post_above`.
  -- "Refusals: show that 16 no longer occurs, and keep its number reserved."
  pub never16 : Never16
  pub complement : HasTable Public.complement
