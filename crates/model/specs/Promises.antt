-- What is promised of the rule at one row; more stands in the Promises of movement, second_form and both_forms. promises/specs/Promises.antt lists all promises,
-- those over bytes too. Each statement is a type; docs/ARCHITECTURE.md names the one term of proofs/ that has it, and the order to read the definitions in.
use Rattle.std.specs.Prelude.{ℕ, ◌<◌, ◌≡◌, List, ◌↔◌, ◌⊎◌, ◌≢◌}
use Rattle.std.proofs.Math.Option.{none}
use Rattle.model.specs.declared.Mode.{Mode}
use Rattle.model.specs.declared.Thing.{Thing}
use Rattle.model.specs.Refusals.{Answer}
use Rattle.model.specs.Refusals.{answer, number, amount, thing_number}
use Rattle.model.specs.RefusalTables.{marking_table, mode_table, Reads}
use Rattle.model.specs.Rows.{Row, Capacities, Counts}
use Rattle.model.specs.Billington.{Enables}
use Rattle.model.specs.Nets.{PNet}
use Rattle.model.specs.Markings.{marking_refusal}
use Rattle.model.specs.Firing.{rule_refusal, row_refusal, mode_refusal}

-- 1. The exact refusal tables of a marking and of a mode; those of sheets and calls are in sheets/specs/RefusalTables.antt and promises/specs/CallTables.antt.
pub record RefusalTable : Type 0 where
  pub marking : (net : PNet) (m : List ℕ) → Reads (marking_table net m) (marking_refusal net m)
  pub mode : (about : Thing) (net : PNet) (t : Mode) (m : List ℕ) → Reads (mode_table (thing_number about) net t m) (mode_refusal about net t m)

-- "Every answer now carries this amount, 0 for all other numbers": an answer by another number than 11 to 14 carries 0, and what these refuse, of one mode or of
-- several at once, is short or over by something. How much it is, the tables say.
pub record Amounts : Type 0 where
  pub other_numbers : (a : Answer) → (number a < 11) ⊎ (14 < number a) → amount a ≡ 0
  pub refused : (about : Thing) (n : ℕ) (k : Capacities) (r : Row) (M : Counts) → row_refusal about n k r M ≢ none
      → 0 < amount (answer (row_refusal about n k r M))

-- 2. The rule: 14 aside, a row is accepted exactly when source document 000 has it enabled.
abbrev pub Rule : Type 0
Rule = (about : Thing) (n : ℕ) (k : Capacities) (r : Row) (M : Counts) → (rule_refusal about n k r M ≡ none) ↔ Enables n k r M
