-- Document 02, P10. Yards with the weak capacity rule. Statements over a net, and tables, are over its rule, but where they say which.
use Rattle.std.specs.Prelude.{ℕ, ◌+◌, ◌-◌, ◌<◌, max, ◌≡◌, false, List}
use Rattle.model.specs.declared.Mode.{Mode}
use Rattle.model.specs.Refusals.{Answer}
use Rattle.model.specs.declared.CapacityRule.TheVariants.{Weak}
use Rattle.model.specs.Refusals.{number}
use Rattle.model.specs.Numbers.{fin}
use Rattle.model.specs.Nets.{PNet, pairs, modes, K, count, row}
use Rattle.model.specs.Allows.{EnablesWeakly}
use Rattle.second_form.specs.Dead.{is_dead}
use Rattle.second_form.specs.Complement.{reserve}
use Rattle.sheets.specs.Decoded.{net_of}
use Rattle.fire.specs.Allowed.{TestAllows}
use Rattle.both_forms.specs.WeakExamples.{WeakSteps}
use Rattle.sentences.specs.Calls.{Public}
use Rattle.sentences.specs.P4.{beside_row}
use Rattle.sentences.specs.CallTables.{HasTable}

pub record P10 : Type 0 where
  -- "Rule byte 1 in version 2 means M + Post ≤ K + Pre, with the other two conditions as before.": see `rule_of`, and both ways `Firing` of demand 2; so
  -- "In demand 2 this condition decides for rule 1, and source document 000 goes on deciding for rule 0."
  pub weakly : (net marking : List ℕ) (t : Mode) (a : Answer) → TestAllows net marking t a → number a ≡ 0 → (net_of net).rule ≡ Weak
      → EnablesWeakly (pairs (net_of net)) (K (net_of net)) (row (net_of net) t) (count marking)
  -- "Complement Pre becomes the larger of (Post less Pre, or 0) and (K less I, or 0)."
  pub weak_pre : (net : PNet) (t : Mode) (p k : ℕ) → net.rule ≡ Weak → t.0 < modes net → p < pairs net → K net p ≡ fin k
      → (beside_row net t p).pre ≡ max ((row net t p).post - (row net t p).pre) (reserve k (row net t p).inhibitor)
  -- "Complement Post stays that number plus Pre less Post.", of a mode that is not dead
  pub post : (net : PNet) (t : Mode) (p k : ℕ) → t.0 < modes net → p < pairs net → K net p ≡ fin k → is_dead net t ≡ false
      → (beside_row net t p).post ≡ (beside_row net t p).pre + (row net t p).pre - (row net t p).post
  -- "Under this rule a mode is locally dead when, at some pair, Pre is above the lesser of K and I, or Post is above K.": see `Kills`, and `NamingDead` of demand 2.
  -- "P4 and demand 3 are proved once over both rules.": see `P4.post_is_pre` and demand 3, of nets of either rule. "P7 accepts both": see P7.
  -- "P1's steps take the rule with summed Pre and Post, and its two statements are kept for rule 0 only.": by rule 1 the converse is false
  pub weak_steps : WeakSteps
  -- "Refusals: 12 reads by the rule in force.": see `room_for`.
  -- "Converting a rule-1 sheet to version 1 is always refused by 23, before 10."
  pub to_version1 : HasTable Public.to_version1
