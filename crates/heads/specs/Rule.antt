-- Document 02, P10: which capacity rule a net sheet has. "Rule byte 1 in version 2 means M + Post ≤ K + Pre"; version 1 has no rule byte, and document 01's rule.
use Rattle.std.specs.Prelude.{ℕ, cond, List, eqb}
use Rattle.model.specs.declared.Version.{Version}
use Rattle.model.specs.declared.Version.TheVariants.{One, Two}
use Rattle.model.specs.declared.CapacityRule.{CapacityRule}
use Rattle.model.specs.declared.CapacityRule.TheVariants.{Strong, Weak}
use Rattle.heads.specs.Bytes.{byte_at}
use Rattle.heads.specs.Layout.{rule_at}

unfoldable pub rule_of : Version → List ℕ → CapacityRule
rule_of One s = Strong
rule_of Two s = cond (eqb (byte_at s rule_at) 1) Weak Strong
