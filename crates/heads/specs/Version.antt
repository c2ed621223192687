-- Document 02, P9: which layout a net sheet has, by its version byte.
use Rattle.std.specs.Prelude.{ℕ, cond, List, eqb}
use Rattle.model.specs.declared.Version.{Version}
use Rattle.model.specs.declared.Version.TheVariants.{One, Two}
use Rattle.heads.specs.Bytes.{byte_at}

unfoldable pub version_of : List ℕ → Version
version_of s = cond (eqb (byte_at s 4) 2) Two One
