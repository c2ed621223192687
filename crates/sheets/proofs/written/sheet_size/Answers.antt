use native.Mathlib.Omega.{arith}
use Rattle.sheets.proofs.written.sheet_size.Goals as goal

pub returns-in-One : goal.returns-in-One
returns-in-One c = rw c.in-One.is (omega arith)

pub returns-in-Two : goal.returns-in-Two
returns-in-Two c = rw c.in-Two.is (omega arith)
