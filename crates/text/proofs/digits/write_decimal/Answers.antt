-- As many digits as are counted.
use native.Mathlib.Omega.{arith}
use borrow.Author.Rules.{rules}
use Rattle.text.proofs.Decimals.{length-at-most}
use Rattle.text.proofs.digits.write_decimal.Goals as goal

pub returns : goal.returns
returns c =
    record {
      next = search rules;
      fits = search rules;
      holds = c.write_digits.ensures;
      within = length-at-most c.args.n 19 (omega arith);
    }
