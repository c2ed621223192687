-- The opening, all lines, and nothing after them.
use Rattle.grammar.proofs.HandedOn.{handed_on}
use Rattle.grammar.proofs.parts.Values.{whole-within}
use Rattle.import.proofs.scan.Answers.{lines-refused, lines-longer, lines-accepted, opening-part, checked-not}
use Rattle.import.proofs.scan.check_text.Goals as goal

pub returns-in_err-first : goal.returns-in_err-first
returns-in_err-first c = checked-not (handed_on c.from_residual.ensures) (opening-part c.in_err-first.ensures.how)

pub read_lines-requires : goal.read_lines-requires
read_lines-requires c = whole-within c.in_ok-first.ensures.how

pub returns-in_err-q : goal.returns-in_err-q
returns-in_err-q c = checked-not (handed_on c.from_residual-in_err-q.ensures) (lines-refused c.in_ok-first.ensures.how c.in_err-q.ensures.how)

pub returns-then-next-s : goal.returns-then-next-s
returns-then-next-s c = record { how = lines-longer c.in_ok-first.ensures.how c.in_ok-q.ensures.how c.if-next-s.true }

pub returns : goal.returns
returns c = record { how = lines-accepted c.in_ok-first.ensures.how c.in_ok-q.ensures.how c.if-next-s.false }
