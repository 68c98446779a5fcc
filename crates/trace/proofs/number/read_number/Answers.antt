use Rattle.trace.proofs.Decimals.{reads_decimal}
use Rattle.trace.proofs.number.read_number.Goals as goal

pub returns-clause-decimal : goal.returns-clause-decimal
returns-clause-decimal c = reads_decimal c.args.s.now c.without_leading_zero.result c.without_leading_zero.ensures
