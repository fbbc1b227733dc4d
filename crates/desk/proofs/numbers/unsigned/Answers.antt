use Rattle.desk.proofs.Parsing.{is_unsigned}
use Rattle.desk.proofs.numbers.unsigned.Goals as goal

pub returns : goal.returns
returns c = is_unsigned c.args.word.now c.number.result c.number.ensures.plus c.number.ensures.value
