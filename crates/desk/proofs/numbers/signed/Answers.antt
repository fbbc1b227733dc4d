use Rattle.desk.proofs.Parsing.{is_signed}
use Rattle.desk.proofs.numbers.signed.Goals as goal

pub returns : goal.returns
returns c = is_signed c.args.word.now c.number.result c.number.ensures.plus c.number.ensures.value
