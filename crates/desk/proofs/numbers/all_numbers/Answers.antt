use Rattle.std.proofs.Common.{sym}
use Rattle.desk.proofs.WordByWord.{all_answered}
use Rattle.desk.proofs.numbers.all_numbers.Goals as goal

pub returns : goal.returns
returns g c =
    sym (all_answered g.T.Written.value_of g.row.N c.loop-i.i c.args.words.now c.loop-i.numbers c.if-words.false c.if-words-2.false c.loop-i-test.false c.loop-i.invariant.0 c.loop-i.invariant.1)
