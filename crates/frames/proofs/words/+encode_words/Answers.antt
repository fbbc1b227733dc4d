use Rattle.std.proofs.Common.{arith}
use Rattle.codes.specs.SymbolsLemmas.{below-bits}
use Rattle.frames.proofs.DataWords.{coded_none, coded_more}
use Rattle.frames.proofs.words.+encode_words.Goals as goal

pub returns-then-count-eq0 : goal.returns-then-count-eq0
returns-then-count-eq0 g t c =
    coded_none (g.D.SendingCode.word c.args.code.now) (g.D.SendingCode.message_length c.args.code.now) (g.D.SendingCode.word_length c.args.code.now) c.args.count c.args.messages.now c.args.words.now c.if-count-eq0.true c.requires.words

pub encode-requires-clause-below : goal.encode-requires-clause-below
encode-requires-clause-below g t c = below-bits c.split_at.result.0.now

pub returns : goal.returns
returns g t c =
    rw (c.encode.ensures, c.encode_words.ensures, c.split_at.ensures.front, c.split_at.ensures.back, c.message_length.ensures)
    (coded_more (g.D.SendingCode.word c.args.code.now) (g.D.SendingCode.message_length c.args.code.now) c.args.count c.args.messages.now (omega arith))
