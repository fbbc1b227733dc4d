use Rattle.std.proofs.Common.{◌≡◌, ◌-◌, Err, arith, rules}
use Rattle.codes.specs.SymbolsLemmas.{below-bits}
use Rattle.frames.proofs.DataWords.{within_none, within_behind, lost_before, lost_behind, mended_within, refused_lost}
use Rattle.frames.proofs.words.+mend_words.Goals as goal

pub returns-then-count-eq0-clause-answer : goal.returns-then-count-eq0-clause-answer
returns-then-count-eq0-clause-answer g t c =
    within_none (g.D.SendingCode.word c.args.code.now) (g.D.MendingCode.reach c.args.code.now) (g.D.SendingCode.message_length c.args.code.now) (g.D.SendingCode.word_length c.args.code.now) c.args.count c.args.words.now c.args.messages.now (omega arith)

pub mend-requires-clause-below : goal.mend-requires-clause-below
mend-requires-clause-below g t c = below-bits c.split_at.result.1.now

pub returns-in_err-mend_words-clause-answer : goal.returns-in_err-mend_words-clause-answer
returns-in_err-mend_words-clause-answer g t c =
    let code = c.args.code.now in
    let lost = c.in_err-mend_words.field-0.0 in
    let e : c.from_residual.result ≡ Err lost = search rules in
    let found = rw (c.split_at.ensures.front, c.word_length.ensures) at c.in_err-mend_words.ensures.answer in
    rw e (
      omega (arith, found.0),
      lost_before (g.D.SendingCode.word code) (g.D.MendingCode.reach code) (g.D.SendingCode.message_length code) (g.D.SendingCode.word_length code) c.args.count c.args.words.now (omega arith) c.requires.words lost.word found.0 found.1,
    )

pub returns-in_err-map_err-clause-answer : goal.returns-in_err-map_err-clause-answer
returns-in_err-map_err-clause-answer g t c =
    let code = c.args.code.now in
    let word = g.D.SendingCode.word code in
    let reach = g.D.MendingCode.reach code in
    let k = g.D.SendingCode.message_length code in
    let n = g.D.SendingCode.word_length code in
    let lost = c.in_err-map_err.field-0.0 in
    let e : c.from_residual-in_err-map_err.result ≡ Err lost = search rules in
    let number : lost.word ≡ c.args.count - 1 = search rules in
    let none = refused_lost word reach k n c.mend.result c.map_err.result lost c.split_at.result.1.now c.split_at_mut-earlier.result.1.now c.mend.new.message c.in_err-map_err.was c.map_err.ensures.variant c.mend.ensures in
    rw (e, number) (omega arith, lost_behind word reach k n c.args.count c.args.words.now (omega arith) c.requires.words (rw (c.split_at.ensures.back, c.word_length.ensures) at none))

pub returns-clause-answer : goal.returns-clause-answer
returns-clause-answer g t c =
    let code = c.args.code.now in
    let word = g.D.SendingCode.word code in
    let reach = g.D.MendingCode.reach code in
    let k = g.D.SendingCode.message_length code in
    let n = g.D.SendingCode.word_length code in
    let last = mended_within word reach k n c.mend.result c.map_err.result c.in_ok-map_err.field-0 c.split_at.result.1.now c.split_at_mut-earlier.result.1.now c.mend.new.message c.in_ok-map_err.was c.map_err.ensures.variant c.mend.ensures in
    within_behind word reach k n c.args.count c.args.words.now (omega arith) c.requires.words c.mend_words.new.messages c.mend.new.message (omega arith) (omega arith)
    (rw (c.split_at.ensures.front, c.word_length.ensures) at c.in_ok-mend_words.ensures.answer) (rw (c.split_at.ensures.back, c.word_length.ensures) at last)
