use Rattle.std.proofs.Common.{◌*◌, ◌≤◌, length, ap, arith}
use Rattle.cells.specs.Mapping.{decided_bits}
use Rattle.lineup.specs.Layouts.{kind_count, words_of}
use Rattle.lineup.specs.declared.kind.CellKind.TheVariants.{Data as DataKind}
use Rattle.frames.specs.Frames.{data_order}
use Rattle.frames.specs.Laying.{cells_in, picked}
use Rattle.cells.specs.Cells.{cell_bits}
use Rattle.frames.proofs.BlockSent.{messages_sent}
use Rattle.frames.proofs.DataWords.{mended_taken}
use Rattle.frames.proofs.OnPlans.{length_cells, length_picked}
use Rattle.frames.proofs.OnStreams.{length-decided, words_enough}
use Rattle.frames.proofs.channel.Channel.mend_data.Goals as goal

pub returns-clause-answer : goal.returns-clause-answer
returns-clause-answer g c =
    let mode = c.args.layout.now.mode in
    let code = c.args.layout.now.code.now in
    let stream = decided_bits (g.C.Constellation.decided c.args.self.now.data_points (data_order mode.«data»)) (picked DataKind c.args.layout.now.plan.now (cells_in c.args.received.numbers.now)) in
    mended_taken (g.D.SendingCode.word code) (g.D.MendingCode.reach code) (g.D.SendingCode.message_length code) (g.D.SendingCode.word_length code) (words_of mode) stream c.mend_words.new.messages c.mend_words.result
    (rw (c.words-count.ensures.count, c.hear_words.ensures) at c.mend_words.ensures.answer)

pub returns-clause-as_sent : goal.returns-clause-as_sent
returns-clause-as_sent g c sent long near =
    let mode = c.args.layout.now.mode in
    let code = c.args.layout.now.code.now in
    let k = g.D.SendingCode.message_length code in
    let n = g.D.SendingCode.word_length code in
    let points = c.args.self.now.data_points in
    let decided = g.C.Constellation.decided points (data_order mode.«data») in
    let cells = picked DataKind c.args.layout.now.plan.now (cells_in c.args.received.numbers.now) in
    let mended = mended_taken (g.D.SendingCode.word code) (g.D.MendingCode.reach code) k n (words_of mode) (decided_bits decided cells) c.mend_words.new.messages c.mend_words.result
    (rw (c.words-count.ensures.count, c.hear_words.ensures) at c.mend_words.ensures.answer) in
    let count = length_picked DataKind c.args.layout.now.plan.now (cells_in c.args.received.numbers.now) (length_cells (length c.args.layout.now.plan.now) c.args.received.numbers.now (omega (arith, ap length c.requires.plan))) in
    let all = length-decided decided (cell_bits (data_order mode.«data»)) (g.met.C.Constellation.sized points (data_order mode.«data»)) cells in
    let enough : words_of mode * n ≤ length (decided_bits decided cells) = rw (all, count) (words_enough mode.«data» n (kind_count DataKind c.args.layout.now.plan.now) c.args.layout.now.roomy.pairs c.args.layout.now.roomy.«data») in
    messages_sent (g.D.SendingCode.word code) (g.D.MendingCode.reach code) k n (g.met.D.SendingCode.sized code) (g.D.SendingCode.distance code) (g.met.D.SendingCode.distant code) (g.met.D.MendingCode.unique code)
    (words_of mode) (decided_bits decided cells) c.mend_words.new.messages sent c.mend_words.result enough (omega arith) long near mended
