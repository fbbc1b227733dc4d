use Rattle.std.proofs.Common.{lit≤, [], refl, sym, ◌∙◌, arith}
use Rattle.std.proofs.lemmas.List.{append-nil}
use Rattle.cells.specs.declared.cell.Order.TheVariants.{Four}
use Rattle.lineup.specs.declared.kind.CellKind.TheVariants.{Mis as MisKind}
use Rattle.modem.specs.MisStream.{mis_cells}
use Rattle.streams.specs.Mis.{mis_record, mis_read}
use Rattle.frames.specs.Laying.{cells_in, picked}
use Rattle.frames.proofs.OnStreams.{answer_of, first_symbols, heard}
use Rattle.frames.proofs.channel.Channel.hear_mis.Goals as goal

pub returns-clause-answer : goal.returns-clause-answer
returns-clause-answer g c =
    let plan = c.args.received.plan.now in
    let numbers = c.args.received.numbers.now in
    let decided = g.A.Constellation.decided c.args.self.now.mis_points Four in
    let front = first_symbols decided 2 (g.met.A.Constellation.sized c.args.self.now.mis_points Four) 4 14 MisKind plan numbers c.gather.new.cells [] (omega arith) (lit≤ tt) c.requires (c.gather.ensures ∙ sym (append-nil _)) in
    answer_of 2 4 (g.M.SendingCode.word c.args.self.now.mis) (g.M.MendingCode.reach c.args.self.now.mis) decided mis_record mis_read c.gather.new.cells (picked MisKind plan (cells_in numbers)) c.read_mis.result front c.read_mis.ensures.answer

pub returns-clause-as_sent : goal.returns-clause-as_sent
returns-clause-as_sent g c sent few =
    let plan = c.args.received.plan.now in
    let numbers = c.args.received.numbers.now in
    let word = g.M.SendingCode.word c.args.self.now.mis in
    let point = g.A.Constellation.point c.args.self.now.mis_points Four in
    let decided = g.A.Constellation.decided c.args.self.now.mis_points Four in
    let front = first_symbols decided 2 (g.met.A.Constellation.sized c.args.self.now.mis_points Four) 4 14 MisKind plan numbers c.gather.new.cells [] (omega arith) (lit≤ tt) c.requires (c.gather.ensures ∙ sym (append-nil _)) in
    heard 2 4 word (g.M.MendingCode.reach c.args.self.now.mis) decided mis_record mis_read point 2 14 c.gather.new.cells (picked MisKind plan (cells_in numbers)) c.read_mis.result front c.read_mis.ensures.reads_back sent (mis_cells word point sent) refl few
