use Rattle.std.proofs.Common.{◌≡◌, ◌-◌, length, replicate, sym, ◌∙◌, arith}
use Rattle.cells.specs.Cells.{cell_bits}
use Rattle.cells.specs.Mapping.{origin}
use Rattle.lineup.specs.declared.kind.CellKind.TheVariants.{Tis as TisKind}
use Rattle.modem.specs.TisStream.{tis_cells, tis_message, tis_order}
use Rattle.modes.specs.Modes.{tis_count}
use Rattle.streams.specs.Tis.{tis_record, tis_read}
use Rattle.bits.specs.Scrambling.{scrambled}
use Rattle.bits.proofs.Bits.{length_cut, cut-below_128}
use Rattle.frames.specs.Laying.{cells_in, picked}
use Rattle.frames.proofs.OnStreams.{answer_of, first_symbols, heard, sent_symbols, tis_room, tis_more_room}
use Rattle.frames.proofs.channel.Channel.hear_tis.Goals as goal

pub returns-clause-answer : goal.returns-clause-answer
returns-clause-answer g c =
    let plan = c.args.received.plan.now in
    let numbers = c.args.received.numbers.now in
    let k = c.args.constellation in
    let decided = g.B.Constellation.decided c.args.self.now.tis_points (tis_order k) in
    let front = first_symbols decided (cell_bits (tis_order k)) (g.met.B.Constellation.sized c.args.self.now.tis_points (tis_order k)) 29 (tis_count k) TisKind plan numbers c.tis_cells-cells.result (replicate (102 - tis_count k) origin)
    (omega arith) (tis_room k) c.requires c.tis_cells-cells.ensures in
    answer_of 9 29 (g.T.SendingCode.word c.args.self.now.tis) (g.T.MendingCode.reach c.args.self.now.tis) decided tis_record tis_read c.tis_cells-cells.result (picked TisKind plan (cells_in numbers)) c.read_tis.result front c.read_tis.ensures.answer

pub returns-clause-as_sent : goal.returns-clause-as_sent
returns-clause-as_sent g c sent few =
    let plan = c.args.received.plan.now in
    let numbers = c.args.received.numbers.now in
    let k = c.args.constellation in
    let code = c.args.self.now.tis in
    let word = g.T.SendingCode.word code in
    let points = c.args.self.now.tis_points in
    let point = g.B.Constellation.point points in
    let decided = g.B.Constellation.decided points (tis_order k) in
    let steady = g.met.B.Constellation.steady points (tis_order k) in
    let front = first_symbols decided (cell_bits (tis_order k)) (g.met.B.Constellation.sized points (tis_order k)) 29 (tis_count k) TisKind plan numbers c.tis_cells-cells.result (replicate (102 - tis_count k) origin)
    (omega arith) (tis_room k) c.requires c.tis_cells-cells.ensures in
    let m = tis_message sent in
    let size : length m ≡ g.T.SendingCode.message_length code = length_cut 7 9 (scrambled 0 (tis_record sent)) ∙ sym (g.met.T.FixedCode.message code) in
    let long : length (word m) ≡ 29 = g.met.T.SendingCode.sized code m size ∙ g.met.T.FixedCode.word code in
    let below = g.met.T.SendingCode.below code m size (cut-below_128 9 (scrambled 0 (tis_record sent))) in
    let more = sent_symbols (point (tis_order k)) decided (cell_bits (tis_order k)) 102 29 (word m) steady long below (tis_more_room k) in
    let fewer = sent_symbols (point (tis_order k)) decided (cell_bits (tis_order k)) (tis_count k) 29 (word m) steady long below (tis_room k) in
    heard 9 29 word (g.T.MendingCode.reach code) decided tis_record tis_read (point (tis_order k)) (cell_bits (tis_order k)) (tis_count k) c.tis_cells-cells.result (picked TisKind plan (cells_in numbers)) c.read_tis.result front c.read_tis.ensures.reads_back sent (tis_cells word point k sent) (more ∙ sym fewer) few
