use Rattle.std.proofs.Common.{sym, ◌∙◌, rules, refl}
use Rattle.std.proofs.lemmas.Result.{err_from_is_err_and}
use Rattle.bits.proofs.ByteLaws.{below_from}
use Rattle.packets.specs.Packets.{carried}
use Rattle.frames.specs.Frames.{Sending, sending_on}
use Rattle.frames.specs.Laying.{cells_in}
use Rattle.frames.specs.Reading.{Mending, mending_on}
use Rattle.frames.specs.declared.channel.Channel.{Channel}
use Rattle.frames.proofs.FrameAnswers.{Known, data_refused, has_frame, mis_refused, packet_refused, packet_told, reads_sent, tis_refused}
use Rattle.frames.proofs.Sent.{stream_known}
use Rattle.frames.proofs.channel.Channel.read_frame.Given as given
use Rattle.frames.proofs.channel.Channel.read_frame.Goals as goal

-- what the bounds say of the codes and the constellations
module _ (g : given.Over) (channel : Channel g.row.M.Denot g.row.T.Denot g.row.A.Denot g.row.B.Denot g.row.C.Denot) (code : g.row.D.Denot) where
  abbrev sends : Sending
  sends = sending_on g.M.SendingCode g.T.SendingCode g.D.SendingCode g.A.Constellation g.B.Constellation g.C.Constellation channel code

  abbrev mends : Mending
  mends = mending_on g.M.MendingCode g.T.MendingCode g.D.MendingCode g.A.Constellation g.B.Constellation g.C.Constellation channel code

  known : Known sends mends
  known =
      record {
        mis = stream_known (g.met.M.FixedCode.message channel.mis) (g.met.M.FixedCode.word channel.mis) (g.met.M.SendingCode.sized channel.mis) (g.met.M.SendingCode.below channel.mis)
            (g.met.A.Constellation.sized channel.mis_points) (g.met.A.Constellation.steady channel.mis_points);
        tis = stream_known (g.met.T.FixedCode.message channel.tis) (g.met.T.FixedCode.word channel.tis) (g.met.T.SendingCode.sized channel.tis) (g.met.T.SendingCode.below channel.tis)
            (g.met.B.Constellation.sized channel.tis_points) (g.met.B.Constellation.steady channel.tis_points);
        «data» = record { sized = g.met.D.SendingCode.sized code; bits = g.met.C.Constellation.sized channel.data_points; steady = g.met.C.Constellation.steady channel.data_points };
      }

pub returns-in_err-mis-clause-reads_sent : goal.returns-in_err-mis-clause-reads_sent
returns-in_err-mis-clause-reads_sent g c =
    let l = c.args.layout.now in
    mis_refused _ _ (known g c.args.self.now l.code.now) l.plan.now l.mode l.roomy (cells_in c.args.received.numbers.now)
    c.in_err-mis.field-0.0 _ c.in_err-mis.ensures.as_sent

pub returns-in_err-tis-clause-answer : goal.returns-in_err-tis-clause-answer
returns-in_err-tis-clause-answer g c =
    let p = err_from_is_err_and c.from_residual-in_err-tis.result c.from_residual-in_err-tis.ensures.1 in
    rw (p.1, p.2) (c.in_err-tis.ensures.told c.in_ok-mis.mis c.in_ok-mis.ensures.told)

pub returns-in_err-tis-clause-reads_sent : goal.returns-in_err-tis-clause-reads_sent
returns-in_err-tis-clause-reads_sent g c =
    let l = c.args.layout.now in
    tis_refused _ _ (known g c.args.self.now l.code.now) l.plan.now l.mode l.roomy (cells_in c.args.received.numbers.now)
    c.in_err-tis.field-0.0 _ c.in_err-tis.ensures.as_sent

pub returns-in_err-read_block-clause-answer : goal.returns-in_err-read_block-clause-answer
returns-in_err-read_block-clause-answer g c =
    let p = err_from_is_err_and c.from_residual-in_err-read_block.result c.from_residual-in_err-read_block.ensures.1 in
    rw (p.1, p.2) (c.in_err-read_block.ensures.told (c.in_ok-mis.mis, c.in_ok-tis.tis.stated, c.in_ok-tis.tis.mended, c.in_ok-mis.ensures.told, c.in_ok-tis.ensures.told))

pub returns-in_err-read_block-clause-reads_sent : goal.returns-in_err-read_block-clause-reads_sent
returns-in_err-read_block-clause-reads_sent g c =
    let l = c.args.layout.now in
    data_refused _ _ (known g c.args.self.now l.code.now) l.plan.now l.mode l.roomy (cells_in c.args.received.numbers.now)
    c.in_err-read_block.field-0.0 c.read_block.new.block _ c.in_err-read_block.ensures.as_sent

pub returns-in_err-packet-clause-answer : goal.returns-in_err-packet-clause-answer
returns-in_err-packet-clause-answer g c =
    let p = err_from_is_err_and c.from_residual-in_err-packet.result c.from_residual-in_err-packet.ensures.1 in
    let octets = below_from 256 c.read_block.new.block (λ i h. search rules) in
    rw (p.1, p.2) (
      (c.in_ok-mis.mis, c.in_ok-tis.tis.stated, c.in_ok-tis.tis.mended, c.in_ok-mis.ensures.told, c.in_ok-tis.ensures.told),
      c.read_block.new.block,
      c.read_block.auto.block ∙ c.requires.block,
      octets,
      c.in_ok-read_block.ensures.told,
      sym c.in_err-packet.ensures.value,
    )

pub returns-in_err-packet-clause-reads_sent : goal.returns-in_err-packet-clause-reads_sent
returns-in_err-packet-clause-reads_sent g c =
    let l = c.args.layout.now in
    packet_refused _ _ (known g c.args.self.now l.code.now) l.plan.now l.mode l.roomy (cells_in c.args.received.numbers.now)
    c.read_block.new.block _ c.in_ok-read_block.ensures.as_sent c.in_err-packet.ensures.exactly

pub returns-clause-answer : goal.returns-clause-answer
returns-clause-answer g c =
    let l = c.args.layout.now in
    let packet = packet_told _ _ (known g c.args.self.now l.code.now) l.plan.now l.mode l.roomy (cells_in c.args.received.numbers.now)
    c.read_block.new.block (carried c.in_ok-packet.packet) (c.read_block.auto.block ∙ c.requires.block) c.in_ok-packet.ensures.exactly c.in_ok-read_block.ensures.told in
    (refl, c.in_ok-mis.ensures.told, c.in_ok-tis.ensures.told, packet.0, packet.1)

pub returns-clause-reads_sent : goal.returns-clause-reads_sent
returns-clause-reads_sent g c =
    let l = c.args.layout.now in
    reads_sent _ _ (known g c.args.self.now l.code.now) l.plan.now l.mode l.roomy (cells_in c.args.received.numbers.now)
    c.in_ok-mis.mis c.in_ok-tis.tis c.read_block.new.block (carried c.in_ok-packet.packet)
    c.in_ok-mis.ensures.as_sent c.in_ok-tis.ensures.as_sent c.in_ok-read_block.ensures.as_sent c.in_ok-packet.ensures.exactly

pub returns-clause-has_frame : goal.returns-clause-has_frame
returns-clause-has_frame g c =
    let l = c.args.layout.now in
    has_frame _ _ (known g c.args.self.now l.code.now) l.plan.now l.mode l.roomy (cells_in c.args.received.numbers.now) _ (returns-clause-answer g c)
