use Rattle.bits.proofs.ByteLaws.{below_from}
use Rattle.packets.specs.Packets.{Fits, content_of}
use Rattle.std.proofs.Common.{length}
use Rattle.radio.proofs.Blocks.{written}
use Rattle.radio.proofs.next.fill.Goals as goal

pub returns-clause-fits : goal.returns-clause-fits
returns-clause-fits c =
    let r = c.requires in
    record { least = r.least; most = r.most; numbered = r.numbered; some = r.some; within = r.within; octets = below_from 256 c.args.«data».now (λ i _. (c.type_inv.«data» i).fits) }

pub returns-clause-block : goal.returns-clause-block
returns-clause-block c =
    let r = c.requires in
    let fits : Fits (length c.args.block.now) (content_of c.args.header c.args.«data».now) = record { least = r.least; most = r.most; numbered = r.numbered; some = r.some; within = r.within; octets = below_from 256 c.args.«data».now (λ i _. (c.type_inv.«data» i).fits) } in
    written (content_of c.args.header c.args.«data».now) c.args.block.now c.write_packet.new.block c.write_packet.result fits c.write_packet.ensures
