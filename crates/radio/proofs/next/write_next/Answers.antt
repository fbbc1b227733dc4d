use Rattle.messages.specs.SenderCalls.{next_packet}
use Rattle.messages.specs.Views.{sender_state}
use Rattle.radio.proofs.Blocks.{carried_packet}
use Rattle.radio.proofs.next.write_next.Goals as goal

pub returns : goal.returns
returns c =
    let p = next_packet (sender_state c.args.sender.now) in
    let next = c.in_ok-next.ensures.packet in
    let same = carried_packet p _ c.next.new.bytes c.in_ok-next.next next.1 in
    (next.0, rw same at c.fill.ensures.fits, rw same at c.fill.ensures.block, next.2)
