use Rattle.std.proofs.Common.{◌≡◌, ◌+◌, ◌-◌, length, replicate, sym, ap, ◌∙◌, arith}
use Rattle.bits.specs.Bits.{cut}
use Rattle.packets.specs.Packets.{block_of, carried, packet_bytes}
use Rattle.packets.proofs.BitLaws.{fits_from}
use Rattle.packets.proofs.writing.write_packet.Goals as goal

pub returns : goal.returns
unfolding block_of
returns c =
    let block = c.args.block.now in
    let content = carried c.args.packet in
    let n = length content.bytes + 6 in
    let fits = fits_from (length block) content (sym c.if-not-has_room.ensures) c.total_length-total.ensures.octets in
    let total = c.total_length-total.ensures.value in
    let within = fits.within in
    let least = fits.least in
    let split = c.split_at_mut-front.ensures in
    let size : length c.split_at_mut-front.result.0.now ≡ n = omega arith in
    let rest : length c.split_at_mut-front.result.1.now ≡ length block - n = omega arith in
    let packet : c.cut.new.numbers ≡ packet_bytes content =
    c.cut.ensures ∙ ap (λ k. cut 8 k c.write_bits.new.bits) size ∙ ap (λ l. cut 8 n l) c.write_bits.ensures in
    let zeros : c.fill.new.self ≡ replicate (length block - n) 0 = c.fill.ensures.after (λ y e. e) ∙ ap (λ k. replicate k 0) rest in
    (fits, cc)
