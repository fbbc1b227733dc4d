use Rattle.std.proofs.Common.{◌≡◌, ◌++◌, length, ap, ◌∙◌, arith}
use Rattle.bits.specs.Bits.{bits_of}
use Rattle.bits.specs.Crc.{crc16_of}
use Rattle.packets.specs.Packets.{carried, covered_bits, packet_bits}
use Rattle.packets.proofs.writing.write_bits.Goals as goal

pub returns : goal.returns
unfolding packet_bits
returns c =
    let content = carried c.args.packet in
    let covered : c.write_header.new.bits ++ c.spread.new.bits ≡ covered_bits content = cc in
    let check : c.crc16-check.result ≡ crc16_of (covered_bits content) = c.crc16-check.ensures.value ∙ ap crc16_of covered in
    let size : length c.split_at_mut-covered.result.1.now ≡ 16 = omega (arith, c.split_at_mut-covered.ensures.back_len) in
    let last : c.write_number.new.bits ≡ bits_of 16 (crc16_of (covered_bits content)) =
    c.write_number.ensures ∙ ap (λ k. bits_of k c.from.result) size ∙ ap (bits_of 16) (c.from.ensures ∙ check) in
    cc
