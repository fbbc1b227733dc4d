use Rattle.std.proofs.Common.{◌≡◌, ◌+◌, Bool, List, ◌++◌, length, refl, ap, ◌∙◌, arith}
use Rattle.std.proofs.lemmas.List.{append_assoc}
use Rattle.bits.specs.Bits.{bits_of}
use Rattle.packets.specs.Packets.{header_bits}
use Rattle.packets.proofs.writing.write_header.Goals as goal

seven_zeros : bits_of 7 0 ≡ bits_of 1 0 ++ bits_of 6 0
unfolding bits_of
seven_zeros = refl

-- five parts, the last two written at once
five : (a b c d k l m x y : List Bool) → a ≡ k → b ≡ l → c ≡ m → d ≡ x ++ y → a ++ (b ++ (c ++ d)) ≡ k ++ l ++ m ++ x ++ y
five a b c d k l m x y e f g h = rw (e, f, g, h) (simp append_assoc)

pub returns : goal.returns
unfolding header_bits
returns c =
    let total : c.write_number.new.bits ≡ bits_of 12 (length c.args.packet.«data».now + 6) =
    c.write_number.ensures ∙ ap (λ k. bits_of k c.total_length.result) c.split_at_mut-length.ensures.front_len ∙ ap (bits_of 12) c.total_length.ensures.value in
    let id : c.write_number-2.new.bits ≡ bits_of 10 c.args.packet.header.id =
    c.write_number-2.ensures ∙ ap (λ k. bits_of k c.from.result) c.split_at_mut-id.ensures.front_len ∙ ap (bits_of 10) c.from.ensures in
    let seven : length c.split_at_mut-id.result.1.now ≡ 7 =
    omega (arith, c.split_at_mut-length.ensures.back_len, c.split_at_mut-flags.ensures.back_len, c.split_at_mut-id.ensures.back_len) in
    let zeros : c.write_number-3.new.bits ≡ bits_of 1 0 ++ bits_of 6 0 = c.write_number-3.ensures ∙ ap (λ k. bits_of k 0) seven ∙ seven_zeros in
    five _ _ _ _ _ _ _ _ _ total c.copy_from_slice.ensures.after id zeros
