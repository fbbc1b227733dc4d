use Rattle.std.proofs.Common.{◌≡◌, ◌/◌, ◌^◌, take, reverse}
use Rattle.bits.specs.Bits.{bits_of}
use Rattle.bits.proofs.fields.write_number.Given as goal

-- the lowest bits are written, the lowest first, and `rest` is what is left of the value
abbrev pub invariant-loop-bit : goal.invariant-loop-bit
invariant-loop-bit l =
    (reverse (take l.bit-index l.bits) ≡ bits_of l.bit-index l.value) × (l.rest ≡ l.value / 2 ^ l.bit-index)
