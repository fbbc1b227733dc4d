use Rattle.std.proofs.Common.{◌≡◌, ◌-◌, ◌^◌, take}
use Rattle.bits.specs.Crc.{registered}
use Rattle.bits.proofs.crc.Generator.crc.Given as goal

abbrev pub invariant-loop-bit : goal.invariant-loop-bit
invariant-loop-bit l =
    l.register ≡ registered l.self.width l.self.polynomial (2 ^ l.self.width - 1) (take l.bit-index l.bits)
