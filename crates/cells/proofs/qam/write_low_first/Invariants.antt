use Rattle.std.proofs.Common.{◌≡◌, ◌-◌, ◌++◌, length, take}
use Rattle.cells.specs.Qam.{low_bits}
use Rattle.cells.proofs.qam.write_low_first.Given as goal

abbrev pub invariant-loop-bit : goal.invariant-loop-bit
invariant-loop-bit l =
    take l.bit-index l.bits ++ low_bits (length l.initial.bits - l.bit-index) l.rest ≡
    low_bits (length l.initial.bits) l.v
