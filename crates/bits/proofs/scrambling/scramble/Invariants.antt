use Rattle.std.proofs.Common.{◌≡◌, ◌++◌, take, drop}
use Rattle.bits.specs.Scrambling.{earlier, scrambled}
use Rattle.bits.proofs.scrambling.scramble.Given as goal

-- the first `i` bits are scrambled, and the sequence stands at its `i`-th value
abbrev pub invariant-loop-bit : goal.invariant-loop-bit
invariant-loop-bit l =
    (l.bits ≡ scrambled 0 (take l.bit-index l.initial.bits) ++ drop l.bit-index l.initial.bits) × (l.sequence.earlier ≡ earlier l.bit-index)
