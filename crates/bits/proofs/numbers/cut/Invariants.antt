use Rattle.std.proofs.Common.{◌≡◌, ◌*◌, ◌++◌, drop}
use Rattle.bits.specs.Bits.{cut}
use Rattle.bits.proofs.numbers.cut.Given as goal

-- the first numbers are cut, the others are as they were, and the bits of the first are behind
abbrev pub invariant-loop-number : goal.invariant-loop-number
invariant-loop-number g l =
    (l.rest ≡ drop (g.row.WIDTH * l.number-index) l.bits) × (l.numbers ≡ cut g.row.WIDTH l.number-index l.bits ++ drop l.number-index l.initial.numbers)
