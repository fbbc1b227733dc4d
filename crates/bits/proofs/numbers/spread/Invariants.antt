use Rattle.std.proofs.Common.{◌≡◌, ◌*◌, ◌++◌, take, drop}
use Rattle.bits.specs.Bits.{spread}
use Rattle.bits.proofs.numbers.spread.Given as goal

-- the first `i` numbers are written, and the bits behind them are as they were
abbrev pub invariant-loop-i : goal.invariant-loop-i
invariant-loop-i g l = l.bits ≡ spread g.row.WIDTH (take l.i l.numbers) ++ drop (g.row.WIDTH * l.i) l.initial.bits
