use Rattle.std.proofs.Common.{◌≡◌, ◌*◌, min, ◌++◌, length, take, drop}
use Rattle.cells.specs.Cells.{cell_bits}
use Rattle.cells.specs.Mapping.{decided_bits}
use Rattle.cells.proofs.mapping.Modulation.decide_bits.Given as goal

-- the bits of the first `i` cells are decided, and those behind them are as they were
abbrev pub invariant-loop-i : goal.invariant-loop-i
invariant-loop-i g l =
    let done = min (length l.initial.bits) (cell_bits l.self.order * l.i) in
    l.bits ≡
    take done (decided_bits (g.Q.Constellation.decided l.self.points.now l.self.order) (take l.i l.cells)) ++
    drop done l.initial.bits
