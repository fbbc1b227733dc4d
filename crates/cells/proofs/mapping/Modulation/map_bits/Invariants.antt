use Rattle.std.proofs.Common.{◌≡◌, ◌*◌, ◌++◌, drop}
use Rattle.cells.specs.Cells.{cell_bits}
use Rattle.cells.specs.Mapping.{mapped}
use Rattle.cells.proofs.mapping.Modulation.map_bits.Given as goal

abbrev pub invariant-loop-cell : goal.invariant-loop-cell
invariant-loop-cell g l =
    (l.rest ≡ drop (cell_bits l.self.order * l.cell-index) l.bits) ×
    (l.cells ≡
    mapped (g.Q.Constellation.point l.self.points.now l.self.order) (cell_bits l.self.order) l.cell-index l.bits ++
    drop l.cell-index l.initial.cells)
