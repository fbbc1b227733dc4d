use Rattle.std.proofs.Common.{◌≡◌, ◌*◌, drop, mul-zero, refl, arith}
use Rattle.cells.specs.Cells.{cell_bits}
use Rattle.cells.specs.Mapping.{mapped, next_cell}
use Rattle.cells.proofs.Streams.{cell_mapped, rest_left}
use Rattle.cells.proofs.mapping.Modulation.map_bits.Goals as goal

pub loop-cell-init : goal.loop-cell-init
unfolding mapped
loop-cell-init g c = (rw mul-zero, refl)

pub loop-cell-preserved : goal.loop-cell-preserved
loop-cell-preserved g c =
    let p = g.Q.Constellation.point c.args.self.now.points.now c.args.self.now.order in
    let w = cell_bits c.args.self.now.order in
    let bits = c.args.bits.now in
    let i = c.loop-cell.cell-index in
    let cell : c.next_cell.result ≡ next_cell p w (drop (w * i) bits) = cc (c.next_cell.ensures, c.loop-cell.invariant.0) in (
      rest_left p w bits c.loop-cell.rest.now i c.min.result (omega arith) c.loop-cell.invariant.0,
      cell_mapped p w bits c.args.cells.now c.loop-cell.cells c.next_cell.result i (omega arith) c.loop-cell.invariant.1 cell,
    )
