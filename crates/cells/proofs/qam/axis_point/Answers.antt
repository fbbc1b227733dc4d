use Rattle.std.proofs.Common.{arith}
use Rattle.cells.specs.Cells.{axis_bits}
use Rattle.cells.specs.LowFirst.{low_first-below}
use Rattle.cells.proofs.qam.axis_point.Goals as goal

pub amplitude_of-requires : goal.amplitude_of-requires
amplitude_of-requires c =
    rw c.low_first.ensures (low_first-below (axis_bits c.args.order) c.args.bits.now (omega arith))
