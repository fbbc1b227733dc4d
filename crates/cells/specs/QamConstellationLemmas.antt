-- QAM decides as many bits as it maps, and a point moved by at most 255 units as it was sent.
use Rattle.std.specs.Prelude.{◌≡◌, ◌^◌, ◌≤◌, Bool, List, length, ℤ}
use Rattle.std.proofs.Common.{ap, ◌∙◌, arith}
use Rattle.cells.specs.declared.cell.Order.{Order}
use Rattle.cells.specs.declared.cell.Order.TheVariants.{Four, Sixteen, SixtyFour}
use Rattle.cells.specs.Cells.{axis_bits, apart}
use Rattle.cells.specs.Qam.{amplitude, decided_number, low_first, low_bits}
use Rattle.cells.specs.Axis.{decided_near}
use Rattle.cells.specs.LowFirst.{low_first-below, low_bits_of}

pub two : (o : Order) → 2 ≤ 2 ^ axis_bits o
two Four = omega arith
two Sixteen = omega arith
two SixtyFour = omega arith

pub axis_steady : (o : Order) (bits : List Bool) (x : ℤ) → length bits ≡ axis_bits o → apart (amplitude (axis_bits o) (low_first bits)) x ≤ 255 → low_bits (axis_bits o) (decided_number (axis_bits o) x) ≡ bits
axis_steady o bits x e h =
    ap (low_bits (axis_bits o))
    (decided_near (axis_bits o) (low_first bits) x (two o) (low_first-below (axis_bits o) bits (omega arith)) h) ∙
    low_bits_of (axis_bits o) bits e
