use Rattle.std.proofs.Common.{arith}
use Rattle.bits.proofs.Bits.{field_below}
use Rattle.packets.proofs.reading.Fields.of.Goals as goal

pub overflow_cast-result-2 : goal.overflow_cast-result-2
overflow_cast-result-2 c = omega (arith, c.read_number-2.ensures, field_below 15 10 c.args.bits.now)
