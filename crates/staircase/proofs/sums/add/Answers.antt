use Rattle.std.proofs.Common.{length, arith}
use Rattle.staircase.specs.Places.{places_is}
use Rattle.staircase.proofs.sums.add.Goals as goal

pub returns : goal.returns
returns c = places_is c.loop-r.sums (length c.args.sums.now) _ (omega arith) (λ r h. c.loop-r.invariant.written r (omega arith))
