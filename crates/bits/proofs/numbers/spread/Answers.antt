use Rattle.std.proofs.Common.{◌≡◌, ◌+◌, ◌-◌, ◌*◌, ◌≤◌, length, mul-zero, arith}
use Rattle.std.proofs.Math.Nat.{mul-le-mul_left}
use Rattle.bits.specs.Bits.{spread}
use Rattle.bits.proofs.Bits.{spread_more}
use Rattle.bits.proofs.numbers.spread.Goals as goal

pub loop-i-init : goal.loop-i-init
unfolding spread
loop-i-init g c = rw mul-zero

pub loop-i-preserved : goal.loop-i-preserved
loop-i-preserved g c =
    let w = g.row.WIDTH in
    let i = c.loop-i.i in
    let size : w * i + w - w * i ≡ w = omega arith in
    let next : i + 1 ≤ length c.args.numbers.now = omega arith in
    let room = mul-le-mul_left w next in
    rw size
    (spread_more w c.args.numbers.now c.args.bits.now c.loop-i.bits c.write_number.new.bits i c.from.result
    c.loop-i-test.true (omega arith) c.loop-i.invariant (rw size at c.write_number.ensures) c.from.ensures)
