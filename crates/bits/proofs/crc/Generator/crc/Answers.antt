use Rattle.std.proofs.Common.{◌≡◌, ◌-◌, ◌*◌, ◌%◌, ◌^◌, false, get_or, take, arith}
use Rattle.std.proofs.lemmas.List.{take_all, take_more}
use Rattle.bits.specs.Crc.{crc_of, registered}
use Rattle.bits.proofs.Remainders.{crc_remainder, registered-below, registered_push, shifted_one}
use Rattle.bits.proofs.crc.Generator.crc.Goals as goal

pub loop-bit-init : goal.loop-bit-init
unfolding registered
loop-bit-init c = omega (arith, shifted_one c.args.self.width c.args.self.degree)

pub step-register-requires : goal.step-register-requires
step-register-requires c =
    omega (arith, registered-below c.args.self.width c.args.self.polynomial (take c.loop-bit.bit-index c.args.bits.now) c.args.self.lower)

pub loop-bit-preserved : goal.loop-bit-preserved
loop-bit-preserved c =
    let bits = c.args.bits.now in
    let i = c.loop-bit.bit-index in
    let w = c.args.self.width in
    let more = take_more bits i false c.loop-bit-test.true in
    let push = registered_push w c.args.self.polynomial (2 ^ w - 1) (take i bits) (get_or bits i false) in
    cc

pub overflow_sub-result : goal.overflow_sub-result
overflow_sub-result c =
    omega (
      arith,
      shifted_one c.args.self.width c.args.self.degree,
      registered-below c.args.self.width c.args.self.polynomial (take c.loop-bit.bit-index c.args.bits.now) c.args.self.lower,
    )

-- what the code answers is the check
value : (c : goal.After-loop-bit) → (1 * 2 ^ c.args.self.width) % 2 ^ 32 - 1 - c.loop-bit.register ≡ crc_of c.args.self.width c.args.self.polynomial c.args.bits.now
unfolding crc_of
value c =
    let span = shifted_one c.args.self.width c.args.self.degree in
    let all = take_all c.loop-bit.bit-index c.args.bits.now c.loop-bit-test.false in
    cc

pub returns : goal.returns
returns c =
    record {
      value = value c;
      remainder = rw (value c) (crc_remainder c.args.self.width c.args.self.polynomial c.args.bits.now c.args.self.lower);
    }
