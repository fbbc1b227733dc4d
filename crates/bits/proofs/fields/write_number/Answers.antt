use Rattle.std.proofs.Common.{◌∷◌, ◌^◌, ◌/◌, ◌%◌, eqb, ap, refl, add-one, arith, shr-shr}
use Rattle.std.proofs.lemmas.List.{reverse-append, take_more_set}
use Rattle.bits.specs.Bits.{bits_of}
use Rattle.bits.proofs.fields.write_number.Goals as goal

pub loop-bit-init : goal.loop-bit-init
unfolding bits_of
loop-bit-init c = (refl, omega arith)

pub loop-bit-preserved : goal.loop-bit-preserved
unfolding bits_of
loop-bit-preserved c =
    let i = c.loop-bit.bit-index in
    let bit = eqb (c.loop-bit.rest % 2) 1 in
    let front = take_more_set c.loop-bit.bits i bit (omega arith) in (
      rw (front, reverse-append, add-one, c.loop-bit.invariant.1) (ap (λ l. eqb (c.args.value / 2 ^ i % 2) 1 ∷ l) c.loop-bit.invariant.0),
      rw c.loop-bit.invariant.1 (shr-shr c.args.value i 1),
    )
