use Rattle.std.proofs.Common.{◌≡◌, refl, ap, ◌∙◌}
use Rattle.std.proofs.lemmas.List.{append-nil, drop_all, take_all}
use Rattle.bits.specs.Scrambling.{following, earlier, scrambled}
use Rattle.bits.proofs.Sequences.{earlier_more, scrambled_more, scrambling}
use Rattle.bits.proofs.scrambling.scramble.Goals as goal

pub loop-bit-init : goal.loop-bit-init
unfolding scrambled
loop-bit-init c = (refl, c.new-sequence.ensures)

pub loop-bit-preserved : goal.loop-bit-preserved
loop-bit-preserved c =
    let value : c.next.result ≡ following (earlier c.loop-bit.bit-index) = c.next.ensures.value ∙ ap following c.loop-bit.invariant.1 in (
      rw value (scrambled_more c.args.bits.now c.loop-bit.bits c.loop-bit.bit-index c.loop-bit-test.true c.loop-bit.invariant.0),
      rw (c.next.ensures.after, value, c.loop-bit.invariant.1) (earlier_more c.loop-bit.bit-index),
    )

value : (c : goal.After-loop-bit) → c.loop-bit.bits ≡ scrambled 0 c.args.bits.now
value c =
    let all = take_all c.loop-bit.bit-index c.args.bits.now c.loop-bit-test.false in
    let none = drop_all c.loop-bit.bit-index c.args.bits.now c.loop-bit-test.false in
    let whole = append-nil (scrambled 0 c.args.bits.now) in
    cc

pub returns : goal.returns
returns c = record { value = value c; recurrence = rw (value c) (scrambling c.args.bits.now) }
