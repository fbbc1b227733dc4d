use Rattle.std.proofs.Common.{◌≡◌, ℕ, ◌+◌, ◌*◌, ◌^◌, ◌≤◌, take, drop, refl, sym, ap, ◌∙◌, mul-zero, arith, pow_mono}
use Rattle.std.proofs.lemmas.List.{drop-drop}
use Rattle.bits.specs.Bits.{cut, field_at, number_of}
use Rattle.bits.proofs.Bits.{cut_more, field_below}
use Rattle.bits.proofs.numbers.cut.Goals as goal

pub loop-number-init : goal.loop-number-init
unfolding cut
loop-number-init g c = (rw mul-zero, refl)

pub overflow_cast-number : goal.overflow_cast-number
overflow_cast-number g c =
    let w = g.row.WIDTH in
    let i = c.loop-number.number-index in
    let r : c.read_number.result ≡ field_at (w * i) w c.args.bits.now = c.read_number.ensures ∙ ap number_of c.split_at.ensures.front ∙ ap (λ l. number_of (take w l)) c.loop-number.invariant.0 in
    let p : 2 ^ w ≤ 2 ^ 8 = pow_mono c.requires.width in
    omega (arith, field_below (w * i) w c.args.bits.now)

pub loop-number-preserved : goal.loop-number-preserved
loop-number-preserved g c =
    let w = g.row.WIDTH in
    let i = c.loop-number.number-index in
    let bits = c.args.bits.now in
    let r : c.read_number.result ≡ number_of (take w (drop (w * i) bits)) = c.read_number.ensures ∙ ap number_of c.split_at.ensures.front ∙ ap (λ l. number_of (take w l)) c.loop-number.invariant.0 in
    let m = cut_more w bits c.args.numbers.now c.loop-number.numbers i c.loop-number-test.true c.loop-number.invariant.1 in
    let next : w * i + w ≡ w * (i + 1) = omega arith in
    (c.split_at.ensures.back ∙ ap (drop w) c.loop-number.invariant.0 ∙ drop-drop w (w * i) bits ∙ ap (λ (n : ℕ). drop n bits) next, cc)
