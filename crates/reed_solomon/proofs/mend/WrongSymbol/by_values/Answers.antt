use Rattle.std.proofs.Common.{◌≡◌, ◌-◌, ◌<◌, arith}
use Rattle.reed_solomon.specs.Field.{raised}
use Rattle.reed_solomon.specs.Words.{value_at}
use Rattle.reed_solomon.specs.Powers.{times_power}
use Rattle.reed_solomon.proofs.OneWrong.{second_some, same_place, told}
use Rattle.reed_solomon.proofs.mend.WrongSymbol.by_values.Goals as goal

pub returns-then-number-eq0-2 : goal.returns-then-number-eq0-2
returns-then-number-eq0-2 c =
    let given = c.args.given.coefficients.now in
    let some : 0 < value_at 1 given = omega arith in
    (some, λ p e o. second_some given p e o c.args.given.below (cc))

pub returns-then-place-len : goal.returns-then-place-len
returns-then-place-len c =
    let given = c.args.given.coefficients.now in
    let some : 0 < value_at 1 given = omega arith in
    let up : value_at 2 given ≡ raised c.ratio-place.result (value_at 1 given) = cc c.ratio-place.ensures.power in
    (some, λ p e o. omega (arith, o.inside, same_place given p e o c.ratio-place.result c.args.given.below c.requires c.ratio-place.ensures.below up))

pub returns : goal.returns
returns c =
    let given = c.args.given.coefficients.now in
    let p = c.ratio-place.result in
    let value = c.value_at-first.result in
    let some : 0 < value_at 1 given = omega arith in
    let up : value_at 2 given ≡ raised p (value_at 1 given) = cc c.ratio-place.ensures.power in
    let power = times_power value.number (127 - p) value.below in
    let error : c.product-error.result.number ≡ raised (127 - p) (value_at 1 given) = cc in
    rw error (told given p (omega arith) c.requires c.args.given.below some up)
