use Rattle.std.proofs.Common.{get_or, take, arith}
use Rattle.std.proofs.lemmas.List.{take_more}
use Rattle.reed_solomon.specs.Powers.{times_power}
use Rattle.reed_solomon.specs.ValuesLemmas.{value_at_push}
use Rattle.reed_solomon.proofs.polynomials.Polynomial.value_at.Goals as goal

pub loop-c-preserved : goal.loop-c-preserved
loop-c-preserved c =
    let j = c.args.j in
    let xs = c.args.self.coefficients.now in
    let i = c.loop-c.c-index in
    let value = c.loop-c.value in
    let e = take_more xs i 0 (omega arith) in
    let v = value_at_push j (take i xs) (get_or xs i 0) in
    let p = times_power value.number j value.below in
    cc
