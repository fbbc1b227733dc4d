use Rattle.std.proofs.Common.{cond, not, ◌==◌, zip, rules, tests, arith}
use Rattle.std.proofs.lemmas.Iterator.{YieldsList-from_slice, YieldsList-from_zip, YieldsList-from_map}
use Rattle.std.proofs.lemmas.Iterator.Consumers.{YieldsList-at, sum_by_from_yields_List, fits_by_from_yields_list}
use Rattle.std.proofs.lemmas.List.Sums.{count_by-le-length}
use Rattle.std.proofs.lemmas.Slice.Zip.{length-zip}
use Rattle.codes.proofs.symbols.count_apart.Goals as goal

pub sum-requires-clause-fits : goal.sum-requires-clause-fits
sum-requires-clause-fits g c =
    let number = g.S.Symbol.number in
    let xs = c.args.a.now in
    let ys = c.args.b.now in
    fits_by_from_yields_list _ _ c.map.result _
    (YieldsList-from_map _ (λ p. cond (not (number p.0 == number p.1)) 1 0)
    (YieldsList-at c.map.ensures.source (YieldsList-from_zip (YieldsList-from_slice xs cc) (YieldsList-from_slice ys cc)))
    c.map.ensures.closure (λ x r q k. search (rules, tests)))
    (omega (arith, count_by-le-length (λ p. not (number p.0 == number p.1)) (zip xs ys), length-zip xs ys))

pub returns-clause-places : goal.returns-clause-places
returns-clause-places g c =
    let number = g.S.Symbol.number in
    sum_by_from_yields_List _ _ c.map.result _ c.sum.ensures.ran
    (YieldsList-from_map _ (λ p. cond (not (number p.0 == number p.1)) 1 0)
    (YieldsList-at c.map.ensures.source (YieldsList-from_zip (YieldsList-from_slice c.args.a.now cc) (YieldsList-from_slice c.args.b.now cc)))
    c.map.ensures.closure (λ x r q k. search (rules, tests)))

pub returns-clause-few : goal.returns-clause-few
returns-clause-few g c =
    let number = g.S.Symbol.number in
    let xs = c.args.a.now in
    let ys = c.args.b.now in
    omega (arith, returns-clause-places g c, count_by-le-length (λ p. not (number p.0 == number p.1)) (zip xs ys), length-zip xs ys)
