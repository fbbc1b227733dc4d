use Rattle.std.proofs.Common.{◌^◌, ◌≤◌, ◌-◌, length, arith, rules}
use Rattle.std.proofs.lemmas.Iterator.{YieldsList-from_slice}
use Rattle.std.proofs.lemmas.Iterator.Adapters.{fits_from_length, at_most_from_yields_List}
use Rattle.lineup.proofs.cells.count.Goals as goal

-- a slice has less than 2 ^ 63 bytes, and each gives 1 at most
pub sum-requires-clause-fits : goal.sum-requires-clause-fits
sum-requires-clause-fits c =
    let few : length c.args.plan.now ≤ 2 ^ 63 - 1 = omega arith in
    fits_from_length _ _ (2 ^ 63 - 1) (2 ^ 64) (at_most_from_yields_List (YieldsList-from_slice c.args.plan.now cc) few) c.map.ensures.closure (omega arith) (λ x r q k. search rules)
