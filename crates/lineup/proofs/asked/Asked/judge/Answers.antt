use Rattle.std.proofs.Common.{◌≡◌, rules}
use Rattle.lineup.proofs.Sizes.{known_same}
use Rattle.lineup.proofs.asked.Asked.judge.Goals as goal

pub returns-then-not-data_fits : goal.returns-then-not-data_fits
returns-then-not-data_fits c =
    let exponents = c.in_ok-exponents.exponents in
    let a = c.args.self.now in
    let lift : exponents.shape.lift ≡ a.lift = search rules in
    let values : exponents.values.now ≡ a.exponents.now = search rules in
    let known = known_same lift values exponents.filled.1 in
    ((((c.in_ok-mode.ensures.0, search rules), known), search rules), search rules)

pub returns : goal.returns
returns c =
    let exponents = c.in_ok-exponents.exponents in
    let a = c.args.self.now in
    let lift : exponents.shape.lift ≡ a.lift = search rules in
    let values : exponents.values.now ≡ a.exponents.now = search rules in
    let known = known_same lift values exponents.filled.1 in
    (((((c.in_ok-mode.ensures.0, search rules), known), search rules), search rules), search rules, search rules, values)
