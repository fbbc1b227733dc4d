use Rattle.std.proofs.Common.{arith, rules}
use Rattle.reed_solomon.proofs.Reach.{only_given, only_changed, none_near}
use Rattle.reed_solomon.proofs.code.ReedSolomon.mend_one.Goals as goal

pub returns-in_err-by_values : goal.returns-in_err-by_values
returns-in_err-by_values g c =
    let none = rw c.new.ensures at c.in_err-by_values.ensures in
    let never = none_near g.row.ROOTS g.row.MESSAGE c.args.symbols.now c.args.self.now.two (omega arith) c.requires.below (omega arith) none.0 none.1 in
    search (rules, never)

pub returns-in-None : goal.returns-in-None
returns-in-None g c =
    let first = rw (c.in-None.is, c.new.ensures) at c.in_ok-by_values.ensures in
    only_given g.row.ROOTS g.row.MESSAGE c.args.symbols.now c.args.self.now.two (omega arith) c.requires.below (omega arith) first

pub returns-in-Some : goal.returns-in-Some
returns-in-Some g c =
    let wrong = c.in-Some.wrong in
    let one = rw (c.in-Some.is, c.new.ensures) at c.in_ok-by_values.ensures in
    rw c.mend.ensures
    (only_changed g.row.ROOTS g.row.MESSAGE c.args.symbols.now c.args.self.now.two (omega arith) c.requires.below (omega arith) wrong.place wrong.error.number one)
