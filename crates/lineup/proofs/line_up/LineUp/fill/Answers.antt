use Rattle.std.proofs.Common.{Some, vec_items, refl, ◌∙◌, arith, rules}
use Rattle.std.proofs.lemmas.Result.{err_from_is_err_and}
use Rattle.lineup.specs.Judging.{Forms, asked_by, held}
use Rattle.lineup.specs.LineUps.{Pass8}
use Rattle.lineup.proofs.Sizes.{whole_le}
use Rattle.lineup.proofs.Views.{held_is, holds}
use Rattle.lineup.proofs.line_up.LineUp.fill.Goals as goal

pub write_plan-requires-clause-room : goal.write_plan-requires-clause-room
write_plan-requires-clause-room g c =
    let judged = c.in_ok-mode.ensures in
    let few = whole_le c.args.asked.occupancy c.in_ok-mode.mode.occupancy c.args.asked.plan.now judged.1.0 judged.0.0.0.0.0.0.0.1 in
    omega arith

pub invariant_of-self : goal.invariant_of-self
invariant_of-self g c =
    let a = asked_by c.args.asked in
    let judged = c.in_ok-mode.ensures in
    let mode = c.in_ok-mode.mode in
    let plan = vec_items c.write_plan.new.plan in
    let code = c.fill.new.self in
    let shape = g.D.DataCode.shape code in
    let exponents = g.D.DataCode.exponents code in
    let forms : Forms shape a = search rules in
    let same = held_is mode plan shape exponents a judged.1 forms c.write_plan.ensures.kinds (c.fill.ensures.exponents ∙ judged.3) in
    record { passed = holds (held (Some mode) plan shape exponents) a Pass8 same judged.0; room = omega arith }

pub returns-clause-filled : goal.returns-clause-filled
returns-clause-filled g c =
    let a = asked_by c.args.asked in
    let judged = c.in_ok-mode.ensures in
    let code = c.fill.new.self in
    let forms : Forms (g.D.DataCode.shape code) a = search rules in
    (judged.0, held_is c.in_ok-mode.mode (vec_items c.write_plan.new.plan) (g.D.DataCode.shape code) (g.D.DataCode.exponents code) a judged.1 forms c.write_plan.ensures.kinds (c.fill.ensures.exponents ∙ judged.3))

pub returns-in_err-mode-clause-filled : goal.returns-in_err-mode-clause-filled
returns-in_err-mode-clause-filled g c =
    let p = err_from_is_err_and c.from_residual.result c.from_residual.ensures.1 in
    rw (p.1, p.2) (c.in_err-mode.ensures, refl)

pub returns-in_err-mode-clause-kept : goal.returns-in_err-mode-clause-kept
returns-in_err-mode-clause-kept g c =
    let p = err_from_is_err_and c.from_residual.result c.from_residual.ensures.1 in
    rw p.1 (refl {a = c.args.self.now})
