use Rattle.std.proofs.Common.{rules, arith}
use Rattle.std.proofs.lemmas.Int.{to_z-of_z}
use mir.Syntax.{w16}
use mir.Val.{SFits}
use Rattle.desk.proofs.Cells.{Sets-none, Sets-real, Sets-imaginary}
use Rattle.desk.proofs.settings.Setting.apply.Goals as goal

pub returns-then-index-cells : goal.returns-then-index-cells
returns-then-index-cells c = Sets-none c.args.self c.args.cells.now (omega arith)

pub returns-then-self-eq0 : goal.returns-then-self-eq0
returns-then-self-eq0 c =
    let f : SFits w16 c.args.self.value = search rules in
    rw (to_z-of_z w16 c.args.self.value f) (Sets-real c.args.self c.args.cells.now _ (omega arith) (omega arith))

pub returns-else-self-eq0 : goal.returns-else-self-eq0
returns-else-self-eq0 c =
    let f : SFits w16 c.args.self.value = search rules in
    rw (to_z-of_z w16 c.args.self.value f) (Sets-imaginary c.args.self c.args.cells.now _ (omega arith) (omega arith))
