use Rattle.std.proofs.Common.{refl, arith}
use Rattle.frames.proofs.OnPlans.{lay_all, lay_more}
use Rattle.frames.proofs.laying.lay.Goals as goal

pub loop-i-init : goal.loop-i-init
loop-i-init c = record { numbers = refl }

pub loop-i-preserved : goal.loop-i-preserved
loop-i-preserved c =
    let e = c.next-cell.ensures in
    record {
      numbers = lay_more _ c.args.plan.now _ c.loop-i.streams.mis.now c.loop-i.streams.tis.now c.loop-i.streams.«data».now _ _ _ c.next-cell.result c.loop-i.numbers c.write_cell.new.numbers c.loop-i.i _
          c.loop-i-test.true (omega arith) (omega arith) c.loop-i.invariant.numbers e.cell c.write_cell.ensures e.mis e.tis e.«data»;
    }

pub returns : goal.returns
returns c = lay_all _ c.args.plan.now _ _ _ c.loop-i.numbers c.loop-i.i (omega arith) (omega arith) c.loop-i.invariant.numbers
