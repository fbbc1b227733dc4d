use Rattle.std.proofs.Common.{length, take, arith}
use Rattle.lineup.specs.declared.kind.CellKind.TheVariants.{Empty}
use Rattle.frames.specs.Laying.{cells_in, picked}
use Rattle.frames.proofs.OnPlans.{gather_all, gather_here, gather_full, gather_other}
use Rattle.frames.proofs.received.ReceivedCells.gather.Goals as goal
use Rattle.frames.proofs.received.ReceivedCells.gather.Goals.{then-is_of+then-found-cells, else-is_of, else-is_of-via-then-is_of+else-found-cells, else-is_of-via-else-is_of}

pub loop-i-preserved : goal.loop-i-preserved
loop-i-preserved c =
    let plan = c.args.self.plan.now in
    let numbers = c.args.self.numbers.now in
    let n = length c.args.cells.now in
    let i = c.loop-i.i in
    let all = take n (picked c.args.wanted plan (cells_in numbers)) in
    let inv = c.loop-i.invariant in
    elim c.if-is_of.branch [
      | then-is_of+then-found-cells w ↦
          record {
            room = omega arith;
            cells = rw w.found-is (gather_here c.args.wanted plan numbers Empty all c.loop-i.cells n c.loop-i.found i c.loop-i-test.true (omega arith) inv.cells (cc) (omega arith) (omega arith) c.if-is_of.cells (cc));
          }
      | else-is_of w ↦ elim w.else-is_of.branch [
        | else-is_of-via-then-is_of+else-found-cells v ↦ record { room = omega arith; cells = rw (w.found-is, w.cells-is) (gather_full c.args.wanted plan numbers Empty all c.loop-i.cells n c.loop-i.found i c.loop-i-test.true (omega arith) inv.cells (omega arith)) }
        | else-is_of-via-else-is_of v ↦ record { room = omega arith; cells = rw (w.found-is, w.cells-is) (gather_other c.args.wanted plan numbers Empty all c.loop-i.cells n c.loop-i.found i c.loop-i-test.true (omega arith) inv.cells (cc)) }
      ]
    ]

pub returns : goal.returns
returns c =
    gather_all c.args.wanted c.args.self.plan.now c.args.self.numbers.now c.loop-i.cells (length c.args.cells.now) c.loop-i.found c.loop-i.i (omega arith) (omega arith) (omega arith) (omega arith) (omega arith) c.loop-i.invariant.cells
