use Rattle.std.proofs.Common.{◌≡◌, ◌-◌, ◌*◌, ◌≤◌, ◌++◌, drop, length, take}
use Rattle.frames.specs.Laying.{cells_in, picked}
use Rattle.frames.proofs.received.ReceivedCells.gather.Given as goal

-- the cells of the kind before this place are copied, as far as there is room
abbrev pub invariant-loop-i : goal.invariant-loop-i
invariant-loop-i l =
    record {
      room : l.found ≤ length l.initial.cells;
      cells : take (length l.initial.cells) (picked l.wanted l.self.plan.now (cells_in l.self.numbers.now))
          ≡ take l.found l.cells ++ take (length l.initial.cells - l.found) (picked l.wanted (drop l.i l.self.plan.now) (cells_in (drop (2 * l.i) l.self.numbers.now)));
    }
