use Rattle.std.proofs.Common.{◌≡◌, length, take}
use Rattle.lineup.specs.Kinds.{plan_bytes}
use Rattle.lineup.proofs.cells.write_plan.Given as goal

-- the kinds of the bytes so far are there
abbrev pub invariant-loop-i : goal.invariant-loop-i
invariant-loop-i l =
    record {
      kinds : plan_bytes (take l.i l.kind-items) ≡ take l.i l.bytes;
      count : length l.kind-items ≡ length l.bytes;
    }
