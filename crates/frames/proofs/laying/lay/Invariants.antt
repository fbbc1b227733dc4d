use Rattle.std.proofs.Common.{◌≡◌, ◌*◌, ◌++◌, drop, take}
use Rattle.frames.specs.Laying.{laid, numbers_of}
use Rattle.frames.proofs.laying.lay.Given as goal

-- the cells before this one are written, and the streams' cells that are left are those of the rest
abbrev pub invariant-loop-i : goal.invariant-loop-i
invariant-loop-i l =
    record {
      numbers : numbers_of (laid l.plan l.fn.streams.mis.now l.fn.streams.tis.now l.fn.streams.«data».now)
          ≡ take (2 * l.i) l.numbers ++ numbers_of (laid (drop l.i l.plan) l.streams.mis.now l.streams.tis.now l.streams.«data».now);
    }
