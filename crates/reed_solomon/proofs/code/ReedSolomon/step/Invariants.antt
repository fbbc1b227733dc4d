use Rattle.std.proofs.Common.{◌≡◌, ◌++◌, take, drop}
use Rattle.reed_solomon.proofs.Steps.{step_by}
use Rattle.reed_solomon.proofs.code.ReedSolomon.step.Given as goal

abbrev pub invariant-loop-i : goal.invariant-loop-i
invariant-loop-i g l = l.rest ≡ take l.i (step_by l.self.generator l.fn.rest l.factor.symbol.number) ++ drop l.i l.fn.rest
