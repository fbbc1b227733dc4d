use Rattle.std.proofs.Common.{◌≡◌, take}
use Rattle.reed_solomon.specs.Words.{value_at}
use Rattle.reed_solomon.proofs.polynomials.Polynomial.value_at.Given as goal

abbrev pub invariant-loop-c : goal.invariant-loop-c
invariant-loop-c l = l.value.number ≡ value_at l.j (take l.c-index l.self.coefficients.now)
