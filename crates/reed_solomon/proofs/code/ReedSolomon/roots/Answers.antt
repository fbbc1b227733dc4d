use Rattle.std.proofs.Common.{arith}
use Rattle.reed_solomon.specs.Codes.{code_by_roots}
use Rattle.reed_solomon.proofs.code.ReedSolomon.roots.Goals as goal

pub returns-clause-words : goal.returns-clause-words
returns-clause-words g c = code_by_roots g.row.ROOTS g.row.MESSAGE (omega arith) (omega arith)
