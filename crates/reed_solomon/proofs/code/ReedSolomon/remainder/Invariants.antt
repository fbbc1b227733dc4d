use Rattle.std.proofs.Common.{◌≡◌, drop}
use Rattle.reed_solomon.specs.Generators.{generator_of}
use Rattle.reed_solomon.specs.Words.{divided, Symbols}
use Rattle.reed_solomon.proofs.code.ReedSolomon.remainder.Given as goal

abbrev pub invariant-loop-symbol : goal.invariant-loop-symbol
invariant-loop-symbol g l =
    let generator = generator_of g.row.ROOTS in
    record { below : Symbols l.rest; divided : divided generator l.rest (drop l.symbol-index l.symbol-items) ≡ divided generator l.initial.rest l.symbol-items }
