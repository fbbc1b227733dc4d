use Rattle.codes.specs.SymbolsLemmas.{below-bits}
use Rattle.figures.proofs.words.check_row.Goals as goal

pub encode-requires-clause-below : goal.encode-requires-clause-below
encode-requires-clause-below g c = below-bits _

pub mend-requires-clause-below : goal.mend-requires-clause-below
mend-requires-clause-below g c = below-bits _

pub mend-requires-2-clause-below : goal.mend-requires-2-clause-below
mend-requires-2-clause-below g c = below-bits _
