use Rattle.std.proofs.Common.{◌≡◌, [], drop, vec_items}
use Rattle.desk.specs.Runs.{values_of}
use Rattle.desk.specs.Words.{texts}
use Rattle.desk.proofs.runs.values.Given as goal

abbrev pub invariant-loop-word : goal.invariant-loop-word
invariant-loop-word g l =
    values_of g.T.Written.value_of (vec_items l.values) (texts (drop l.word-index l.words))
    ≡ values_of g.T.Written.value_of [] (texts l.fn.words)
