-- The names of the collector's answers.
use Rattle.std.specs.Prelude.{ℕ, List, codes}
use Rattle.messages.specs.declared.content.Placing.{Placing}
use Rattle.messages.specs.declared.content.Placing.TheVariants.{Placed, Complete, Had, Repeat}

abbrev pub placing_name : Placing → List ℕ
placing_name Placed = codes "placed"
placing_name Complete = codes "complete"
placing_name Had = codes "had"
placing_name Repeat = codes "repeat"
