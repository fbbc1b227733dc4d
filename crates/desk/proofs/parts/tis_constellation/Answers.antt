use Rattle.modes.specs.Modes.{tis_of}
use Rattle.desk.proofs.Naming.{part_named}
use Rattle.desk.proofs.parts.tis_constellation.Goals as goal

pub returns : goal.returns
returns c = part_named tis_of _ c.args.word.now c.part.ensures
