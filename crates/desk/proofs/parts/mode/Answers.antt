use Rattle.std.proofs.Common.{refl}
use Rattle.modes.specs.Modes.{occupancy_of, tis_of, data_of}
use Rattle.desk.proofs.Naming.{part_named}
use Rattle.desk.proofs.parts.mode.Goals as goal

pub returns : goal.returns
returns c =
    rw (← part_named occupancy_of _ c.args.o.now c.in_ok-part.ensures, ← part_named tis_of _ c.args.t.now c.in_ok-part-2.ensures, ← part_named data_of _ c.args.d.now c.in_ok-part-3.ensures)
    refl
