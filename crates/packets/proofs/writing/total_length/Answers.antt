use Rattle.bits.proofs.ByteLaws.{below_from}
use Rattle.packets.proofs.writing.total_length.Goals as goal

pub returns-clause-octets : goal.returns-clause-octets
returns-clause-octets c = below_from 256 c.args.«data».now (λ i _. (c.type_inv.«data» i).fits)
