-- How a message ends, as the collector's state has it.
use Rattle.std.specs.Prelude.{ℕ, Some, None, Option}
use Rattle.messages.specs.declared.pieces.Ending.{Ending}

-- the last piece's id, once it is known
abbrev pub last_of : Option Ending → Option ℕ
last_of None = None
last_of (Some e) = Some e.id

-- the message's length, 0 while its last piece is not known
abbrev pub total_of : Option Ending → ℕ
total_of None = 0
total_of (Some e) = e.total
